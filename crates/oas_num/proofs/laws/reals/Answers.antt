use Rattle.oas_num.specs.Laws.RealLaws.{PrefixFree-real, OneSpelling-real, IsWithin-real}
use Rattle.oas_num.proofs.laws.reals.Goals as goal

pub returns : goal.returns
returns c = record { front = PrefixFree-real; one = OneSpelling-real; within = IsWithin-real }
