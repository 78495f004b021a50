use Rattle.oas_num.specs.Laws.StyleLaws.{PrefixFree-unsigned, OneSpelling-unsigned, IsWithin-unsigned}
use Rattle.oas_num.proofs.laws.unsigned.Goals as goal

pub returns : goal.returns
returns c = record { front = PrefixFree-unsigned; one = OneSpelling-unsigned; within = IsWithin-unsigned }
