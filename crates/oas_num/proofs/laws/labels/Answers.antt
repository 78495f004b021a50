use Rattle.oas_num.specs.Laws.TextLaws.{PrefixFree-label, OneSpelling-label, IsWithin-label}
use Rattle.oas_num.proofs.laws.labels.Goals as goal

pub returns : goal.returns
returns c = record { front = PrefixFree-label; one = OneSpelling-label; within = IsWithin-label }
