use Rattle.oas_num.specs.Laws.TextLaws.{PrefixFree-name, OneSpelling-name, IsWithin-name}
use Rattle.oas_num.proofs.laws.names.Goals as goal

pub returns : goal.returns
returns c = record { front = PrefixFree-name; one = OneSpelling-name; within = IsWithin-name }
