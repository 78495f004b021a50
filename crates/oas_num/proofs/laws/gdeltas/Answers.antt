use Rattle.oas_num.specs.Laws.DeltaLaws.{PrefixFree-gdelta, OneSpelling-gdelta, IsWithin-gdelta, shortest_gdelta-spells}
use Rattle.oas_num.proofs.laws.gdeltas.Goals as goal

pub returns : goal.returns
returns c = record { front = PrefixFree-gdelta; one = OneSpelling-gdelta; within = IsWithin-gdelta; written = shortest_gdelta-spells }
