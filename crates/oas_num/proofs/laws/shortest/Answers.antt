use Rattle.oas_num.specs.Laws.WritingLaws.{shortest_only}
use Rattle.oas_num.specs.Laws.StyleLaws.{shortest-IsShortest}
use Rattle.oas_num.proofs.WritingLemmas.{shortest_signed-IsShortestSigned}
use Rattle.oas_num.proofs.laws.shortest.Goals as goal

pub returns : goal.returns
returns c = record { unsigned = shortest-IsShortest; only = shortest_only; signed = shortest_signed-IsShortestSigned }
