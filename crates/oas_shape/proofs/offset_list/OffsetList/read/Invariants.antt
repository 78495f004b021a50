use Rattle.std.proofs.Common.{[], ◌∷◌, ◌++◌}
use Rattle.oas_shape.proofs.OffsetLemmas.{Summing}
use Rattle.oas_shape.proofs.offset_list.OffsetList.read.Given as goal

abbrev pub invariant-loop-items : goal.invariant-loop-items
invariant-loop-items g l = Summing l.along l.grid (g.S.Source.script l.fn.source) (g.S.Source.script l.source) (l.items.items ++ l.last ∷ []) l.last l.left l.more

abbrev pub decreases-loop-items : goal.decreases-loop-items
decreases-loop-items g l = l.left
