use Rattle.std.specs.Prelude.{false}
use Rattle.oas_num.specs.declared.deltas.GDelta.{GDelta}
use Rattle.oas_shape.proofs.VertexLemmas.{Walked}
use Rattle.oas_shape.proofs.vertices.walk_plain.Given as goal

abbrev pub invariant-loop-delta : goal.invariant-loop-delta
invariant-loop-delta l = (by : GDelta) × Walked false l.deltas l.fn.at l.points.items l.last by l.delta-index
