use Rattle.std.specs.Prelude.{true}
use Rattle.oas_num.specs.Deltas.{step}
use Rattle.oas_shape.proofs.VertexLemmas.{Walked}
use Rattle.oas_shape.proofs.vertices.walk_displaced.Given as goal

abbrev pub invariant-loop-delta : goal.invariant-loop-delta
invariant-loop-delta l = Walked true l.deltas l.fn.at l.points.items l.last (step l.by.x l.by.y) l.delta-index
