use Rattle.std.specs.Prelude.{true}
use Rattle.oas_num.specs.Deltas.{step}
use Rattle.oas_shape.proofs.RangeLemmas.{Stays}
use Rattle.oas_shape.proofs.in_range.stays_displaced.Given as goal

abbrev pub invariant-loop-delta : goal.invariant-loop-delta
invariant-loop-delta l = Stays true l.deltas l.fn.at l.last (step l.by.x l.by.y) l.delta-index
