use Rattle.std.specs.Prelude.{false}
use Rattle.oas_num.specs.declared.deltas.GDelta.{GDelta}
use Rattle.oas_shape.proofs.RangeLemmas.{Stays}
use Rattle.oas_shape.proofs.in_range.stays_plain.Given as goal

abbrev pub invariant-loop-delta : goal.invariant-loop-delta
invariant-loop-delta l = (by : GDelta) × Stays false l.deltas l.fn.at l.last by l.delta-index
