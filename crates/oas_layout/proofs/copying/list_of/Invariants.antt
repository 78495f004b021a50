use Rattle.std.proofs.Common.{◌≡◌, ◌++◌}
use Rattle.oas_layout.proofs.copying.list_of.Given as goal

abbrev pub invariant-loop-point : goal.invariant-loop-point
invariant-loop-point l = l.items.items ++ l.point-iterator ≡ l.fn.points
