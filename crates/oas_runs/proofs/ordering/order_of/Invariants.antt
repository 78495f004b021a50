use Rattle.std.proofs.Common.{◌≡◌, length}
use Rattle.std.specs.Cmp.Lexicographic.{slice_cmp}
use Rattle.std.specs.Ordering.{nat_cmp}
use Rattle.oas_runs.proofs.ordering.order_of.Given as goal

-- what is left of both decides
abbrev pub invariant-loop-left : goal.invariant-loop-left
invariant-loop-left l = slice_cmp nat_cmp l.left l.right ≡ slice_cmp nat_cmp l.fn.one l.fn.other

abbrev pub decreases-loop-left : goal.decreases-loop-left
decreases-loop-left l = length l.left
