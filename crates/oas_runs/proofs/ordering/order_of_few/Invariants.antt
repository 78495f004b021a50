use Rattle.std.proofs.Common.{◌≡◌, drop}
use Rattle.std.specs.Cmp.Lexicographic.{slice_cmp}
use Rattle.std.specs.Ordering.{nat_cmp}
use Rattle.oas_runs.proofs.ordering.order_of_few.Given as goal

-- what comes after the bytes that are the same decides
abbrev pub invariant-loop-i : goal.invariant-loop-i
invariant-loop-i l = slice_cmp nat_cmp (drop l.i l.one) (drop l.i l.other) ≡ slice_cmp nat_cmp l.one l.other
