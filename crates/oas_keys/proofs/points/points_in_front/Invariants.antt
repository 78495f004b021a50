use Rattle.std.proofs.Common.{length}
use Rattle.oas_keys.proofs.PointLemmas.{Counting}
use Rattle.oas_keys.proofs.points.points_in_front.Given as goal

abbrev pub invariant-loop-left : goal.invariant-loop-left
invariant-loop-left l = Counting l.fn.bytes l.left l.count

abbrev pub decreases-loop-left : goal.decreases-loop-left
decreases-loop-left l = length l.left
