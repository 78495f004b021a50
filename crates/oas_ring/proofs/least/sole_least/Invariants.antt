use Rattle.oas_ring.proofs.SoleLemmas.{IsLeastOf}
use Rattle.oas_ring.proofs.least.sole_least.Given as goal

-- the least of the points so far
abbrev pub invariant-loop-i : goal.invariant-loop-i
invariant-loop-i l = IsLeastOf l.points l.i l.start l.least l.sole
