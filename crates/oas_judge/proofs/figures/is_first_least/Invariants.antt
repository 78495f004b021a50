use Rattle.std.proofs.Common.{true}
use Rattle.oas_ring.proofs.SoleLemmas.{IsLeastOf}
use Rattle.oas_judge.proofs.figures.is_first_least.Given as goal

-- the first is the least of the points so far
abbrev pub invariant-loop-i : goal.invariant-loop-i
invariant-loop-i l = IsLeastOf l.points l.i 0 l.first true
