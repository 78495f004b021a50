use Rattle.std.proofs.Common.{◌≡◌, take}
use Rattle.oas_ring.specs.Readings.{reading_of}
use Rattle.oas_ring.proofs.sameness.same_readings.Given as goal

-- the points so far agree
abbrev pub invariant-loop-k : goal.invariant-loop-k
invariant-loop-k l = take l.k (reading_of l.a l.in_a) ≡ take l.k (reading_of l.b l.in_b)
