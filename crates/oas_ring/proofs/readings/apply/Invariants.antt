use Rattle.std.proofs.Common.{◌≡◌, take}
use Rattle.oas_ring.specs.Readings.{reading_of}
use Rattle.oas_ring.proofs.readings.apply.Given as goal

-- the points so far are those of the reading
abbrev pub invariant-loop-k : goal.invariant-loop-k
invariant-loop-k l = l.read.items ≡ take l.k (reading_of l.points l.reading)
