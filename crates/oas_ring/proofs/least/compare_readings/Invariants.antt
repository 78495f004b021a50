use Rattle.std.proofs.Common.{◌≡◌, ◌≤◌, ◌+◌, drop}
use Rattle.oas_ring.specs.Points.{list_cmp}
use Rattle.oas_ring.specs.Readings.{reading_of}
use Rattle.oas_ring.proofs.least.compare_readings.Given as goal

-- what is left decides
abbrev pub invariant-loop-k : goal.invariant-loop-k
invariant-loop-k g l =
    let points = g.V.RingView.points in
    let steps = g.V.RingView.steps in
    let p = points l.fn.view in
    let a = reading_of p l.a in
    let b = reading_of p l.b in
    record {
      fixed : points l.view ≡ p;
      left : list_cmp (drop l.k a) (drop l.k b) ≡ list_cmp a b;
      cost : steps l.view ≤ steps l.fn.view + l.k;
    }
