use Rattle.std.proofs.Common.{◌≡◌, ◌≤◌, ◌+◌, ◌-◌, ◌*◌, length}
use Rattle.oas_ring.specs.Readings.{directed}
use Rattle.oas_ring.specs.Race.{IsRace}
use Rattle.oas_ring.proofs.least.least_turn.Given as goal

-- Each comparison makes best + rival + agreed rise.
abbrev pub invariant-loop-race : goal.invariant-loop-race
invariant-loop-race g l =
    let points = g.V.RingView.points in
    let steps = g.V.RingView.steps in
    record {
      fixed : points l.view ≡ points l.fn.view;
      race : IsRace (directed l.backwards (points l.fn.view)) l.race;
      bounded : l.race.best + l.race.rival + l.race.agreed ≤ 3 * length (points l.fn.view);
      cost : steps l.view ≤ steps l.fn.view + (l.race.best + l.race.rival + l.race.agreed);
    }

abbrev pub decreases-loop-race : goal.decreases-loop-race
decreases-loop-race g l =
    let points = g.V.RingView.points in
    3 * length (points l.view) - (l.race.best + l.race.rival + l.race.agreed)
