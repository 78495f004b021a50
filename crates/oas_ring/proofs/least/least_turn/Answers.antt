use Rattle.std.proofs.Common.{◌≤◌, length, ◌∙◌, inl, inr, arith}
use Rattle.oas_ring.specs.Readings.{directed}
use Rattle.oas_ring.proofs.ReadingLemmas.{length-directed}
use Rattle.oas_ring.proofs.RaceLemmas.{race_won}
use Rattle.oas_ring.proofs.least.least_turn.Goals as goal

pub loop-race-preserved : goal.loop-race-preserved
loop-race-preserved g c =
    let points = g.V.RingView.points in
    let p = points c.args.view.now in
    let q = directed c.args.backwards p in
    let same = length-directed c.args.backwards p in
    let order = rw c.loop-race.invariant.fixed at c.compare_next-order.ensures.order in
    record {
      fixed = c.compare_next-order.ensures.fixed ∙ c.loop-race.invariant.fixed;
      race = c.advance-race.ensures.race q c.loop-race.invariant.race (omega arith) (omega arith) order;
      bounded = omega (arith, c.advance-race.ensures.bounded c.loop-race.invariant.race.ahead);
      cost = omega arith;
    }

pub returns-else-race-count-clause-least : goal.returns-else-race-count-clause-least
returns-else-race-count-clause-least g c =
    let p = g.V.RingView.points c.args.view.now in
    let same = length-directed c.args.backwards p in
    let all : length (directed c.args.backwards p) ≤ c.loop-race.race.agreed = omega arith in
    race_won (directed c.args.backwards p) c.loop-race.race c.loop-race.invariant.race (inr all)

pub returns-after-loop-race-clause-least : goal.returns-after-loop-race-clause-least
returns-after-loop-race-clause-least g c =
    let p = g.V.RingView.points c.args.view.now in
    let same = length-directed c.args.backwards p in
    let past : length (directed c.args.backwards p) ≤ c.loop-race.race.rival = omega arith in
    race_won (directed c.args.backwards p) c.loop-race.race c.loop-race.invariant.race (inl past)
