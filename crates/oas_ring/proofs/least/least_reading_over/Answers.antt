use Rattle.std.proofs.Common.{sym, ◌∙◌, ap, length, arith}
use Rattle.oas_ring.specs.Readings.{reading_of}
use Rattle.oas_ring.proofs.ReadingLemmas.{least_of_both}
use Rattle.oas_ring.specs.Laws.PointsLaws.{not_below_itself, not_below_from_above, not_below_from_not_above}
use Rattle.oas_ring.proofs.least.least_reading_over.Goals as goal

pub returns-in-Greater-clause-least : goal.returns-in-Greater-clause-least
returns-in-Greater-clause-least g c =
    let p = g.V.RingView.points c.args.view.now in
    let f = c.reading_from-forwards in
    let b = c.reading_from-backwards in
    let back_least = rw c.least_turn-forth.ensures.fixed at c.least_turn-back.ensures.least in
    let order = rw (c.least_turn-back.ensures.fixed, c.least_turn-forth.ensures.fixed) at c.compare_readings.ensures.order in
    let same = sym c.len-count.ensures in
    least_of_both p f.result b.result b.result c.least_turn-forth.result c.least_turn-back.result c.requires.some
    (f.ensures.reading p same) c.least_turn-forth.ensures.least (b.ensures.reading p same) back_least
    (not_below_from_above (reading_of p f.result) (reading_of p b.result) c.compare_readings.result order c.in-Greater.is)
    (not_below_itself (reading_of p b.result))

pub returns-in_default : goal.returns-in_default
returns-in_default g c =
    let p = g.V.RingView.points c.args.view.now in
    let f = c.reading_from-forwards in
    let b = c.reading_from-backwards in
    let back_least = rw c.least_turn-forth.ensures.fixed at c.least_turn-back.ensures.least in
    let order = rw (c.least_turn-back.ensures.fixed, c.least_turn-forth.ensures.fixed) at c.compare_readings.ensures.order in
    let same = sym c.len-count.ensures in
    let shorter = ap length c.least_turn-forth.ensures.fixed in
    let shortest = ap length c.least_turn-back.ensures.fixed in
    record {
      start = omega arith;
      least = least_of_both p f.result b.result f.result c.least_turn-forth.result c.least_turn-back.result c.requires.some
          (f.ensures.reading p same) c.least_turn-forth.ensures.least (b.ensures.reading p same) back_least
          (not_below_itself (reading_of p f.result))
          (not_below_from_not_above (reading_of p f.result) (reading_of p b.result) c.compare_readings.result order c.in_default.not-Greater);
      cost = omega arith;
      fixed = c.compare_readings.ensures.fixed ∙ c.least_turn-back.ensures.fixed ∙ c.least_turn-forth.ensures.fixed;
    }
