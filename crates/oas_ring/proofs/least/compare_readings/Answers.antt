use Rattle.std.proofs.Common.{sym, ◌∙◌, arith}
use Rattle.oas_ring.specs.Points.{list_cmp}
use Rattle.oas_ring.specs.Readings.{reading_of}
use Rattle.oas_ring.proofs.ReadingLemmas.{readings_more, readings_decided}
use Rattle.oas_ring.proofs.least.compare_readings.Goals as goal

pub loop-k-preserved : goal.loop-k-preserved
loop-k-preserved g c =
    let p = g.V.RingView.points c.args.view.now in
    let same = sym c.len-count.ensures in
    let all = list_cmp (reading_of p c.args.a) (reading_of p c.args.b) in
    let order = rw c.loop-k.invariant.fixed at c.compare.ensures.order in
    record {
      fixed = c.compare.ensures.fixed ∙ c.loop-k.invariant.fixed;
      left = readings_more p c.args.a c.args.b c.loop-k.k c.place-i.result c.place-j.result c.compare.result all
          (omega arith) (c.place-i.ensures.point p same) (c.place-j.ensures.point p same) order c.in-Equal.is
          c.loop-k.invariant.left;
      cost = omega arith;
    }

pub returns-in_default : goal.returns-in_default
returns-in_default g c =
    let p = g.V.RingView.points c.args.view.now in
    let same = sym c.len-count.ensures in
    let all = list_cmp (reading_of p c.args.a) (reading_of p c.args.b) in
    let order = rw c.loop-k.invariant.fixed at c.compare.ensures.order in
    record {
      order = readings_decided p c.args.a c.args.b c.loop-k.k c.place-i.result c.place-j.result c.compare.result all
          (omega arith) (c.place-i.ensures.point p same) (c.place-j.ensures.point p same) order c.in_default.not-Equal
          c.loop-k.invariant.left;
      cost = omega arith;
      fixed = c.compare.ensures.fixed ∙ c.loop-k.invariant.fixed;
    }
