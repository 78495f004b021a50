use Rattle.std.proofs.Common.{refl, sym, ◌≡◌, arith, rules}
use Rattle.oas_ring.specs.Points.{point_at}
use Rattle.oas_ring.proofs.ReadingLemmas.{agree_more}
use Rattle.oas_ring.proofs.sameness.same_readings.Goals as goal

pub loop-k-preserved : goal.loop-k-preserved
loop-k-preserved c =
    let p = c.args.a.now in
    let q = c.args.b.now in
    let same : point_at p c.place-i.result ≡ point_at q c.place-j.result = search rules in
    agree_more p q c.args.in_a c.args.in_b c.loop-k.k c.place-i.result c.place-j.result
    (omega arith) c.requires.same (c.place-i.ensures.point p refl) (c.place-j.ensures.point q (sym c.requires.same))
    same c.loop-k.invariant
