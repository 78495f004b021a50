use Rattle.std.proofs.Common.{refl, sym, ap, ◌∙◌, ◌++◌, [], ◌∷◌, arith}
use Rattle.oas_ring.specs.Points.{point_at}
use Rattle.oas_ring.proofs.ReadingLemmas.{reading_push, reading_all}
use Rattle.oas_ring.proofs.readings.apply.Goals as goal

pub loop-k-preserved : goal.loop-k-preserved
loop-k-preserved c =
    let p = c.args.points.now in
    c.in_ok-push.ensures.items
    ∙ ap (λ t. t ++ point_at p c.place-i.result ∷ []) c.loop-k.invariant
    ∙ sym (reading_push p c.args.reading c.loop-k.k c.place-i.result (omega arith) (c.place-i.ensures.point p refl))

pub returns : goal.returns
returns c = c.loop-k.invariant ∙ reading_all c.args.points.now c.args.reading c.loop-k.k (omega arith)
