use Rattle.std.proofs.lemmas.Result.{err_from_is_err_and}
use Rattle.oas_judge.proofs.SeriesParts.{next_stops}
use Rattle.oas_judge.proofs.parts.judge_series.Goals as goal

pub returns-in_err-stop : goal.returns-in_err-stop
returns-in_err-stop g c =
    let p = err_from_is_err_and c.from_residual.result c.from_residual.ensures.1 in
    rw (p.1, p.2) (λ profile now first judge b m. c.in_err-stop.ensures profile now first judge b (c.series.invariant.seen profile now first judge b m))

pub series-preserved : goal.series-preserved
series-preserved g c =
    let more = rw c.in-Judged-default.is-0 at c.in_ok-stop.ensures in
    record { place = c.at-at-in-Judged-default.ensures; seen = λ profile now first judge b m. (more.1 profile now first judge b (c.series.invariant.seen profile now first judge b m)).0 }

pub returns-in_default : goal.returns-in_default
returns-in_default g c = λ profile now first judge b m.
    next_stops g.C.CellStore.store c.args.head.now _ _ _ _ _ _ _ _ c.in_ok-stop.ensures profile now first judge b (c.series.invariant.seen profile now first judge b m)

pub returns-in_default-2 : goal.returns-in_default-2
returns-in_default-2 g c = λ profile now first judge b m.
    next_stops g.C.CellStore.store c.args.head.now _ _ _ _ _ _ _ _ c.in_ok-stop.ensures profile now first judge b (c.series.invariant.seen profile now first judge b m)

pub returns : goal.returns
returns g c = λ profile now first judge b m. c.series.invariant.seen profile now first judge b m
