use Rattle.std.proofs.lemmas.Result.{err_from_is_err_and}
use Rattle.oas_judge.proofs.RecordSteps.{seen_none}
use Rattle.oas_judge.proofs.SeriesParts.{rest_parts}
use Rattle.oas_judge.proofs.parts.judge_parts.Goals as goal

pub returns-in_err-stop : goal.returns-in_err-stop
returns-in_err-stop g c =
    let p = err_from_is_err_and c.from_residual.result c.from_residual.ensures.1 in
    rw (p.1, p.2) (λ profile b. c.in_err-stop.ensures profile _ _ _ b (seen_none b))

pub returns-in-Some : goal.returns-in-Some
returns-in-Some g c =
    let stopped = rw c.in-Some.is at c.in_ok-stop.ensures in
    λ profile b. stopped profile _ _ _ b (seen_none b)

pub returns : goal.returns
returns g c =
    let series = rw c.in_default.is at c.in_ok-stop.ensures in
    rest_parts g.C.CellStore.store c.args.head _ _ _ _ _ _ _ _ _ c.judge_rest.result series c.judge_rest.ensures
