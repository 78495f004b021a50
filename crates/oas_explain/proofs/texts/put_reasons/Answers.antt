use Rattle.std.proofs.lemmas.Result.{err_from_is_err_and}
use Rattle.oas_num.proofs.PuttingLemmas.{item_put, item_fails}
use Rattle.oas_explain.specs.Texts.{reason_text}
use Rattle.oas_explain.proofs.texts.put_reasons.Goals as goal

pub returns-in_err-put_reason : goal.returns-in_err-put_reason
returns-in_err-put_reason g c =
    let p = err_from_is_err_and c.from_residual.result c.from_residual.ensures.1 in
    rw p.1 (item_fails reason_text c.args.reasons.now c.loop-reason.reason-index _ c.loop-reason-test.true c.loop-reason.invariant c.in_err-put_reason.ensures)

pub loop-reason-preserved : goal.loop-reason-preserved
loop-reason-preserved g c =
    item_put reason_text c.args.reasons.now c.loop-reason.reason-index _ c.loop-reason-test.true c.loop-reason.invariant c.in_ok-put_reason.ensures
