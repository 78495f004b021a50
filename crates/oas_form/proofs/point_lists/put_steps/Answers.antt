use Rattle.std.proofs.lemmas.Result.{err_from_is_err_and}
use Rattle.oas_form.proofs.PointPutting.{step_fails, step_put}
use Rattle.oas_form.proofs.point_lists.put_steps.Goals as goal

pub returns-in_err-count-clause-counts : goal.returns-in_err-count-clause-counts
returns-in_err-count-clause-counts g c =
    let p = err_from_is_err_and c.from_residual.result c.from_residual.ensures.1 in
    rw p.1 (step_fails _ _ _ c.loop-point-test.true c.loop-point.invariant c.in_err-count.ensures.counts)

pub loop-point-preserved : goal.loop-point-preserved
loop-point-preserved g c = step_put _ _ _ c.loop-point-test.true c.loop-point.invariant c.in_ok-count.ensures.counts c.in_ok-count.ensures.short
