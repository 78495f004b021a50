use Rattle.std.proofs.lemmas.Result.{err_from_is_err_and}
use Rattle.oas_form.proofs.NumberPutting.{number_starts, group_put, group_fails, last_put, last_group_fails}
use Rattle.oas_form.proofs.parts.put_long.Goals as goal

pub loop-rest-init : goal.loop-rest-init
loop-rest-init g c = number_starts _ _ c.ranges.value.fits

pub returns-in_err-put-clause-counts : goal.returns-in_err-put-clause-counts
returns-in_err-put-clause-counts g c =
    let p = err_from_is_err_and c.from_residual.result c.from_residual.ensures.1 in
    rw p.1 (group_fails c.loop-rest.invariant _ c.loop-rest-test.true (rw c.lowest.ensures at c.in_err-put.ensures))

pub loop-rest-preserved : goal.loop-rest-preserved
loop-rest-preserved g c = group_put c.loop-rest.invariant _ c.loop-rest-test.true (rw c.lowest.ensures at c.in_ok-put.ensures)

pub returns-in_err-put-2-clause-counts : goal.returns-in_err-put-2-clause-counts
returns-in_err-put-2-clause-counts g c =
    let p = err_from_is_err_and c.from_residual-in_err-put-2.result c.from_residual-in_err-put-2.ensures.1 in
    rw p.1 (last_group_fails c.loop-rest.invariant _ c.loop-rest-test.false c.in_err-put-2.ensures)

pub returns-clause-counts : goal.returns-clause-counts
returns-clause-counts g c = last_put c.loop-rest.invariant _ c.loop-rest-test.false c.in_ok-put-2.ensures
