use Rattle.std.proofs.lemmas.Result.{err_from_is_err_and}
use Rattle.oas_num.proofs.WritingLemmas.{starts, goes_on, fails, last}
use Rattle.oas_num.proofs.writing.put_unsigned.Goals as goal

pub loop-rest-init : goal.loop-rest-init
loop-rest-init g c = starts _ _ _ _ c.ranges.value.fits

pub returns-in_err-put : goal.returns-in_err-put
returns-in_err-put g c =
    let p = err_from_is_err_and c.from_residual.result c.from_residual.ensures.1 in
    rw p.1 (fails _ _ _ _ _ _ _ c.loop-rest.invariant c.loop-rest-test.true c.in_err-put.ensures)

pub loop-rest-preserved : goal.loop-rest-preserved
loop-rest-preserved g c = goes_on _ _ _ _ _ _ _ c.loop-rest.invariant c.loop-rest-test.true c.in_ok-put.ensures

pub returns : goal.returns
returns g c = last _ _ _ _ _ _ _ c.loop-rest.invariant _ c.loop-rest-test.false c.put-2.ensures
