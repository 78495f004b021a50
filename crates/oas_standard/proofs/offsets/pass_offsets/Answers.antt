use Rattle.std.proofs.Common.{arith}
use Rattle.std.proofs.lemmas.Result.{err_from_is_err_and}
use Rattle.oas_record.proofs.PassLemmas.{passed_none, passed_more, passed_fails, passed_all}
use Rattle.oas_standard.specs.Long.{IsLong, PrefixFree-long}
use Rattle.oas_standard.proofs.offsets.pass_offsets.Goals as goal

pub loop-init : goal.loop-init
loop-init g c = passed_none _ _

pub returns-in_err-read_long : goal.returns-in_err-read_long
returns-in_err-read_long g c =
    let p = err_from_is_err_and c.from_residual.result c.from_residual.ensures.1 in
    rw (p.1, p.2) (passed_fails IsLong PrefixFree-long c.loop-test.true c.loop.invariant c.in_err-read_long.ensures)

pub loop-preserved : goal.loop-preserved
loop-preserved g c = passed_more _ _ _ _ _ _ c.loop.invariant c.in_ok-read_long.ensures

pub returns : goal.returns
returns g c = passed_all _ _ _ _ 12 _ (omega arith) c.loop.invariant
