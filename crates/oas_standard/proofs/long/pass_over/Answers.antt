use Rattle.std.proofs.Common.{arith}
use Rattle.std.proofs.lemmas.Result.{err_from_is_err_and}
use Rattle.oas_num.proofs.TextLemmas.{passed_none, passed_more, passed_fails, passed_all}
use Rattle.oas_standard.proofs.long.pass_over.Goals as goal

pub loop-init : goal.loop-init
loop-init g c = passed_none _

pub returns-in_err-next_byte : goal.returns-in_err-next_byte
returns-in_err-next_byte g c =
    let p = err_from_is_err_and c.from_residual.result c.from_residual.ensures.1 in
    rw (p.1, p.2) (passed_fails c.loop-test.true c.loop.invariant c.in_err-next_byte.ensures)

pub loop-preserved : goal.loop-preserved
loop-preserved g c = passed_more c.loop.invariant c.in_ok-next_byte.ensures

pub returns : goal.returns
returns g c = passed_all (omega arith) c.loop.invariant
