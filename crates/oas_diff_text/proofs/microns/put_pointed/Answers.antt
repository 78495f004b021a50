use Rattle.std.proofs.Common.{◌<◌, arith}
use Rattle.std.proofs.lemmas.Result.{err_from_is_err_and}
use Rattle.oas_num.proofs.PuttingLemmas.{begins, fails_at, ends, ◌▸◌}
use Rattle.oas_diff_text.proofs.MicronLemmas.{pointed_digits}
use Rattle.oas_diff_text.proofs.EntryLemmas.{left_is}
use Rattle.oas_diff_text.proofs.microns.put_pointed.Goals as goal

pub returns-in_err-put : goal.returns-in_err-put
returns-in_err-put g c =
    let p = err_from_is_err_and c.from_residual.result c.from_residual.ensures.1 in
    let some : 0 < c.args.rest = omega (arith, c.if-rest-eq0.false) in
    rw p.1 (fails_at _ (left_is (begins _ _) (pointed_digits c.args.den c.args.rest some)) c.in_err-put.ensures)

pub returns : goal.returns
returns g c =
    let some : 0 < c.args.rest = omega (arith, c.if-rest-eq0.false) in
    ends _ _ (left_is (begins _ _) (pointed_digits c.args.den c.args.rest some) ▸ c.in_ok-put.ensures) c.put_decimals.ensures
