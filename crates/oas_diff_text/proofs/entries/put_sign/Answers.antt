use Rattle.std.proofs.lemmas.Result.{err_from_is_err_and}
use Rattle.oas_num.proofs.PuttingLemmas.{first, begins, fails_at, ends, ◌▸◌}
use Rattle.oas_diff_text.proofs.entries.put_sign.Goals as goal

pub returns-in_err-put : goal.returns-in_err-put
returns-in_err-put g c =
    let p = err_from_is_err_and c.from_residual.result c.from_residual.ensures.1 in
    rw p.1 (fails_at _ (begins _ _) c.in_err-put.ensures)

pub returns-in_err-put-2 : goal.returns-in_err-put-2
returns-in_err-put-2 g c =
    let p = err_from_is_err_and c.from_residual-in_err-put-2.result c.from_residual-in_err-put-2.ensures.1 in
    rw p.1 (fails_at _ (first _ c.in_ok-put.ensures) c.in_err-put-2.ensures)

pub returns-in_err-put_number : goal.returns-in_err-put_number
returns-in_err-put_number g c =
    let p = err_from_is_err_and c.from_residual-in_err-put_number.result c.from_residual-in_err-put_number.ensures.1 in
    rw p.1 (fails_at _ (first _ c.in_ok-put.ensures ▸ c.in_ok-put-2.ensures) c.in_err-put_number.ensures)

pub returns : goal.returns
returns g c = ends _ _ (first _ c.in_ok-put.ensures ▸ c.in_ok-put-2.ensures ▸ c.in_ok-put_number.ensures) c.put-3.ensures
