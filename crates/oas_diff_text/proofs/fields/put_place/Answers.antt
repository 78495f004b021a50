use Rattle.std.proofs.lemmas.Result.{err_from_is_err_and}
use Rattle.oas_num.proofs.PuttingLemmas.{first, begins, fails_at, ends, ◌▸◌}
use Rattle.oas_diff_text.proofs.fields.put_place.Goals as goal

pub returns-in_err-put-in-Json : goal.returns-in_err-put-in-Json
returns-in_err-put-in-Json g c =
    let p = err_from_is_err_and c.from_residual.result c.from_residual.ensures.1 in
    rw (p.1, c.in-Json.is) (fails_at _ (begins _ _) c.in_err-put-in-Json.ensures)

pub returns-in_err-put_both-in-Json : goal.returns-in_err-put_both-in-Json
returns-in_err-put_both-in-Json g c =
    let p = err_from_is_err_and c.from_residual-in_err-put_both-in-Json.result c.from_residual-in_err-put_both-in-Json.ensures.1 in
    rw (p.1, c.in-Json.is) (fails_at _ (first _ c.in_ok-put-in-Json.ensures) c.in_err-put_both-in-Json.ensures)

pub returns-in_ok-put_both-in-Json : goal.returns-in_ok-put_both-in-Json
returns-in_ok-put_both-in-Json g c =
    rw c.in-Json.is (ends _ _ (first _ c.in_ok-put-in-Json.ensures ▸ c.in_ok-put_both-in-Json.ensures) c.put-in-Json.ensures)
