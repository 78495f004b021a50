use Rattle.std.proofs.Common.{◌≡◌}
use Rattle.std.proofs.lemmas.Result.{err_from_is_err_and}
use Rattle.oas_num.proofs.PuttingLemmas.{first, begins, fails_at, ends, ◌▸◌}
use Rattle.oas_diff_text.proofs.fields.put_key.Goals as goal

pub returns-in_err-put_all-in-Json : goal.returns-in_err-put_all-in-Json
returns-in_err-put_all-in-Json g c =
    let p = err_from_is_err_and c.from_residual.result c.from_residual.ensures.1 in
    rw (p.1, c.in-Json.is) (fails_at _ (begins _ _) c.in_err-put_all-in-Json.ensures)

pub returns-in_err-put_all-in-Json-2 : goal.returns-in_err-put_all-in-Json-2
returns-in_err-put_all-in-Json-2 g c =
    let p = err_from_is_err_and c.from_residual-in_err-put_all-in-Json-2.result c.from_residual-in_err-put_all-in-Json-2.ensures.1 in
    let name : c.as_bytes.result.now ≡ c.args.name.now = c.as_bytes.ensures.value in
    rw (p.1, c.in-Json.is, ← name) (fails_at _ (first _ c.in_ok-put_all-in-Json.ensures) c.in_err-put_all-in-Json-2.ensures)

pub returns-in_ok-put_all-in-Json-2 : goal.returns-in_ok-put_all-in-Json-2
returns-in_ok-put_all-in-Json-2 g c =
    let name : c.as_bytes.result.now ≡ c.args.name.now = c.as_bytes.ensures.value in
    rw (c.in-Json.is, ← name) (ends _ _ (first _ c.in_ok-put_all-in-Json.ensures ▸ c.in_ok-put_all-in-Json-2.ensures) c.put_all-in-Json-2.ensures)
