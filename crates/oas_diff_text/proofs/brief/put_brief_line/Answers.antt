use Rattle.std.proofs.Common.{◌≡◌}
use Rattle.std.proofs.lemmas.Result.{err_from_is_err_and}
use Rattle.oas_num.proofs.PuttingLemmas.{first, begins, fails_at, ends, ◌▸◌}
use Rattle.oas_diff_text.proofs.brief.put_brief_line.Goals as goal

pub returns-in_err-put : goal.returns-in_err-put
returns-in_err-put g c =
    let p = err_from_is_err_and c.from_residual.result c.from_residual.ensures.1 in
    rw p.1 (fails_at _ (begins _ _) c.in_err-put.ensures)

pub returns-in_err-put_all : goal.returns-in_err-put_all
returns-in_err-put_all g c =
    let p = err_from_is_err_and c.from_residual-in_err-put_all.result c.from_residual-in_err-put_all.ensures.1 in
    rw p.1 (fails_at _ (first _ c.in_ok-put.ensures) c.in_err-put_all.ensures)

pub returns-in_err-put_all-2 : goal.returns-in_err-put_all-2
returns-in_err-put_all-2 g c =
    let p = err_from_is_err_and c.from_residual-in_err-put_all-2.result c.from_residual-in_err-put_all-2.ensures.1 in
    let name : c.as_bytes.result.now ≡ c.args.name.now = c.as_bytes.ensures.bytes in
    rw (p.1, ← name) (fails_at _ (first _ c.in_ok-put.ensures ▸ c.in_ok-put_all.ensures) c.in_err-put_all-2.ensures)

pub returns-in_err-put_signed_number : goal.returns-in_err-put_signed_number
returns-in_err-put_signed_number g c =
    let p = err_from_is_err_and c.from_residual-in_err-put_signed_number.result c.from_residual-in_err-put_signed_number.ensures.1 in
    let name : c.as_bytes.result.now ≡ c.args.name.now = c.as_bytes.ensures.bytes in
    rw (p.1, ← name) (fails_at _ (first _ c.in_ok-put.ensures ▸ c.in_ok-put_all.ensures ▸ c.in_ok-put_all-2.ensures) c.in_err-put_signed_number.ensures)

pub returns-in_err-put_signed_number-2 : goal.returns-in_err-put_signed_number-2
returns-in_err-put_signed_number-2 g c =
    let p = err_from_is_err_and c.from_residual-in_err-put_signed_number-2.result c.from_residual-in_err-put_signed_number-2.ensures.1 in
    let name : c.as_bytes.result.now ≡ c.args.name.now = c.as_bytes.ensures.bytes in
    rw (p.1, ← name) (fails_at _ (first _ c.in_ok-put.ensures ▸ c.in_ok-put_all.ensures ▸ c.in_ok-put_all-2.ensures ▸ c.in_ok-put_signed_number.ensures) c.in_err-put_signed_number-2.ensures)

pub returns : goal.returns
returns g c =
    let name : c.as_bytes.result.now ≡ c.args.name.now = c.as_bytes.ensures.bytes in
    rw (← name) (ends _ _ (first _ c.in_ok-put.ensures ▸ c.in_ok-put_all.ensures ▸ c.in_ok-put_all-2.ensures ▸ c.in_ok-put_signed_number.ensures ▸ c.in_ok-put_signed_number-2.ensures) c.put-2.ensures)
