use Rattle.std.proofs.lemmas.Result.{err_from_is_err_and}
use Rattle.oas_num.proofs.PuttingLemmas.{first, begins, fails_at, ends}
use Rattle.oas_diff_text.proofs.fields.put_field.Goals as goal

pub returns-in_err-put_key : goal.returns-in_err-put_key
returns-in_err-put_key g c =
    let p = err_from_is_err_and c.from_residual.result c.from_residual.ensures.1 in
    rw p.1 (fails_at _ (begins _ _) c.in_err-put_key.ensures)

pub returns : goal.returns
returns g c = ends _ _ (first _ c.in_ok-put_key.ensures) c.put_value.ensures
