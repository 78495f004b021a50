use Rattle.std.proofs.lemmas.Result.{err_from_is_err_and}
use Rattle.oas_num.proofs.PuttingLemmas.{first, begins, fails_at, ends, ◌▸◌}
use Rattle.oas_diff_text.proofs.entries.put_line_in.Goals as goal

pub returns-in_err-put_all : goal.returns-in_err-put_all
returns-in_err-put_all g c =
    let p = err_from_is_err_and c.from_residual.result c.from_residual.ensures.1 in
    rw (p.1, ← c.kind_name.ensures) (fails_at _ (begins _ _) c.in_err-put_all.ensures)

pub returns-in_err-put_element_fields : goal.returns-in_err-put_element_fields
returns-in_err-put_element_fields g c =
    let p = err_from_is_err_and c.from_residual-in_err-put_element_fields.result c.from_residual-in_err-put_element_fields.ensures.1 in
    rw (p.1, ← c.kind_name.ensures) (fails_at _ (first _ c.in_ok-put_all.ensures) c.in_err-put_element_fields.ensures)

pub returns : goal.returns
returns g c = rw (← c.kind_name.ensures) (ends _ _ (first _ c.in_ok-put_all.ensures ▸ c.in_ok-put_element_fields.ensures) c.put.ensures)
