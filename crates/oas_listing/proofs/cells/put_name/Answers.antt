use Rattle.std.proofs.lemmas.Result.{err_from_is_err_and}
use Rattle.oas_num.proofs.PuttingLemmas.{first, begins, fails_at, ends, ◌▸◌}
use Rattle.oas_listing.proofs.FieldLemmas.{name_fields}
use Rattle.oas_listing.proofs.cells.put_name.Goals as goal

pub returns-in_err-put_all : goal.returns-in_err-put_all
returns-in_err-put_all g c =
    let p = err_from_is_err_and c.from_residual.result c.from_residual.ensures.1 in
    rw p.1 (fails_at _ (begins _ _) c.in_err-put_all.ensures)

pub returns-in_err-put_field : goal.returns-in_err-put_field
returns-in_err-put_field g c =
    let p = err_from_is_err_and c.from_residual-in_err-put_field.result c.from_residual-in_err-put_field.ensures.1 in
    rw (p.1, name_fields c.args.name.now) (fails_at _ (first _ c.in_ok-put_all.ensures) c.in_err-put_field.ensures)

pub returns : goal.returns
returns g c = rw (name_fields c.args.name.now) (ends _ _ (first _ c.in_ok-put_all.ensures ▸ c.in_ok-put_field.ensures) c.put.ensures)
