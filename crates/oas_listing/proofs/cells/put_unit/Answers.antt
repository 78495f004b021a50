use Rattle.std.proofs.Common.{◌≡◌, ◌∙◌, ap, decimal}
use Rattle.std.proofs.lemmas.Result.{err_from_is_err_and}
use Rattle.oas_num.proofs.PuttingLemmas.{first, begins, fails_at, ends, ◌▸◌}
use Rattle.oas_listing.proofs.FieldLemmas.{unit_fields}
use Rattle.oas_listing.proofs.cells.put_unit.Goals as goal

pub returns-in_err-put_all : goal.returns-in_err-put_all
returns-in_err-put_all g c =
    let p = err_from_is_err_and c.from_residual.result c.from_residual.ensures.1 in
    rw p.1 (fails_at _ (begins _ _) c.in_err-put_all.ensures)

pub returns-in_err-put_field : goal.returns-in_err-put_field
returns-in_err-put_field g c =
    let p = err_from_is_err_and c.from_residual-in_err-put_field.result c.from_residual-in_err-put_field.ensures.1 in
    let num : c.as_bytes.result.now ≡ decimal c.args.unit.num = c.as_bytes.ensures.value ∙ c.format.ensures.text ∙ ap decimal c.num.ensures.value in
    rw (p.1, unit_fields c.args.unit.num c.args.unit.den, ← num) (fails_at _ (first _ c.in_ok-put_all.ensures) c.in_err-put_field.ensures)

pub returns-in_err-put : goal.returns-in_err-put
returns-in_err-put g c =
    let p = err_from_is_err_and c.from_residual-in_err-put.result c.from_residual-in_err-put.ensures.1 in
    let num : c.as_bytes.result.now ≡ decimal c.args.unit.num = c.as_bytes.ensures.value ∙ c.format.ensures.text ∙ ap decimal c.num.ensures.value in
    rw (p.1, unit_fields c.args.unit.num c.args.unit.den, ← num) (fails_at _ (first _ c.in_ok-put_all.ensures ▸ c.in_ok-put_field.ensures) c.in_err-put.ensures)

pub returns-in_err-put_all-2 : goal.returns-in_err-put_all-2
returns-in_err-put_all-2 g c =
    let p = err_from_is_err_and c.from_residual-in_err-put_all-2.result c.from_residual-in_err-put_all-2.ensures.1 in
    let num : c.as_bytes.result.now ≡ decimal c.args.unit.num = c.as_bytes.ensures.value ∙ c.format.ensures.text ∙ ap decimal c.num.ensures.value in
    let den : c.as_bytes-2.result.now ≡ decimal c.args.unit.den = c.as_bytes-2.ensures.value ∙ c.format-2.ensures.text ∙ ap decimal c.den.ensures.value in
    rw (p.1, unit_fields c.args.unit.num c.args.unit.den, ← num, ← den) (fails_at _ (first _ c.in_ok-put_all.ensures ▸ c.in_ok-put_field.ensures ▸ c.in_ok-put.ensures) c.in_err-put_all-2.ensures)

pub returns : goal.returns
returns g c =
    let num : c.as_bytes.result.now ≡ decimal c.args.unit.num = c.as_bytes.ensures.value ∙ c.format.ensures.text ∙ ap decimal c.num.ensures.value in
    let den : c.as_bytes-2.result.now ≡ decimal c.args.unit.den = c.as_bytes-2.ensures.value ∙ c.format-2.ensures.text ∙ ap decimal c.den.ensures.value in
    rw (unit_fields c.args.unit.num c.args.unit.den, ← num, ← den)
    (ends _ _ (first _ c.in_ok-put_all.ensures ▸ c.in_ok-put_field.ensures ▸ c.in_ok-put.ensures ▸ c.in_ok-put_all-2.ensures) c.put-2.ensures)
