use Rattle.std.proofs.Common.{refl}
use Rattle.oas_difference.proofs.EntryLemmas.{left_is}
use Rattle.oas_markers.proofs.Steps.{category_parts}
use Rattle.std.proofs.lemmas.Result.{err_from_is_err_and}
use Rattle.oas_num.proofs.PuttingLemmas.{begins, fails_at, ends, ◌▸◌}
use Rattle.oas_markers.proofs.items.put_category.Goals as goal

pub returns-in_err-put_all : goal.returns-in_err-put_all
returns-in_err-put_all g c =
    let p = err_from_is_err_and c.from_residual.result c.from_residual.ensures.1 in
    let whole = category_parts c.args.unit c.args.way c.category_front.ensures refl refl in
    rw p.1 (fails_at _ (left_is (begins _ _) whole) c.in_err-put_all.ensures)

pub returns-in_err-put_number : goal.returns-in_err-put_number
returns-in_err-put_number g c =
    let p = err_from_is_err_and c.from_residual-in_err-put_number.result c.from_residual-in_err-put_number.ensures.1 in
    let whole = category_parts c.args.unit c.args.way c.category_front.ensures c.num.ensures.value refl in
    rw p.1 (fails_at _ (left_is (begins _ _) whole ▸ c.in_ok-put_all.ensures) c.in_err-put_number.ensures)

pub returns-in_err-put : goal.returns-in_err-put
returns-in_err-put g c =
    let p = err_from_is_err_and c.from_residual-in_err-put.result c.from_residual-in_err-put.ensures.1 in
    let whole = category_parts c.args.unit c.args.way c.category_front.ensures c.num.ensures.value refl in
    rw p.1 (fails_at _ (left_is (begins _ _) whole ▸ c.in_ok-put_all.ensures ▸ c.in_ok-put_number.ensures) c.in_err-put.ensures)

pub returns-in_err-put_number-2 : goal.returns-in_err-put_number-2
returns-in_err-put_number-2 g c =
    let p = err_from_is_err_and c.from_residual-in_err-put_number-2.result c.from_residual-in_err-put_number-2.ensures.1 in
    let whole = category_parts c.args.unit c.args.way c.category_front.ensures c.num.ensures.value c.den.ensures.value in
    rw p.1 (fails_at _ (left_is (begins _ _) whole ▸ c.in_ok-put_all.ensures ▸ c.in_ok-put_number.ensures ▸ c.in_ok-put.ensures) c.in_err-put_number-2.ensures)

pub returns : goal.returns
returns g c =
    let whole = category_parts c.args.unit c.args.way c.category_front.ensures c.num.ensures.value c.den.ensures.value in
    ends _ _ (left_is (begins _ _) whole ▸ c.in_ok-put_all.ensures ▸ c.in_ok-put_number.ensures ▸ c.in_ok-put.ensures ▸ c.in_ok-put_number-2.ensures) c.put_all-2.ensures
