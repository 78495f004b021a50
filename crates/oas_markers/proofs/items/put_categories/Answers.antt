use Rattle.std.proofs.lemmas.Result.{err_from_is_err_and}
use Rattle.oas_num.proofs.PuttingLemmas.{first, begins, fails_at, ends, ◌▸◌}
use Rattle.oas_markers.proofs.items.put_categories.Goals as goal

pub returns-in_err-put_category : goal.returns-in_err-put_category
returns-in_err-put_category g c =
    let p = err_from_is_err_and c.from_residual.result c.from_residual.ensures.1 in
    rw p.1 (fails_at _ (begins _ _) c.in_err-put_category.ensures)

pub returns-in_err-put_category-2 : goal.returns-in_err-put_category-2
returns-in_err-put_category-2 g c =
    let p = err_from_is_err_and c.from_residual-in_err-put_category-2.result c.from_residual-in_err-put_category-2.ensures.1 in
    rw p.1 (fails_at _ (first _ c.in_ok-put_category.ensures) c.in_err-put_category-2.ensures)

pub returns : goal.returns
returns g c =
    ends _ _ (first _ c.in_ok-put_category.ensures ▸ c.in_ok-put_category-2.ensures) c.put_all.ensures
