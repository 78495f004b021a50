use Rattle.std.proofs.lemmas.Result.{err_from_is_err_and}
use Rattle.oas_num.proofs.PuttingLemmas.{first, begins, fails_at, ends, ◌▸◌}
use Rattle.oas_markers.proofs.shapes.put_polygon.Goals as goal

pub returns-in_err-put_all : goal.returns-in_err-put_all
returns-in_err-put_all g c =
    let p = err_from_is_err_and c.from_residual.result c.from_residual.ensures.1 in
    rw p.1 (fails_at _ (begins _ _) c.in_err-put_all.ensures)

pub returns-in_err-put_places : goal.returns-in_err-put_places
returns-in_err-put_places g c =
    let p = err_from_is_err_and c.from_residual-in_err-put_places.result c.from_residual-in_err-put_places.ensures.1 in
    rw p.1 (fails_at _ (first _ c.in_ok-put_all.ensures) c.in_err-put_places.ensures)

pub returns : goal.returns
returns g c =
    ends _ _ (first _ c.in_ok-put_all.ensures ▸ c.in_ok-put_places.ensures) c.put.ensures
