use Rattle.std.proofs.lemmas.Result.{err_from_is_err_and}
use Rattle.oas_num.proofs.PuttingLemmas.{first, begins, fails_at, ends, ◌▸◌}
use Rattle.oas_markers.proofs.items.put_values.Goals as goal

pub returns-in_err-put_shape : goal.returns-in_err-put_shape
returns-in_err-put_shape g c =
    let p = err_from_is_err_and c.from_residual.result c.from_residual.ensures.1 in
    rw p.1 (fails_at _ (begins _ _) c.in_err-put_shape.ensures)

pub returns-in_err-put_all : goal.returns-in_err-put_all
returns-in_err-put_all g c =
    let p = err_from_is_err_and c.from_residual-in_err-put_all.result c.from_residual-in_err-put_all.ensures.1 in
    rw p.1 (fails_at _ (first _ c.in_ok-put_shape.ensures) c.in_err-put_all.ensures)

pub returns-in_err-put_layer : goal.returns-in_err-put_layer
returns-in_err-put_layer g c =
    let p = err_from_is_err_and c.from_residual-in_err-put_layer.result c.from_residual-in_err-put_layer.ensures.1 in
    rw (p.1, ← c.layer_of-layer.ensures) (fails_at _ (first _ c.in_ok-put_shape.ensures ▸ c.in_ok-put_all.ensures) c.in_err-put_layer.ensures)

pub returns : goal.returns
returns g c =
    rw (← c.layer_of-layer.ensures) (ends _ _ (first _ c.in_ok-put_shape.ensures ▸ c.in_ok-put_all.ensures ▸ c.in_ok-put_layer.ensures) c.put_all-2.ensures)
