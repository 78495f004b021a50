use Rattle.std.proofs.lemmas.Result.{err_from_is_err_and}
use Rattle.oas_num.proofs.HalfwayLemmas.{at_image, fails_at, fails_last, is_read, number_took}
use Rattle.oas_shape.proofs.RepetitionLemmas.{with_dim, with_grid}
use Rattle.oas_shape.proofs.repetitions.read_listed.Goals as goal

pub returns-in_err-dim : goal.returns-in_err-dim
returns-in_err-dim g c =
    let p = err_from_is_err_and c.from_residual.result c.from_residual.ensures.1 in
    rw (p.1, p.2) (fails_at (at_image _) c.in_err-dim.ensures)

pub returns-in_err-grid : goal.returns-in_err-grid
returns-in_err-grid g c =
    let p = err_from_is_err_and c.from_residual-in_err-grid.result c.from_residual-in_err-grid.ensures.1 in
    rw (p.1, p.2) (fails_at (with_dim _ _ c.in_ok-dim.ensures) (number_took _ c.in_err-grid.ensures))

pub returns-in_err-offsets : goal.returns-in_err-offsets
returns-in_err-offsets g c =
    let p = err_from_is_err_and c.from_residual-in_err-offsets.result c.from_residual-in_err-offsets.ensures.1 in
    let e = rw c.grid_or_one.ensures at c.in_err-offsets.ensures in
    rw (p.1, p.2) (fails_last (with_grid _ _ c.in_ok-dim.ensures c.in_ok-grid.ensures) e)

pub returns : goal.returns
returns g c =
    let e = rw c.grid_or_one.ensures at c.in_ok-offsets.ensures in
    is_read (with_grid _ _ c.in_ok-dim.ensures c.in_ok-grid.ensures) e
