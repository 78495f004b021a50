use Rattle.std.proofs.Common.{◌≡◌, rules}
use Rattle.std.proofs.lemmas.Result.{err_from_is_err_and}
use Rattle.oas_listing.proofs.CellLemmas.{cells_begin, cell_fails, cell_put, cells_end}
use Rattle.oas_listing.proofs.cells.put_cells.Goals as goal

pub loop-name-init : goal.loop-name-init
loop-name-init g c =
    let same : c.into_iter-name-iterator.result ≡ c.args.cells = search rules in
    cells_begin c.args.cells c.into_iter-name-iterator.result _ same

pub returns-in_err-put_cell : goal.returns-in_err-put_cell
returns-in_err-put_cell g c =
    let p = err_from_is_err_and c.from_residual.result c.from_residual.ensures.1 in
    rw p.1 (cell_fails c.args.cells _ _ _ c.in-Some.ensures.steps c.loop-name.invariant (rw c.as_bytes.ensures.bytes at c.in_err-put_cell.ensures))

pub loop-name-preserved : goal.loop-name-preserved
loop-name-preserved g c = cell_put c.args.cells _ _ _ c.in-Some.ensures.steps c.loop-name.invariant (rw c.as_bytes.ensures.bytes at c.in_ok-put_cell.ensures)

pub returns : goal.returns
returns g c = cells_end c.args.cells _ c.loop-name.invariant c.in-None.ensures.steps.0
