use Rattle.std.proofs.lemmas.Result.{err_from_is_err_and}
use Rattle.oas_listing.proofs.PuttingLemmas.{first, first_fails, last_fails, ends}
use Rattle.oas_writing.proofs.cells.put_cell.Goals as goal

pub returns-in_err-opening : goal.returns-in_err-opening
returns-in_err-opening g c =
    let p = err_from_is_err_and c.from_residual.result c.from_residual.ensures.1 in
    rw p.1 (first_fails _ c.in_err-opening.ensures.counts)

pub returns-in_err-body : goal.returns-in_err-body
returns-in_err-body g c =
    let p = err_from_is_err_and c.from_residual-in_err-body.result c.from_residual-in_err-body.ensures.1 in
    rw p.1 (last_fails (first _ c.in_ok-opening.ensures.counts) c.in_err-body.ensures.counts)

pub returns : goal.returns
returns g c = ends (first _ c.in_ok-opening.ensures.counts) c.in_ok-body.ensures.counts
