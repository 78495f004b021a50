use Rattle.std.proofs.lemmas.Result.{err_from_is_err_and}
use Rattle.oas_record.specs.Placements.{quarter_parts}
use Rattle.oas_record.proofs.FieldLemmas.{PrefixFree-cell_if}
use Rattle.oas_num.proofs.HalfwayLemmas.{◌▸◌, fails_at, fails_last, is_read}
use Rattle.oas_record.proofs.InfoLemmas.{info_took, info_read}
use Rattle.oas_record.proofs.placements.Placement.read_quarters.Goals as goal

pub returns-in_err-info : goal.returns-in_err-info
returns-in_err-info g c =
    let p = err_from_is_err_and c.from_residual.result c.from_residual.ensures.1 in
    rw (p.1, p.2) (info_took c.in_err-info.ensures)

pub returns-in_err-cell : goal.returns-in_err-cell
returns-in_err-cell g c =
    let p = err_from_is_err_and c.from_residual-in_err-cell.result c.from_residual-in_err-cell.ensures.1 in
    rw (p.1, p.2) (fails_at (info_read c.in_ok-info.ensures.spelled.small c.in_ok-info.ensures) c.in_err-cell.ensures)

pub returns-in_err-spot : goal.returns-in_err-spot
returns-in_err-spot g c =
    let p = err_from_is_err_and c.from_residual-in_err-spot.result c.from_residual-in_err-spot.ensures.1 in
    rw (p.1, p.2) (fails_last (info_read c.in_ok-info.ensures.spelled.small c.in_ok-info.ensures ▸ (PrefixFree-cell_if _ _, c.in_ok-cell.ensures)) c.in_err-spot.ensures)

pub returns : goal.returns
returns g c = is_read (info_read {took = λ info. (quarter_parts info).took} c.in_ok-info.ensures.spelled.small c.in_ok-info.ensures ▸ (PrefixFree-cell_if _ _, c.in_ok-cell.ensures)) c.in_ok-spot.ensures
