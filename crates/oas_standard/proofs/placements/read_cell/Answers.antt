use Rattle.std.proofs.lemmas.Result.{err_from_is_err_and}
use Rattle.oas_record.proofs.ReferenceLemmas.{cell_number_fails, cell_name_fails}
use Rattle.oas_standard.proofs.placements.read_cell.Goals as goal

pub returns-in_err-read_unsigned : goal.returns-in_err-read_unsigned
returns-in_err-read_unsigned g c =
    let p = err_from_is_err_and c.from_residual.result c.from_residual.ensures.1 in
    rw (p.1, p.2) (cell_number_fails _ c.if-is_numbered.true c.in_err-read_unsigned.ensures)

pub returns-in_err-read : goal.returns-in_err-read
returns-in_err-read g c =
    let p = err_from_is_err_and c.from_residual-in_err-read.result c.from_residual-in_err-read.ensures.1 in
    rw (p.1, p.2) (cell_name_fails _ c.if-is_numbered.false c.in_err-read.ensures)
