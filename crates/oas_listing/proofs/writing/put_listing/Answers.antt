use Rattle.std.proofs.lemmas.Result.{err_from_is_err_and}
use Rattle.oas_num.proofs.PuttingLemmas.{first, begins, fails_at, ends}
use Rattle.oas_listing.proofs.Lengths.{short_enough}
use Rattle.oas_listing.proofs.writing.put_listing.Goals as goal

pub returns-in_err-put_unit-clause-writes : goal.returns-in_err-put_unit-clause-writes
returns-in_err-put_unit-clause-writes g c =
    let p = err_from_is_err_and c.from_residual.result c.from_residual.ensures.1 in
    rw (p.1, ← c.unit.ensures) (fails_at _ (begins _ _) c.in_err-put_unit.ensures)

pub returns-clause-writes : goal.returns-clause-writes
returns-clause-writes g c = rw (← c.unit.ensures) (ends _ _ (first _ c.in_ok-put_unit.ensures) (rw c.cells-cells.ensures.cells at c.put_cells.ensures))

pub returns-in_err-put_unit-clause-short : goal.returns-in_err-put_unit-clause-short
returns-in_err-put_unit-clause-short g c = short_enough c.args.layout.now c.cells-cells.ensures.layout

pub returns-clause-short : goal.returns-clause-short
returns-clause-short g c = short_enough c.args.layout.now c.cells-cells.ensures.layout
