use Rattle.std.proofs.Common.{◌≡◌, rules}
use Rattle.oas_info.proofs.CountingLemmas.{cells_begin, cell_some, cell_room, cell_counted, cells_end}
use Rattle.oas_info.proofs.counting.totals_of.Goals as goal

pub loop-name-init : goal.loop-name-init
loop-name-init c =
    let same : c.into_iter-name-iterator.result ≡ c.args.layout.now.cells = search rules in
    cells_begin c.args.layout.now c.into_iter-name-iterator.result _ c.cells-name-items.ensures.layout same (search rules) (search rules) (search rules)

pub count_cell-requires-clause-some : goal.count_cell-requires-clause-some
count_cell-requires-clause-some c = cell_some c.args.layout.now _ _ _ c.in-Some.ensures.steps c.loop-name.totals c.loop-name.invariant

pub count_cell-requires-clause-room : goal.count_cell-requires-clause-room
count_cell-requires-clause-room c = rw c.as_bytes.ensures.bytes (cell_room c.args.layout.now _ _ _ c.in-Some.ensures.steps c.loop-name.totals c.loop-name.invariant)

pub loop-name-preserved : goal.loop-name-preserved
loop-name-preserved c =
    cell_counted c.args.layout.now _ _ _ c.in-Some.ensures.steps c.loop-name.totals c.loop-name.invariant _ (rw c.as_bytes.ensures.bytes at c.in_ok-count_cell.ensures)

pub returns : goal.returns
returns c = cells_end c.args.layout.now _ c.loop-name.totals c.loop-name.invariant c.in-None.ensures.steps.0
