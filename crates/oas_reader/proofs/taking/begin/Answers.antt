use Rattle.std.proofs.Common.{arith}
use Rattle.oas_reader.proofs.TakeLemmas.{took_cell, sound_cell}
use Rattle.oas_reader.proofs.taking.begin.Goals as goal

pub returns-clause-new : goal.returns-clause-new
returns-clause-new g c =
    took_cell g.S.CellStore.store c.args.parts.now c.close.new.parts c.args.cell _ _ _ c.in_ok-close.ensures.closed c.in_ok-close.ensures.cells (c.begin_cell.ensures c.args.cell) c.begin.ensures
    c.cell_weight-weight.ensures

pub returns-clause-sound : goal.returns-clause-sound
returns-clause-sound g c =
    sound_cell g.S.CellStore.store c.args.parts.now c.close.new.parts c.args.cell _ _ _ c.requires c.in_ok-close.ensures.closed c.in_ok-close.ensures.cells (c.begin_cell.ensures c.args.cell)
    c.begin.ensures
    (omega (arith, c.if-weight-parts.false, c.requires.light))
