use Rattle.std.proofs.Common.{List, drop}
use Rattle.oas_reader.specs.Meaning.{DrawnCell}
use Rattle.oas_reader.specs.Stores.{HoldCells}
use Rattle.oas_reader.proofs.WeighLemmas.{Weighed}
use Rattle.oas_reader.proofs.accepting.all_weight.Given as goal

abbrev pub invariant-loop-cell : goal.invariant-loop-cell
invariant-loop-cell g l =
    (ds : List DrawnCell) → HoldCells g.S.CellStore.store l.cells ds → Weighed g.S.CellStore.store l.names.named l.strings.named l.weight (drop l.cell-index l.cells) ds
