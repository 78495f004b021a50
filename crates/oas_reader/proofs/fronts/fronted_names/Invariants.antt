use Rattle.std.proofs.Common.{◌≡◌, take}
use Rattle.std.specs.Prelude.{map}
use Rattle.oas_reader.specs.Meaning.{names_meant}
use Rattle.oas_reader.proofs.InOrder.{fronted}
use Rattle.oas_reader.proofs.fronts.fronted_names.Given as goal

abbrev pub invariant-loop-cell : goal.invariant-loop-cell
invariant-loop-cell g l = map fronted l.all.items ≡ names_meant l.names.named (map g.S.CellStore.store.cell (take l.cell-index l.cells))
