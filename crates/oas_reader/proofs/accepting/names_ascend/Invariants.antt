use Rattle.std.proofs.Common.{take}
use Rattle.std.specs.Prelude.{map}
use Rattle.std.specs.Option.{option_copied}
use Rattle.oas_reader.specs.Meaning.{names_meant}
use Rattle.oas_reader.proofs.Ascending.{Ascending}
use Rattle.oas_reader.proofs.accepting.names_ascend.Given as goal

abbrev pub invariant-loop-cell : goal.invariant-loop-cell
invariant-loop-cell g l = Ascending (option_copied l.last) (names_meant l.names.named (map g.S.CellStore.store.cell (take l.cell-index l.cells)))
