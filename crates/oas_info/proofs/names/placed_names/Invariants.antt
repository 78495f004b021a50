use Rattle.oas_info.proofs.NameLemmas.{CellsLeft, placing}
use Rattle.oas_info.proofs.names.placed_names.Given as goal

abbrev pub invariant-loop-elements : goal.invariant-loop-elements
invariant-loop-elements l = CellsLeft placing l.layout l.elements-iterator l.names.keys
