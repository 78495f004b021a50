use Rattle.oas_info.proofs.NameLemmas.{CellsLeft, naming}
use Rattle.oas_info.proofs.names.defined_names.Given as goal

abbrev pub invariant-loop-name : goal.invariant-loop-name
invariant-loop-name l = CellsLeft naming l.layout l.name-iterator l.names.keys
