use Rattle.oas_info.proofs.CountingLemmas.{CellsLeft}
use Rattle.oas_info.proofs.counting.totals_of.Given as goal

abbrev pub invariant-loop-name : goal.invariant-loop-name
invariant-loop-name l = CellsLeft l.layout l.name-iterator l.totals
