use Rattle.oas_layout.proofs.SealLemmas.{Closing}
use Rattle.oas_layout.proofs.sealing.close_all.Given as goal

abbrev pub invariant-loop-name : goal.invariant-loop-name
invariant-loop-name l = Closing l.fn.cells.entries l.name-iterator l.runs.items
