use Rattle.oas_canon.proofs.CellKeyLemmas.{LinesAfter}
use Rattle.oas_canon.proofs.cell_keys.put_cell_keys.Given as goal

abbrev pub invariant-loop-name : goal.invariant-loop-name
invariant-loop-name g l = LinesAfter g.K.Sink.given g.K.Sink.failures l.layout l.name-iterator l.fn.sink l.sink
