use Rattle.oas_writing.proofs.CellLemmas.{CellsLeft}
use Rattle.oas_writing.proofs.cells.put_cells.Given as goal

abbrev pub invariant-loop-name : goal.invariant-loop-name
invariant-loop-name g l = CellsLeft g.K.Sink.given g.K.Sink.failures l.fn.cells l.name-iterator l.fn.sink l.sink l.count
