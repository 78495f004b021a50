use Rattle.oas_writing.proofs.ElementLemmas.{ElementsLeft}
use Rattle.oas_writing.proofs.cells.put_elements.Given as goal

abbrev pub invariant-loop-element : goal.invariant-loop-element
invariant-loop-element g l = ElementsLeft g.K.Sink.given g.K.Sink.failures l.fn.elements l.element-iterator l.fn.sink l.sink l.count
