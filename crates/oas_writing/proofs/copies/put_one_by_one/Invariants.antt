use Rattle.oas_writing.proofs.ElementLemmas.{CopiesLeft}
use Rattle.oas_writing.proofs.copies.put_one_by_one.Given as goal

abbrev pub invariant-loop : goal.invariant-loop
invariant-loop g l = CopiesLeft g.K.Sink.given g.K.Sink.failures l.element l.times l.counter l.fn.sink l.sink l.count
