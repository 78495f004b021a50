use Rattle.oas_writing.proofs.RepeatLemmas.{RepeatsLeft}
use Rattle.oas_writing.proofs.batches.put_repeated.Given as goal

abbrev pub invariant-loop : goal.invariant-loop
invariant-loop g l = RepeatsLeft g.K.Sink.given g.K.Sink.failures l.bytes l.times l.counter l.fn.sink l.sink
