use Rattle.oas_form.proofs.NumberPutting.{NumberLeft}
use Rattle.oas_form.proofs.parts.put_long.Given as goal

abbrev pub invariant-loop-rest : goal.invariant-loop-rest
invariant-loop-rest g l = NumberLeft g.K.Sink.given g.K.Sink.failures l.value l.rest l.fn.sink l.sink l.count

abbrev pub decreases-loop-rest : goal.decreases-loop-rest
decreases-loop-rest g l = l.rest
