use Rattle.oas_num.proofs.WritingLemmas.{PutSoFar}
use Rattle.oas_num.proofs.writing.put_unsigned.Given as goal

abbrev pub invariant-loop-rest : goal.invariant-loop-rest
invariant-loop-rest g l = PutSoFar g.K.Sink.given g.K.Sink.failures l.fn.sink l.sink l.value l.rest

abbrev pub decreases-loop-rest : goal.decreases-loop-rest
decreases-loop-rest g l = l.rest
