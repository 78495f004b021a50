use Rattle.oas_form.proofs.PointPutting.{StepsLeft}
use Rattle.oas_form.proofs.point_lists.put_steps.Given as goal

abbrev pub invariant-loop-point : goal.invariant-loop-point
invariant-loop-point g l = StepsLeft g.K.Sink.given g.K.Sink.failures l.fn.first l.rest l.before l.point-index l.fn.sink l.sink l.count
