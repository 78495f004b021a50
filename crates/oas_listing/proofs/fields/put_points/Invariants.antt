use Rattle.oas_num.proofs.PuttingLemmas.{PutSoFar}
use Rattle.oas_listing.proofs.PointLemmas.{fields}
use Rattle.oas_listing.proofs.fields.put_points.Given as goal

abbrev pub invariant-loop-point : goal.invariant-loop-point
invariant-loop-point g l = PutSoFar g.K.Sink.given g.K.Sink.failures (fields l.fn.points) (fields l.point-iterator) l.fn.sink l.sink
