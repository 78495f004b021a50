use Rattle.std.proofs.Common.{◌∷◌, flat_map}
use Rattle.oas_markers.specs.Numbers.{place}
use Rattle.oas_num.proofs.PuttingLemmas.{PutSoFar}
use Rattle.oas_markers.proofs.numbers.put_rest.Given as goal

abbrev pub invariant-loop-point : goal.invariant-loop-point
invariant-loop-point g l =
    PutSoFar g.K.Sink.given g.K.Sink.failures (flat_map (λ q. 59 ∷ place l.unit q.x q.y) l.fn.points) (flat_map (λ q. 59 ∷ place l.unit q.x q.y) l.point-iterator) l.fn.sink l.sink
