use Rattle.std.proofs.Common.{◌∷◌, flat_map}
use Rattle.oas_diff_text.specs.Fields.{place}
use Rattle.oas_num.proofs.PuttingLemmas.{PutSoFar}
use Rattle.oas_diff_text.proofs.fields.put_rest.Given as goal

abbrev pub invariant-loop-point : goal.invariant-loop-point
invariant-loop-point g l =
    PutSoFar g.K.Sink.given g.K.Sink.failures (flat_map (λ q. l.byte ∷ place l.syntax l.scale q) l.fn.points) (flat_map (λ q. l.byte ∷ place l.syntax l.scale q) l.point-iterator) l.fn.sink l.sink
