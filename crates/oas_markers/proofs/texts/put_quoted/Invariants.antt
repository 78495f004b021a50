use Rattle.std.proofs.Common.{drop, flat_map}
use Rattle.oas_markers.specs.Texts.{quote}
use Rattle.oas_num.proofs.PuttingLemmas.{PutSoFar}
use Rattle.oas_markers.proofs.texts.put_quoted.Given as goal

abbrev pub invariant-loop-byte : goal.invariant-loop-byte
invariant-loop-byte g l =
    PutSoFar g.K.Sink.given g.K.Sink.failures (flat_map (quote) l.bytes) (flat_map (quote) (drop l.byte-index l.bytes)) l.fn.sink l.sink
