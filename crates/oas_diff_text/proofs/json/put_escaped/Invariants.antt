use Rattle.std.proofs.Common.{drop, flat_map}
use Rattle.oas_diff_text.specs.Fields.{escape}
use Rattle.oas_num.proofs.PuttingLemmas.{PutSoFar}
use Rattle.oas_diff_text.proofs.json.put_escaped.Given as goal

abbrev pub invariant-loop-byte : goal.invariant-loop-byte
invariant-loop-byte g l =
    PutSoFar g.K.Sink.given g.K.Sink.failures (flat_map (escape) l.bytes) (flat_map (escape) (drop l.byte-index l.bytes)) l.fn.sink l.sink
