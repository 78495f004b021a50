use Rattle.std.proofs.Common.{drop, flat_map}
use Rattle.oas_num.proofs.PuttingLemmas.{PutSoFar}
use Rattle.oas_explain.specs.Texts.{reason_text}
use Rattle.oas_explain.proofs.texts.put_reasons.Given as goal

abbrev pub invariant-loop-reason : goal.invariant-loop-reason
invariant-loop-reason g l =
    PutSoFar g.K.Sink.given g.K.Sink.failures (flat_map reason_text l.reasons) (flat_map reason_text (drop l.reason-index l.reasons)) l.fn.sink l.sink
