use Rattle.std.proofs.Common.{drop}
use Rattle.oas_num.proofs.PuttingLemmas.{PutSoFar}
use Rattle.oas_preparing.specs.Lines.{phrases, listed}
use Rattle.oas_preparing.proofs.PhraseLemmas.{behind}
use Rattle.oas_preparing.proofs.lines.put_phrases.Given as goal

abbrev pub invariant-loop-kind : goal.invariant-loop-kind
invariant-loop-kind g l =
    PutSoFar g.K.Sink.given g.K.Sink.failures (listed (phrases l.report l.kinds)) (behind l.between (phrases l.report (drop l.kind-index l.kinds))) l.fn.told l.told
