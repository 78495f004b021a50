use Rattle.std.proofs.Common.{ℕ, ◌<◌, get_or}
use Rattle.oas_num.specs.declared.sentences.Reason.{Reason}
use Rattle.oas_explain.specs.Texts.{Names}
use Rattle.oas_explain.proofs.explain.find.Given as goal

abbrev pub invariant-loop-reason : goal.invariant-loop-reason
invariant-loop-reason l = (k : ℕ) (d : Reason) → k < l.reason-index → Names l.word (get_or l.reasons k d) → ⊥
