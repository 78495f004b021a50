use Rattle.std.proofs.Common.{List, ℕ, subst}
use Rattle.std.proofs.lemmas.Result.{err_from_is_err_and}
use Rattle.oas_num.proofs.PuttingLemmas.{PutSoFar, begins}
use Rattle.oas_preparing.specs.Lines.{phrases, listed}
use Rattle.oas_preparing.proofs.PhraseLemmas.{listed-behind, kind_put, kind_fails, kind_passed}
use Rattle.oas_preparing.proofs.lines.put_phrases.Goals.{then-number-gt0+in_ok-put_phrase, else-number-gt0}
use Rattle.oas_preparing.proofs.lines.put_phrases.Goals as goal

pub loop-kind-init : goal.loop-kind-init
loop-kind-init g c =
    let texts = phrases c.args.report c.args.kinds.now in
    subst (λ (left : List ℕ). PutSoFar g.K.Sink.given g.K.Sink.failures (listed texts) left c.args.told.now c.args.told.now) (listed-behind texts) (begins (listed texts) c.args.told.now)

pub returns-in_err-put_phrase : goal.returns-in_err-put_phrase
returns-in_err-put_phrase g c =
    let p = err_from_is_err_and c.from_residual.result c.from_residual.ensures.1 in
    rw p.1 (kind_fails c.args.report c.args.kinds.now c.loop-kind.kind-index _ _ c.loop-kind-test.true c.loop-kind.invariant c.left_out-number.result c.name_for.result.now c.left_out-number.ensures c.name_for.ensures c.if-number-gt0.true c.in_err-put_phrase.ensures)

pub loop-kind-preserved : goal.loop-kind-preserved
loop-kind-preserved g c =
    elim c.if-number-gt0.branch [
      | then-number-gt0+in_ok-put_phrase w ↦
          rw (w.told-is, w.between-is) (kind_put c.args.report c.args.kinds.now c.loop-kind.kind-index _ _ c.loop-kind-test.true c.loop-kind.invariant c.left_out-number.result w.name_for.result.now c.left_out-number.ensures w.name_for.ensures w.if-number-gt0.true w.in_ok-put_phrase.ensures)
      | else-number-gt0 w ↦
          rw (w.told-is, w.between-is) (kind_passed c.args.report c.args.kinds.now c.loop-kind.kind-index _ _ c.loop-kind-test.true c.loop-kind.invariant c.left_out-number.result c.left_out-number.ensures w.if-number-gt0.false)
    ]
