use Rattle.std.proofs.Common.{ℕ, ◌+◌, ◌*◌, List, [], length, arith, refl, ap, ◌∙◌}
use Rattle.std.specs.Prelude.{slice_index_or}
use Rattle.oas_reader.specs.Weights.{capped}
use Rattle.oas_reader.proofs.WeightLemmas.{names_begin, capped_fits}
use Rattle.oas_reader.proofs.UsedTables.{tabled_none, tabled_more, tabled_unused}
use Rattle.oas_reader.proofs.used.tabled_strings_weight.Goals as goal
use Rattle.oas_reader.proofs.used.tabled_strings_weight.Goals.{then-times-gt0+in_ok-get, else-times-gt0}

pub loop-number-init : goal.loop-number-init
loop-number-init c = λ others. names_begin c.args.strings.now.named _ _ refl

pub returns-in_err-get-clause-sum : goal.returns-in_err-get-clause-sum
returns-in_err-get-clause-sum c = λ others.
    rw c.from_residual.ensures (tabled_none _ _ _ 0 _ others _ c.loop-number-test.true (omega (arith, c.if-times-gt0.true)) c.in_err-get.ensures (c.loop-number.invariant others))

pub returns-clause-small : goal.returns-clause-small
returns-clause-small c = capped_fits _ (c.loop-number.invariant []).exact

pub loop-number-preserved : goal.loop-number-preserved
loop-number-preserved c =
    elim c.if-times-gt0.branch [
      | then-times-gt0+in_ok-get w ↦
          rw w.weight-is (λ others. tabled_more _ _ _ 0 _ others _ w.in_ok-get.field-0.now _ c.loop-number-test.true (omega (arith, w.if-times-gt0.true)) w.in_ok-get.ensures
          (w.saturating_add-weight.ensures ∙ ap (λ (m : ℕ). capped (c.loop-number.weight + m)) (w.saturating_mul.ensures ∙ ap (λ (bs : List ℕ). capped (slice_index_or c.args.table.now c.loop-number.number 0 * length bs)) w.as_bytes.ensures.bytes)) (c.loop-number.invariant others))
      | else-times-gt0 w ↦ rw w.weight-is (λ others. tabled_unused _ _ _ 0 _ others _ c.loop-number-test.true (omega (arith, w.if-times-gt0.false)) (c.loop-number.invariant others))
    ]
