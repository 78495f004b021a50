use Rattle.std.proofs.Common.{refl, arith}
use Rattle.std.proofs.lemmas.Result.{err_from_is_err_and}
use Rattle.oas_num.specs.Integers.{IsUnsigned}
use Rattle.oas_num.specs.Laws.IntegerLaws.{PrefixFree-IsUnsigned}
use Rattle.oas_num.proofs.GrammarLemmas.{such_read}
use Rattle.oas_num.proofs.HalfwayLemmas.{◌▸◌, at_image, fails_at, fails_last, is_read, such_took, such_refused, number_took}
use Rattle.oas_record.proofs.ElementLemmas.{PrefixFree-number_if}
use Rattle.oas_standard.specs.LayerNames.{IsIntervalType, interval_type, IntervalTook}
use Rattle.oas_standard.proofs.layer_names.Interval.read.Goals as goal

pub returns-in_err-kind : goal.returns-in_err-kind
returns-in_err-kind g c =
    let p = err_from_is_err_and c.from_residual.result c.from_residual.ensures.1 in
    rw (p.1, p.2) (fails_at (at_image {took = IntervalTook} _) (such_took c.in_err-kind.ensures))

pub returns-then-kind-ge5 : goal.returns-then-kind-ge5
returns-then-kind-ge5 g c = fails_at (at_image {took = IntervalTook} _)
    (such_refused PrefixFree-IsUnsigned refl (λ lt. omega (arith, lt, c.if-kind-ge5.true)) (refl, λ lt. omega (arith, lt, c.if-kind-ge5.true)) c.in_ok-kind.ensures)

pub returns-in_err-first : goal.returns-in_err-first
returns-in_err-first g c =
    let p = err_from_is_err_and c.from_residual-in_err-first.result c.from_residual-in_err-first.ensures.1 in
    rw (p.1, p.2) (fails_at (at_image {took = IntervalTook} _ ▸
    (interval_type.found.one, such_read IsIntervalType IsUnsigned _ _ _ (omega (arith, c.if-kind-ge5.false)) c.in_ok-kind.ensures)) (number_took _ c.in_err-first.ensures))

pub returns-in_err-second : goal.returns-in_err-second
returns-in_err-second g c =
    let p = err_from_is_err_and c.from_residual-in_err-second.result c.from_residual-in_err-second.ensures.1 in
    rw (p.1, p.2) (fails_last (at_image {took = IntervalTook} _ ▸
    (interval_type.found.one, such_read IsIntervalType IsUnsigned _ _ _ (omega (arith, c.if-kind-ge5.false)) c.in_ok-kind.ensures) ▸
    (PrefixFree-number_if _, c.in_ok-first.ensures)) (number_took _ c.in_err-second.ensures))

pub returns : goal.returns
returns g c = rw c.interval_by.ensures (is_read
    (at_image {took = IntervalTook} _ ▸ (
      interval_type.found.one,
      such_read IsIntervalType IsUnsigned _ _ _ (omega (arith, c.if-kind-ge5.false)) c.in_ok-kind.ensures,
    ) ▸ (PrefixFree-number_if _, c.in_ok-first.ensures)) c.in_ok-second.ensures)
