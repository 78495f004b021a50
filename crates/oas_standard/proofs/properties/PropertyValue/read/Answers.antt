use Rattle.std.proofs.Common.{refl, arith}
use Rattle.std.proofs.lemmas.Result.{err_from_is_err_and}
use Rattle.oas_num.specs.Integers.{IsUnsigned}
use Rattle.oas_num.specs.Laws.IntegerLaws.{PrefixFree-IsUnsigned}
use Rattle.oas_num.proofs.GrammarLemmas.{such_read}
use Rattle.oas_num.proofs.HalfwayLemmas.{◌▸◌, at_image, fails_at, fails_last, is_read, such_took, such_refused}
use Rattle.oas_standard.specs.Properties.{IsValueType, value_type, ValueTook}
use Rattle.oas_standard.proofs.properties.PropertyValue.read.Goals as goal

pub returns-in_err-kind : goal.returns-in_err-kind
returns-in_err-kind g c =
    let p = err_from_is_err_and c.from_residual.result c.from_residual.ensures.1 in
    rw (p.1, p.2) (fails_at (at_image {took = ValueTook} _) (such_took c.in_err-kind.ensures))

pub returns-then-kind-ge16 : goal.returns-then-kind-ge16
returns-then-kind-ge16 g c = fails_at (at_image {took = ValueTook} _)
    (such_refused PrefixFree-IsUnsigned refl (λ lt. omega (arith, lt, c.if-kind-ge16.true)) (refl, λ lt. omega (arith, lt, c.if-kind-ge16.true)) c.in_ok-kind.ensures)

pub returns-in_err-value : goal.returns-in_err-value
returns-in_err-value g c =
    let p = err_from_is_err_and c.from_residual-in_err-value.result c.from_residual-in_err-value.ensures.1 in
    rw (p.1, p.2) (fails_last (at_image {took = ValueTook} _ ▸
    (value_type.found.one, such_read IsValueType IsUnsigned _ _ _ (omega (arith, c.if-kind-ge16.false)) c.in_ok-kind.ensures)) c.in_err-value.ensures)

pub returns : goal.returns
returns g c = is_read (at_image {took = ValueTook} _ ▸ (value_type.found.one, such_read IsValueType IsUnsigned _ _ _ (omega (arith, c.if-kind-ge16.false)) c.in_ok-kind.ensures)) c.in_ok-value.ensures
