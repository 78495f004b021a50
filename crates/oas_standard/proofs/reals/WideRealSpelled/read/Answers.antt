use Rattle.std.proofs.Common.{refl, arith}
use Rattle.std.proofs.lemmas.Result.{err_from_is_err_and}
use Rattle.oas_num.proofs.GrammarLemmas.{such_read}
use Rattle.oas_num.proofs.HalfwayLemmas.{◌▸◌, at_image, fails_at, fails_last, is_read, such_took, such_refused}
use Rattle.oas_standard.specs.Long.{IsLong, PrefixFree-long}
use Rattle.oas_standard.specs.Reals.{IsRealType, real_type, WideRealTook}
use Rattle.oas_standard.proofs.reals.WideRealSpelled.read.Goals as goal

pub returns-in_err-kind : goal.returns-in_err-kind
returns-in_err-kind g c =
    let p = err_from_is_err_and c.from_residual.result c.from_residual.ensures.1 in
    rw (p.1, p.2) (fails_at (at_image {took = WideRealTook} _) (such_took c.in_err-kind.ensures))

pub returns-then-kind-ge8 : goal.returns-then-kind-ge8
returns-then-kind-ge8 g c = fails_at (at_image {took = WideRealTook} _)
    (such_refused PrefixFree-long refl (λ lt. omega (arith, lt, c.if-kind-ge8.true)) (refl, λ lt. omega (arith, lt, c.if-kind-ge8.true)) c.in_ok-kind.ensures)

pub returns-in_err-real : goal.returns-in_err-real
returns-in_err-real g c =
    let p = err_from_is_err_and c.from_residual-in_err-real.result c.from_residual-in_err-real.ensures.1 in
    rw (p.1, p.2) (fails_last (at_image {took = WideRealTook} _ ▸
    (real_type.found.one, such_read IsRealType IsLong _ _ _ (omega (arith, c.if-kind-ge8.false)) c.in_ok-kind.ensures)) c.in_err-real.ensures)

pub returns : goal.returns
returns g c = is_read (at_image {took = WideRealTook} _ ▸ (real_type.found.one, such_read IsRealType IsLong _ _ _ (omega (arith, c.if-kind-ge8.false)) c.in_ok-kind.ensures)) c.in_ok-real.ensures
