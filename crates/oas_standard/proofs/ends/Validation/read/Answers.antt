use Rattle.std.proofs.Common.{refl, arith}
use Rattle.std.proofs.lemmas.Result.{err_from_is_err_and}
use Rattle.oas_num.proofs.GrammarLemmas.{such_read}
use Rattle.oas_num.proofs.HalfwayLemmas.{◌▸◌, at_image, fails_at, fails_last, is_read, such_took, such_refused}
use Rattle.oas_standard.specs.Ends.{IsScheme, scheme, ValidationTook}
use Rattle.oas_standard.specs.Long.{IsLong, PrefixFree-long}
use Rattle.oas_standard.proofs.ends.Validation.read.Goals as goal

pub returns-in_err-scheme : goal.returns-in_err-scheme
returns-in_err-scheme g c =
    let p = err_from_is_err_and c.from_residual.result c.from_residual.ensures.1 in
    rw (p.1, p.2) (fails_at (at_image {took = ValidationTook} _) (such_took c.in_err-scheme.ensures))

pub returns-then-scheme-gt2 : goal.returns-then-scheme-gt2
returns-then-scheme-gt2 g c = fails_at (at_image {took = ValidationTook} _)
    (such_refused PrefixFree-long refl (λ lt. omega (arith, lt, c.if-scheme-gt2.true)) (refl, λ lt. omega (arith, lt, c.if-scheme-gt2.true)) c.in_ok-scheme.ensures)

pub returns-in_err-signature : goal.returns-in_err-signature
returns-in_err-signature g c =
    let p = err_from_is_err_and c.from_residual-in_err-signature.result c.from_residual-in_err-signature.ensures.1 in
    rw (p.1, p.2) (fails_last (at_image {took = ValidationTook} _ ▸
    (scheme.found.one, such_read IsScheme IsLong _ _ _ (omega (arith, c.if-scheme-gt2.false)) c.in_ok-scheme.ensures)) c.in_err-signature.ensures)

pub returns : goal.returns
returns g c = rw c.validation_of.ensures
    (is_read (at_image {took = ValidationTook} _ ▸
    (scheme.found.one, such_read IsScheme IsLong _ _ _ (omega (arith, c.if-scheme-gt2.false)) c.in_ok-scheme.ensures)) c.in_ok-signature.ensures)
