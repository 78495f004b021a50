use Rattle.std.proofs.Common.{refl, arith}
use Rattle.std.proofs.lemmas.Result.{err_from_is_err_and}
use Rattle.oas_num.proofs.GrammarLemmas.{such_read}
use Rattle.oas_num.proofs.HalfwayLemmas.{at_image, image_took, is_read, such_took, such_refused}
use Rattle.oas_standard.specs.Little.{four}
use Rattle.oas_standard.specs.Reals.{IsFiniteSingle, single}
use Rattle.oas_standard.proofs.reals.read_single.Goals as goal

pub returns-in_err-bits : goal.returns-in_err-bits
returns-in_err-bits g c =
    let p = err_from_is_err_and c.from_residual.result c.from_residual.ensures.1 in
    rw (p.1, p.2) (image_took (such_took c.in_err-bits.ensures))

pub returns-then-exponent-eq255 : goal.returns-then-exponent-eq255
returns-then-exponent-eq255 g c = image_took
    (such_refused four.found.one refl (λ lt. omega (arith, lt, c.if-exponent-eq255.true)) (refl, λ lt. omega (arith, lt, c.if-exponent-eq255.true)) c.in_ok-bits.ensures)

pub returns : goal.returns
returns g c = rw (c.float_of.ensures, c.from.ensures)
    (is_read (at_image {took = single.took} _) (such_read IsFiniteSingle four.any _ _ _ (omega (arith, c.if-exponent-eq255.false)) c.in_ok-bits.ensures))
