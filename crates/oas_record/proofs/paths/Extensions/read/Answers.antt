use Rattle.std.proofs.Common.{refl, arith}
use Rattle.std.proofs.lemmas.Result.{err_from_is_err_and}
use Rattle.oas_num.specs.Laws.IntegerLaws.{PrefixFree-IsUnsigned}
use Rattle.oas_record.specs.Paths.{ExtensionsTook}
use Rattle.oas_record.proofs.FieldLemmas.{PrefixFree-signed_if, scheme_field, other_scheme}
use Rattle.oas_num.proofs.HalfwayLemmas.{◌▸◌, at_image, fails_at, fails_last, is_read, such_took, such_refused, signed_took}
use Rattle.oas_record.proofs.paths.Extensions.read.Goals as goal

pub returns-in_err-scheme : goal.returns-in_err-scheme
returns-in_err-scheme g c =
    let p = err_from_is_err_and c.from_residual.result c.from_residual.ensures.1 in
    rw (p.1, p.2) (fails_at (at_image _) (such_took c.in_err-scheme.ensures))

pub returns-then-scheme-ge16 : goal.returns-then-scheme-ge16
returns-then-scheme-ge16 g c = fails_at (at_image _) (such_refused PrefixFree-IsUnsigned refl (other_scheme c.if-scheme-ge16.true) (refl, other_scheme c.if-scheme-ge16.true) c.in_ok-scheme.ensures)

pub returns-in_err-start : goal.returns-in_err-start
returns-in_err-start g c =
    let p = err_from_is_err_and c.from_residual-in_err-start.result c.from_residual-in_err-start.ensures.1 in
    rw (p.1, p.2) (fails_at (at_image _ ▸ scheme_field (omega (arith, c.if-scheme-ge16.false)) c.in_ok-scheme.ensures) (signed_took _ c.in_err-start.ensures))

pub returns-in_err-end : goal.returns-in_err-end
returns-in_err-end g c =
    let p = err_from_is_err_and c.from_residual-in_err-end.result c.from_residual-in_err-end.ensures.1 in
    rw (p.1, p.2) (fails_last (at_image _ ▸ scheme_field (omega (arith, c.if-scheme-ge16.false)) c.in_ok-scheme.ensures ▸
    (PrefixFree-signed_if _, c.in_ok-start.ensures)) (signed_took _ c.in_err-end.ensures))

pub returns : goal.returns
returns g c = rw (c.of.ensures, c.of-2.ensures) (is_read (at_image {took = ExtensionsTook} _ ▸ scheme_field (omega (arith, c.if-scheme-ge16.false))
    c.in_ok-scheme.ensures ▸ (PrefixFree-signed_if _, c.in_ok-start.ensures)) c.in_ok-end.ensures)
