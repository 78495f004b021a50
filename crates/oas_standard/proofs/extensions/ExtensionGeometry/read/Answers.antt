use Rattle.std.proofs.Common.{arith}
use Rattle.std.proofs.lemmas.Result.{err_from_is_err_and}
use Rattle.oas_num.specs.Style.{Any}
use Rattle.oas_num.specs.Laws.TextLaws.{PrefixFree-padding}
use Rattle.oas_num.proofs.HalfwayLemmas.{◌▸◌, fails_at, fails_last, is_read}
use Rattle.oas_record.proofs.FieldLemmas.{PrefixFree-layers}
use Rattle.oas_record.proofs.InfoLemmas.{info_took, info_refused, info_read}
use Rattle.oas_standard.specs.Extensions.{geometry_parts}
use Rattle.oas_standard.specs.Long.{PrefixFree-long}
use Rattle.oas_standard.proofs.extensions.ExtensionGeometry.read.Goals as goal

pub returns-in_err-info : goal.returns-in_err-info
returns-in_err-info g c =
    let p = err_from_is_err_and c.from_residual.result c.from_residual.ensures.1 in
    rw (p.1, p.2) (info_took c.in_err-info.ensures)

pub returns-then-info-ge32 : goal.returns-then-info-ge32
returns-then-info-ge32 g c = info_refused (λ lt. omega (arith, lt, c.if-info-ge32.true)) c.in_ok-info.ensures

pub returns-in_err-attribute : goal.returns-in_err-attribute
returns-in_err-attribute g c =
    let p = err_from_is_err_and c.from_residual-in_err-attribute.result c.from_residual-in_err-attribute.ensures.1 in
    rw (p.1, p.2) (fails_at (info_read {took = λ info. (geometry_parts info).took} (omega (arith, c.if-info-ge32.false)) c.in_ok-info.ensures) c.in_err-attribute.ensures)

pub returns-in_err-layers : goal.returns-in_err-layers
returns-in_err-layers g c =
    let p = err_from_is_err_and c.from_residual-in_err-layers.result c.from_residual-in_err-layers.ensures.1 in
    rw (p.1, p.2) (fails_at (info_read {took = λ info. (geometry_parts info).took} (omega (arith, c.if-info-ge32.false)) c.in_ok-info.ensures ▸
    (PrefixFree-long, c.in_ok-attribute.ensures)) c.in_err-layers.ensures)

pub returns-in_err-string : goal.returns-in_err-string
returns-in_err-string g c =
    let p = err_from_is_err_and c.from_residual-in_err-string.result c.from_residual-in_err-string.ensures.1 in
    rw (p.1, p.2) (fails_at (info_read {took = λ info. (geometry_parts info).took} (omega (arith, c.if-info-ge32.false)) c.in_ok-info.ensures ▸
    (PrefixFree-long, c.in_ok-attribute.ensures) ▸ (PrefixFree-layers Any _, c.in_ok-layers.ensures)) c.in_err-string.ensures)

pub returns-in_err-spot : goal.returns-in_err-spot
returns-in_err-spot g c =
    let p = err_from_is_err_and c.from_residual-in_err-spot.result c.from_residual-in_err-spot.ensures.1 in
    rw (p.1, p.2) (fails_last (info_read {took = λ info. (geometry_parts info).took} (omega (arith, c.if-info-ge32.false)) c.in_ok-info.ensures ▸
    (PrefixFree-long, c.in_ok-attribute.ensures) ▸ (PrefixFree-layers Any _, c.in_ok-layers.ensures) ▸ (PrefixFree-padding, c.in_ok-string.ensures)) c.in_err-spot.ensures)

pub returns : goal.returns
returns g c = is_read (info_read {took = λ info. (geometry_parts info).took} (omega (arith, c.if-info-ge32.false)) c.in_ok-info.ensures ▸
    (PrefixFree-long, c.in_ok-attribute.ensures) ▸ (PrefixFree-layers Any _, c.in_ok-layers.ensures) ▸ (PrefixFree-padding, c.in_ok-string.ensures)) c.in_ok-spot.ensures
