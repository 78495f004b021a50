use Rattle.std.proofs.lemmas.Result.{err_from_is_err_and}
use Rattle.oas_num.specs.Style.{Any}
use Rattle.oas_shape.specs.declared.list_use.ListUse.TheVariants as uses
use Rattle.oas_record.specs.Paths.{path_parts}
use Rattle.oas_record.proofs.ElementLemmas.{PrefixFree-number_if}
use Rattle.oas_record.proofs.FieldLemmas.{PrefixFree-layers, PrefixFree-points_if, PrefixFree-extensions_if}
use Rattle.oas_num.proofs.HalfwayLemmas.{◌▸◌, fails_at, fails_last, is_read, number_took}
use Rattle.oas_record.proofs.InfoLemmas.{info_took, info_read}
use Rattle.oas_record.proofs.paths.Path.read.Goals as goal

pub returns-in_err-info : goal.returns-in_err-info
returns-in_err-info g c =
    let p = err_from_is_err_and c.from_residual.result c.from_residual.ensures.1 in
    rw (p.1, p.2) (info_took c.in_err-info.ensures)

pub returns-in_err-layers : goal.returns-in_err-layers
returns-in_err-layers g c =
    let p = err_from_is_err_and c.from_residual-in_err-layers.result c.from_residual-in_err-layers.ensures.1 in
    rw (p.1, p.2) (fails_at (info_read c.in_ok-info.ensures.spelled.small c.in_ok-info.ensures) c.in_err-layers.ensures)

pub returns-in_err-half_width : goal.returns-in_err-half_width
returns-in_err-half_width g c =
    let p = err_from_is_err_and c.from_residual-in_err-half_width.result c.from_residual-in_err-half_width.ensures.1 in
    rw (p.1, p.2) (fails_at (info_read c.in_ok-info.ensures.spelled.small c.in_ok-info.ensures ▸ (PrefixFree-layers Any _, c.in_ok-layers.ensures)) (number_took _ c.in_err-half_width.ensures))

pub returns-in_err-extensions : goal.returns-in_err-extensions
returns-in_err-extensions g c =
    let p = err_from_is_err_and c.from_residual-in_err-extensions.result c.from_residual-in_err-extensions.ensures.1 in
    rw (p.1, p.2) (fails_at (info_read c.in_ok-info.ensures.spelled.small c.in_ok-info.ensures ▸ (PrefixFree-layers Any _, c.in_ok-layers.ensures) ▸
    (PrefixFree-number_if _, c.in_ok-half_width.ensures)) c.in_err-extensions.ensures)

pub returns-in_err-points : goal.returns-in_err-points
returns-in_err-points g c =
    let p = err_from_is_err_and c.from_residual-in_err-points.result c.from_residual-in_err-points.ensures.1 in
    rw (p.1, p.2) (fails_at (info_read c.in_ok-info.ensures.spelled.small c.in_ok-info.ensures ▸ (PrefixFree-layers Any _, c.in_ok-layers.ensures) ▸
    (PrefixFree-number_if _, c.in_ok-half_width.ensures) ▸ (PrefixFree-extensions_if _, c.in_ok-extensions.ensures)) c.in_err-points.ensures)

pub returns-in_err-spot : goal.returns-in_err-spot
returns-in_err-spot g c =
    let p = err_from_is_err_and c.from_residual-in_err-spot.result c.from_residual-in_err-spot.ensures.1 in
    rw (p.1, p.2) (fails_last (info_read c.in_ok-info.ensures.spelled.small c.in_ok-info.ensures ▸ (PrefixFree-layers Any _, c.in_ok-layers.ensures) ▸
    (PrefixFree-number_if _, c.in_ok-half_width.ensures) ▸ (PrefixFree-extensions_if _, c.in_ok-extensions.ensures) ▸
    (PrefixFree-points_if _ uses.Path, c.in_ok-points.ensures)) c.in_err-spot.ensures)

pub returns : goal.returns
returns g c = is_read (info_read {took = λ info. (path_parts info).took} c.in_ok-info.ensures.spelled.small c.in_ok-info.ensures ▸
    (PrefixFree-layers Any _, c.in_ok-layers.ensures) ▸ (PrefixFree-number_if _, c.in_ok-half_width.ensures) ▸
    (PrefixFree-extensions_if _, c.in_ok-extensions.ensures) ▸ (PrefixFree-points_if _ uses.Path, c.in_ok-points.ensures)) c.in_ok-spot.ensures
