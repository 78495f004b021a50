use Rattle.std.proofs.lemmas.Result.{err_from_is_err_and}
use Rattle.oas_num.specs.Laws.TextLaws.{PrefixFree-padding}
use Rattle.oas_standard.specs.LayerNames.{interval, LayerNameTook}
use Rattle.oas_num.proofs.HalfwayLemmas.{◌▸◌, at_image, fails_at, fails_last, is_read}
use Rattle.oas_standard.proofs.layer_names.LayerName.read.Goals as goal

pub returns-in_err-name : goal.returns-in_err-name
returns-in_err-name g c =
    let p = err_from_is_err_and c.from_residual.result c.from_residual.ensures.1 in
    rw (p.1, p.2) (fails_at (at_image {took = LayerNameTook} _) c.in_err-name.ensures)

pub returns-in_err-layers : goal.returns-in_err-layers
returns-in_err-layers g c =
    let p = err_from_is_err_and c.from_residual-in_err-layers.result c.from_residual-in_err-layers.ensures.1 in
    rw (p.1, p.2) (fails_at (at_image {took = LayerNameTook} _ ▸ (PrefixFree-padding, c.in_ok-name.ensures)) c.in_err-layers.ensures)

pub returns-in_err-datatypes : goal.returns-in_err-datatypes
returns-in_err-datatypes g c =
    let p = err_from_is_err_and c.from_residual-in_err-datatypes.result c.from_residual-in_err-datatypes.ensures.1 in
    rw (p.1, p.2) (fails_last (at_image {took = LayerNameTook} _ ▸ (PrefixFree-padding, c.in_ok-name.ensures) ▸ (interval.found.one, c.in_ok-layers.ensures)) c.in_err-datatypes.ensures)

pub returns : goal.returns
returns g c = is_read (at_image {took = LayerNameTook} _ ▸ (PrefixFree-padding, c.in_ok-name.ensures) ▸ (interval.found.one, c.in_ok-layers.ensures)) c.in_ok-datatypes.ensures
