use Rattle.std.proofs.lemmas.Result.{err_from_is_err_and}
use Rattle.oas_record.specs.Fields.{LayersTook}
use Rattle.oas_record.proofs.ElementLemmas.{PrefixFree-number_if}
use Rattle.oas_num.proofs.HalfwayLemmas.{◌▸◌, at_start, fails_at, fails_last, is_read, number_took}
use Rattle.oas_record.proofs.spots.read_layers.Goals as goal

pub returns-in_err-layer : goal.returns-in_err-layer
returns-in_err-layer g c =
    let p = err_from_is_err_and c.from_residual.result c.from_residual.ensures.1 in
    rw (p.1, p.2) (fails_at (at_start _) (number_took _ c.in_err-layer.ensures))

pub returns-in_err-datatype : goal.returns-in_err-datatype
returns-in_err-datatype g c =
    let p = err_from_is_err_and c.from_residual-in_err-datatype.result c.from_residual-in_err-datatype.ensures.1 in
    rw (p.1, p.2) (fails_last (at_start _ ▸ (PrefixFree-number_if _, c.in_ok-layer.ensures)) (number_took _ c.in_err-datatype.ensures))

pub returns : goal.returns
returns g c = is_read (at_start {took = LayersTook _} _ ▸ (PrefixFree-number_if _, c.in_ok-layer.ensures)) c.in_ok-datatype.ensures
