use Rattle.std.proofs.lemmas.Result.{err_from_is_err_and}
use Rattle.oas_num.proofs.HalfwayLemmas.{◌▸◌, fails_at, fails_last, is_read}
use Rattle.oas_record.specs.Trees.{there}
use Rattle.oas_record.proofs.ElementLemmas.{allowed_by, refused_by}
use Rattle.oas_record.proofs.InfoLemmas.{info_took, info_refused, info_read}
use Rattle.oas_standard.specs.Properties.{property_name, property_parts}
use Rattle.oas_standard.proofs.properties.Property.read.Goals as goal

pub returns-in_err-info : goal.returns-in_err-info
returns-in_err-info g c =
    let p = err_from_is_err_and c.from_residual.result c.from_residual.ensures.1 in
    rw (p.1, p.2) (info_took c.in_err-info.ensures)

pub returns-then-not-is_property_info : goal.returns-then-not-is_property_info
returns-then-not-is_property_info g c = info_refused (refused_by c.is_property_info.ensures c.if-not-is_property_info.true) c.in_ok-info.ensures

pub returns-in_err-name : goal.returns-in_err-name
returns-in_err-name g c =
    let p = err_from_is_err_and c.from_residual-in_err-name.result c.from_residual-in_err-name.ensures.1 in
    rw (p.1, p.2) (fails_at (info_read {took = λ info. (property_parts info).took} (allowed_by c.is_property_info.ensures c.if-not-is_property_info.false) c.in_ok-info.ensures) c.in_err-name.ensures)

pub returns-in_err-values : goal.returns-in_err-values
returns-in_err-values g c =
    let p = err_from_is_err_and c.from_residual-in_err-values.result c.from_residual-in_err-values.ensures.1 in
    rw (p.1, p.2) (fails_last (info_read {took = λ info. (property_parts info).took} (allowed_by c.is_property_info.ensures c.if-not-is_property_info.false)
    c.in_ok-info.ensures ▸ ((there _ (property_name _)).found.one, c.in_ok-name.ensures)) c.in_err-values.ensures)

pub returns : goal.returns
returns g c = is_read (info_read {took = λ info. (property_parts info).took} (allowed_by c.is_property_info.ensures c.if-not-is_property_info.false)
    c.in_ok-info.ensures ▸ ((there _ (property_name _)).found.one, c.in_ok-name.ensures)) c.in_ok-values.ensures
