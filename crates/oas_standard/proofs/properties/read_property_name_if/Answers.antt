use Rattle.std.proofs.lemmas.Result.{err_from_is_err_and}
use Rattle.oas_num.proofs.HalfwayLemmas.{there_took}
use Rattle.oas_standard.proofs.properties.read_property_name_if.Goals as goal

pub returns-in_err-read_property_name : goal.returns-in_err-read_property_name
returns-in_err-read_property_name g c =
    let p = err_from_is_err_and c.from_residual.result c.from_residual.ensures.1 in
    rw (p.1, p.2) (there_took _ c.if-is_given.true c.in_err-read_property_name.ensures)
