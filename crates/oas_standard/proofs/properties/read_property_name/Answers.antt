use Rattle.std.proofs.lemmas.Result.{err_from_is_err_and}
use Rattle.oas_num.proofs.HalfwayLemmas.{image_took}
use Rattle.oas_standard.specs.Properties.{number_name, string_name}
use Rattle.oas_standard.proofs.properties.read_property_name.Goals as goal

pub returns-in_err-read_unsigned : goal.returns-in_err-read_unsigned
returns-in_err-read_unsigned g c =
    let p = err_from_is_err_and c.from_residual.result c.from_residual.ensures.1 in
    rw (p.1, p.2) (rw c.if-numbered.true (image_took {f = number_name} c.in_err-read_unsigned.ensures))

pub returns-in_err-read : goal.returns-in_err-read
returns-in_err-read g c =
    let p = err_from_is_err_and c.from_residual-in_err-read.result c.from_residual-in_err-read.ensures.1 in
    rw (p.1, p.2) (rw c.if-numbered.false (image_took {f = string_name} c.in_err-read.ensures))
