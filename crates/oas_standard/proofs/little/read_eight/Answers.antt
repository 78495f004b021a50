use Rattle.std.proofs.lemmas.Result.{err_from_is_err_and}
use Rattle.oas_standard.specs.Little.{four, EightTook}
use Rattle.oas_num.proofs.HalfwayLemmas.{◌▸◌, at_image, fails_at, fails_last, is_read}
use Rattle.oas_standard.proofs.little.read_eight.Goals as goal

pub returns-in_err-low : goal.returns-in_err-low
returns-in_err-low g c =
    let p = err_from_is_err_and c.from_residual.result c.from_residual.ensures.1 in
    rw (p.1, p.2) (fails_at (at_image {took = EightTook} _) c.in_err-low.ensures)

pub returns-in_err-high : goal.returns-in_err-high
returns-in_err-high g c =
    let p = err_from_is_err_and c.from_residual-in_err-high.result c.from_residual-in_err-high.ensures.1 in
    rw (p.1, p.2) (fails_last (at_image {took = EightTook} _ ▸ (four.found.one, c.in_ok-low.ensures)) c.in_err-high.ensures)

pub returns : goal.returns
returns g c = rw (c.from.ensures, c.from-2.ensures) (is_read (at_image {took = EightTook} _ ▸ (four.found.one, c.in_ok-low.ensures)) c.in_ok-high.ensures)
