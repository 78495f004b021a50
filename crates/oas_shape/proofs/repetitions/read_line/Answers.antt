use Rattle.std.proofs.lemmas.Result.{err_from_is_err_and}
use Rattle.oas_num.specs.Laws.IntegerLaws.{PrefixFree-IsUnsigned}
use Rattle.oas_shape.specs.Repetitions.{LineTook}
use Rattle.oas_num.proofs.HalfwayLemmas.{at_image, ◌▸◌, fails_at, fails_last, is_read}
use Rattle.oas_shape.proofs.repetitions.read_line.Goals as goal

pub returns-in_err-dim : goal.returns-in_err-dim
returns-in_err-dim g c =
    let p = err_from_is_err_and c.from_residual.result c.from_residual.ensures.1 in
    rw (p.1, p.2) (fails_at (at_image _) c.in_err-dim.ensures)

pub returns-in_err-by : goal.returns-in_err-by
returns-in_err-by g c =
    let p = err_from_is_err_and c.from_residual-in_err-by.result c.from_residual-in_err-by.ensures.1 in
    rw (p.1, p.2) (fails_last (at_image _ ▸ (PrefixFree-IsUnsigned, c.in_ok-dim.ensures)) c.in_err-by.ensures)

pub returns : goal.returns
returns g c = is_read (at_image {took = LineTook} _ ▸ (PrefixFree-IsUnsigned, c.in_ok-dim.ensures)) c.in_ok-by.ensures
