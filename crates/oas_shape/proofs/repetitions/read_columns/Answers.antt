use Rattle.std.proofs.lemmas.Result.{err_from_is_err_and}
use Rattle.oas_shape.specs.Repetitions.{AreTwo, columns_of}
use Rattle.oas_num.proofs.HalfwayLemmas.{image_took}
use Rattle.oas_shape.proofs.ReadingLemmas.{image_read}
use Rattle.oas_shape.proofs.repetitions.read_columns.Goals as goal

pub returns-in_err-dim : goal.returns-in_err-dim
returns-in_err-dim g c =
    let p = err_from_is_err_and c.from_residual.result c.from_residual.ensures.1 in
    rw (p.1, p.2) (image_took {f = columns_of} c.in_err-dim.ensures)

pub returns : goal.returns
returns g c = image_read columns_of AreTwo c.in_ok-dim.ensures
