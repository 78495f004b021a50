use Rattle.std.proofs.lemmas.Result.{err_from_is_err_and}
use Rattle.oas_num.proofs.HalfwayLemmas.{image_took}
use Rattle.oas_shape.specs.Repetitions.{x_space, y_space}
use Rattle.oas_num.specs.Integers.{IsUnsigned}
use Rattle.oas_shape.proofs.ReadingLemmas.{image_read}
use Rattle.oas_shape.proofs.offsets.read_displacement.Goals as goal

pub returns-in_err-space-in-X : goal.returns-in_err-space-in-X
returns-in_err-space-in-X g c =
    let p = err_from_is_err_and c.from_residual.result c.from_residual.ensures.1 in
    rw (p.1, p.2, c.in-X.is) (image_took {f = x_space} c.in_err-space-in-X.ensures)

pub returns-in_err-space-in-Y : goal.returns-in_err-space-in-Y
returns-in_err-space-in-Y g c =
    let p = err_from_is_err_and c.from_residual-in_err-space-in-Y.result c.from_residual-in_err-space-in-Y.ensures.1 in
    rw (p.1, p.2, c.in-Y.is) (image_took {f = y_space} c.in_err-space-in-Y.ensures)

pub returns-in_ok-space-in-X : goal.returns-in_ok-space-in-X
returns-in_ok-space-in-X g c = rw (c.along_x.ensures, c.in-X.is) (image_read x_space IsUnsigned c.in_ok-space-in-X.ensures)

pub returns-in_ok-space-in-Y : goal.returns-in_ok-space-in-Y
returns-in_ok-space-in-Y g c = rw (c.along_y.ensures, c.in-Y.is) (image_read y_space IsUnsigned c.in_ok-space-in-Y.ensures)
