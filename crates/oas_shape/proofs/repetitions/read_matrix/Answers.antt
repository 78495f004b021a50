use Rattle.std.proofs.lemmas.Result.{err_from_is_err_and}
use Rattle.oas_shape.specs.Repetitions.{MatrixTook}
use Rattle.oas_shape.specs.Laws.RepetitionLaws.{PrefixFree-two}
use Rattle.oas_num.proofs.HalfwayLemmas.{at_image, ◌▸◌, fails_at, fails_last, is_read}
use Rattle.oas_shape.proofs.repetitions.read_matrix.Goals as goal

pub returns-in_err-x_dim : goal.returns-in_err-x_dim
returns-in_err-x_dim g c =
    let p = err_from_is_err_and c.from_residual.result c.from_residual.ensures.1 in
    rw (p.1, p.2) (fails_at (at_image _) c.in_err-x_dim.ensures)

pub returns-in_err-x_space : goal.returns-in_err-x_space
returns-in_err-x_space g c =
    let p = err_from_is_err_and c.from_residual-in_err-x_space.result c.from_residual-in_err-x_space.ensures.1 in
    rw (p.1, p.2) (fails_last (at_image _ ▸ (PrefixFree-two, c.in_ok-x_dim.ensures)) c.in_err-x_space.ensures)

pub returns : goal.returns
returns g c = is_read (at_image {took = MatrixTook} _ ▸ (PrefixFree-two, c.in_ok-x_dim.ensures)) c.in_ok-x_space.ensures
