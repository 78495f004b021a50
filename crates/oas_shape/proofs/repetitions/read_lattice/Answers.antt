use Rattle.std.proofs.lemmas.Result.{err_from_is_err_and}
use Rattle.oas_num.specs.Laws.DeltaLaws.{GDelta-one_front}
use Rattle.oas_shape.specs.Repetitions.{LatticeTook}
use Rattle.oas_shape.specs.Laws.RepetitionLaws.{PrefixFree-two}
use Rattle.oas_num.proofs.HalfwayLemmas.{at_image, ◌▸◌, fails_at, fails_last, is_read}
use Rattle.oas_shape.proofs.repetitions.read_lattice.Goals as goal

pub returns-in_err-n_dim : goal.returns-in_err-n_dim
returns-in_err-n_dim g c =
    let p = err_from_is_err_and c.from_residual.result c.from_residual.ensures.1 in
    rw (p.1, p.2) (fails_at (at_image _) c.in_err-n_dim.ensures)

pub returns-in_err-n : goal.returns-in_err-n
returns-in_err-n g c =
    let p = err_from_is_err_and c.from_residual-in_err-n.result c.from_residual-in_err-n.ensures.1 in
    rw (p.1, p.2) (fails_at (at_image _ ▸ (PrefixFree-two, c.in_ok-n_dim.ensures)) c.in_err-n.ensures)

pub returns-in_err-m : goal.returns-in_err-m
returns-in_err-m g c =
    let p = err_from_is_err_and c.from_residual-in_err-m.result c.from_residual-in_err-m.ensures.1 in
    rw (p.1, p.2) (fails_last (at_image _ ▸ (PrefixFree-two, c.in_ok-n_dim.ensures) ▸ (GDelta-one_front, c.in_ok-n.ensures)) c.in_err-m.ensures)

pub returns : goal.returns
returns g c = is_read (at_image {took = LatticeTook} _ ▸ (PrefixFree-two, c.in_ok-n_dim.ensures) ▸ (GDelta-one_front, c.in_ok-n.ensures)) c.in_ok-m.ensures
