use Rattle.std.proofs.lemmas.Result.{err_from_is_err_and}
use Rattle.oas_num.specs.Laws.IntegerLaws.{PrefixFree-IsUnsigned}
use Rattle.oas_shape.specs.Repetitions.{AreTwo, TwoTook}
use Rattle.oas_num.proofs.HalfwayLemmas.{at_start, ◌▸◌, fails_at, fails_last, is_read}
use Rattle.oas_shape.proofs.repetitions.read_two.Goals as goal

pub returns-in_err-first : goal.returns-in_err-first
returns-in_err-first g c =
    let p = err_from_is_err_and c.from_residual.result c.from_residual.ensures.1 in
    rw (p.1, p.2) (fails_at (at_start _) c.in_err-first.ensures)

pub returns-in_err-second : goal.returns-in_err-second
returns-in_err-second g c =
    let p = err_from_is_err_and c.from_residual-in_err-second.result c.from_residual-in_err-second.ensures.1 in
    rw (p.1, p.2) (fails_last (at_start _ ▸ (PrefixFree-IsUnsigned, c.in_ok-first.ensures)) c.in_err-second.ensures)

pub returns : goal.returns
returns g c = is_read (at_start {A = AreTwo} {took = TwoTook} _ ▸ (PrefixFree-IsUnsigned, c.in_ok-first.ensures)) c.in_ok-second.ensures
