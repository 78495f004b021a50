use Rattle.std.proofs.lemmas.Result.{err_from_is_err_and}
use Rattle.oas_num.proofs.HalfwayLemmas.{◌▸◌, at_image, fails_at, fails_last, is_read}
use Rattle.oas_record.specs.Trees.{there}
use Rattle.oas_standard.specs.Long.{long_number}
use Rattle.oas_standard.specs.Reals.{fraction}
use Rattle.oas_standard.proofs.reals.read_fraction.Goals as goal

pub returns-in_err-num : goal.returns-in_err-num
returns-in_err-num g c =
    let p = err_from_is_err_and c.from_residual.result c.from_residual.ensures.1 in
    rw (p.1, p.2) (fails_at (at_image {took = (fraction c.args.kind).took} _) c.in_err-num.ensures)

pub returns-in_err-den : goal.returns-in_err-den
returns-in_err-den g c =
    let p = err_from_is_err_and c.from_residual-in_err-den.result c.from_residual-in_err-den.ensures.1 in
    rw (p.1, p.2) (fails_last (at_image {took = (fraction c.args.kind).took} _ ▸ ((there _ long_number).found.one, c.in_ok-num.ensures)) c.in_err-den.ensures)

pub returns : goal.returns
returns g c = rw (c.part_or_one.ensures, c.part_or_one-2.ensures) (is_read (at_image {took = (fraction c.args.kind).took} _ ▸ ((there _ long_number).found.one, c.in_ok-num.ensures)) c.in_ok-den.ensures)
