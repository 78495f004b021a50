use Rattle.std.proofs.lemmas.Result.{err_from_is_err_and}
use Rattle.oas_form.proofs.PuttingLemmas.{first, first_fails, last_fails}
use Rattle.oas_form.proofs.frames.put_part.Goals as goal

pub returns-in_err-front-clause-counts : goal.returns-in_err-front-clause-counts
returns-in_err-front-clause-counts g c =
    let p = err_from_is_err_and c.from_residual.result c.from_residual.ensures.1 in
    rw p.1 (first_fails _ c.in_err-front.ensures)

pub returns-in_err-number-clause-counts : goal.returns-in_err-number-clause-counts
returns-in_err-number-clause-counts g c =
    let p = err_from_is_err_and c.from_residual-in_err-number.result c.from_residual-in_err-number.ensures.1 in
    rw p.1 (last_fails (first _ c.in_ok-front.ensures) c.in_err-number.ensures.counts)
