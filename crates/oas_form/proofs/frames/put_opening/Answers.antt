use Rattle.std.proofs.lemmas.Result.{err_from_is_err_and}
use Rattle.oas_form.proofs.PuttingLemmas.{first, first_fails, last_fails, ends}
use Rattle.oas_form.proofs.frames.put_opening.Goals as goal

pub returns-in_err-id-clause-counts : goal.returns-in_err-id-clause-counts
returns-in_err-id-clause-counts g c =
    let p = err_from_is_err_and c.from_residual.result c.from_residual.ensures.1 in
    rw p.1 (first_fails _ c.in_err-id.ensures)

pub returns-in_err-string-clause-counts : goal.returns-in_err-string-clause-counts
returns-in_err-string-clause-counts g c =
    let p = err_from_is_err_and c.from_residual-in_err-string.result c.from_residual-in_err-string.ensures.1 in
    rw p.1 (last_fails (first _ c.in_ok-id.ensures) c.in_err-string.ensures.counts)

pub returns-clause-counts : goal.returns-clause-counts
returns-clause-counts g c = ends (first _ c.in_ok-id.ensures) c.in_ok-string.ensures.counts
