use Rattle.std.proofs.lemmas.Result.{err_from_is_err_and}
use Rattle.oas_form.specs.Bytes.{end_bytes}
use Rattle.oas_form.proofs.PuttingLemmas.{first, first_fails, last_fails, ends}
use Rattle.oas_form.proofs.frames.put_end.Goals as goal

pub returns-in_err-front-clause-counts : goal.returns-in_err-front-clause-counts
unfolding end_bytes
returns-in_err-front-clause-counts g c =
    let p = err_from_is_err_and c.from_residual.result c.from_residual.ensures.1 in
    rw p.1 (first_fails _ c.in_err-front.ensures)

pub returns-in_err-padding-clause-counts : goal.returns-in_err-padding-clause-counts
unfolding end_bytes
returns-in_err-padding-clause-counts g c =
    let p = err_from_is_err_and c.from_residual-in_err-padding.result c.from_residual-in_err-padding.ensures.1 in
    rw p.1 (last_fails (first _ c.in_ok-front.ensures) c.in_err-padding.ensures)

pub returns-clause-counts : goal.returns-clause-counts
unfolding end_bytes
returns-clause-counts g c = ends (first _ c.in_ok-front.ensures) c.in_ok-padding.ensures
