use Rattle.std.proofs.lemmas.Result.{err_from_is_err_and}
use Rattle.oas_form.proofs.PuttingLemmas.{first, last_fails}
use Rattle.oas_form.proofs.parts.put_string.Goals as goal

pub returns-in_err-bytes-clause-counts : goal.returns-in_err-bytes-clause-counts
returns-in_err-bytes-clause-counts g c =
    let p = err_from_is_err_and c.from_residual-in_err-bytes.result c.from_residual-in_err-bytes.ensures.1 in
    rw p.1 (last_fails (first _ c.in_ok-size.ensures.counts) c.in_err-bytes.ensures)
