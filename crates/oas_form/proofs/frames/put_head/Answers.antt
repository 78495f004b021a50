use Rattle.std.proofs.lemmas.Result.{err_from_is_err_and}
use Rattle.oas_form.specs.Bytes.{head_bytes}
use Rattle.oas_form.proofs.PuttingLemmas.{first, first_fails, fails_at, last_fails, ends, ◌▸◌}
use Rattle.oas_form.proofs.frames.put_head.Goals as goal

pub returns-in_err-front-clause-counts : goal.returns-in_err-front-clause-counts
unfolding head_bytes
returns-in_err-front-clause-counts g c =
    let p = err_from_is_err_and c.from_residual.result c.from_residual.ensures.1 in
    rw p.1 (first_fails _ c.in_err-front.ensures)

pub returns-in_err-spelled-clause-counts : goal.returns-in_err-spelled-clause-counts
unfolding head_bytes
returns-in_err-spelled-clause-counts g c =
    let p = err_from_is_err_and c.from_residual-in_err-spelled.result c.from_residual-in_err-spelled.ensures.1 in
    rw p.1 (fails_at _ (first _ c.in_ok-front.ensures) c.in_err-spelled.ensures.counts)

pub returns-in_err-offsets-clause-counts : goal.returns-in_err-offsets-clause-counts
unfolding head_bytes
returns-in_err-offsets-clause-counts g c =
    let p = err_from_is_err_and c.from_residual-in_err-offsets.result c.from_residual-in_err-offsets.ensures.1 in
    rw p.1 (last_fails (first _ c.in_ok-front.ensures ▸ c.in_ok-spelled.ensures.counts) c.in_err-offsets.ensures)

pub returns-clause-counts : goal.returns-clause-counts
unfolding head_bytes
returns-clause-counts g c = ends (first _ c.in_ok-front.ensures ▸ c.in_ok-spelled.ensures.counts) c.in_ok-offsets.ensures
