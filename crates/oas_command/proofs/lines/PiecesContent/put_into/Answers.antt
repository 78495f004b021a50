use Rattle.std.proofs.lemmas.Result.{err_from_is_err_and}
use Rattle.oas_num.proofs.PuttingLemmas.{first, fails_at, ends, ◌▸◌}
use Rattle.oas_command.proofs.lines.PiecesContent.put_into.Goals as goal

pub returns-in_err-put_all-2-clause-writes : goal.returns-in_err-put_all-2-clause-writes
returns-in_err-put_all-2-clause-writes g c =
    let p = err_from_is_err_and c.from_residual-in_err-put_all-2.result c.from_residual-in_err-put_all-2.ensures.1 in
    rw p.1 (fails_at _ (first _ c.in_ok-put_all.ensures) c.in_err-put_all-2.ensures)

pub returns-in_err-put_all-3-clause-writes : goal.returns-in_err-put_all-3-clause-writes
returns-in_err-put_all-3-clause-writes g c =
    let p = err_from_is_err_and c.from_residual-in_err-put_all-3.result c.from_residual-in_err-put_all-3.ensures.1 in
    rw p.1 (fails_at _ (first _ c.in_ok-put_all.ensures ▸ c.in_ok-put_all-2.ensures) c.in_err-put_all-3.ensures)

pub returns-in_err-put_all-4-clause-writes : goal.returns-in_err-put_all-4-clause-writes
returns-in_err-put_all-4-clause-writes g c =
    let p = err_from_is_err_and c.from_residual-in_err-put_all-4.result c.from_residual-in_err-put_all-4.ensures.1 in
    rw p.1 (fails_at _ (first _ c.in_ok-put_all.ensures ▸ c.in_ok-put_all-2.ensures ▸ c.in_ok-put_all-3.ensures) c.in_err-put_all-4.ensures)

pub returns-clause-writes : goal.returns-clause-writes
returns-clause-writes g c = ends _ _ (first _ c.in_ok-put_all.ensures ▸ c.in_ok-put_all-2.ensures ▸ c.in_ok-put_all-3.ensures ▸ c.in_ok-put_all-4.ensures) c.put.ensures
