use Rattle.std.proofs.Common.{rules}
use Rattle.std.proofs.lemmas.Result.{err_from_is_err_and}
use Rattle.oas_num.proofs.GrammarLemmas.{there_fails}
use Rattle.oas_num.proofs.integers.read_unsigned_if.Goals as goal

pub returns-in_err-read_unsigned : goal.returns-in_err-read_unsigned
returns-in_err-read_unsigned g c =
    let p = err_from_is_err_and c.from_residual.result c.from_residual.ensures.1 in
    rw (p.1, p.2) (there_fails _ c.if-there.true c.in_err-read_unsigned.ensures)

pub returns-in_ok-read_unsigned : goal.returns-in_ok-read_unsigned
returns-in_ok-read_unsigned g c = search rules
