use Rattle.std.proofs.Common.{rules}
use Rattle.std.proofs.lemmas.Result.{err_from_is_err_and}
use Rattle.oas_num.proofs.GrammarLemmas.{there_fails}
use Rattle.oas_num.proofs.integers.read_signed_if.Goals as goal

pub returns-in_err-read_signed : goal.returns-in_err-read_signed
returns-in_err-read_signed g c =
    let p = err_from_is_err_and c.from_residual.result c.from_residual.ensures.1 in
    rw (p.1, p.2) (there_fails _ c.if-there.true c.in_err-read_signed.ensures)

pub returns-in_ok-read_signed : goal.returns-in_ok-read_signed
returns-in_ok-read_signed g c = search rules
