use Rattle.std.proofs.lemmas.Result.{err_from_is_err_and}
use Rattle.oas_num.proofs.GrammarLemmas.{wrapped_read, wrapped_fails}
use Rattle.oas_num.specs.declared.integers.Unsigned.{Unsigned}
use Rattle.oas_num.proofs.integers.UnsignedSpelled.read.Goals as goal

pub returns-in_err-read_unsigned : goal.returns-in_err-read_unsigned
returns-in_err-read_unsigned g c =
    let p = err_from_is_err_and c.from_residual.result c.from_residual.ensures.1 in
    let f = wrapped_fails (λ (u : Unsigned). u.0) c.in_err-read_unsigned.ensures in
    rw (p.1, p.2) f

pub returns : goal.returns
returns g c =
    let read = wrapped_read (λ (u : Unsigned). u.0) c.in_ok-read_unsigned.ensures in
    read
