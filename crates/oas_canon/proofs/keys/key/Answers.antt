use Rattle.std.proofs.Common.{ℕ, List}
use Rattle.std.proofs.lemmas.Result.{err_from_is_err_and}
use Rattle.oas_canon.proofs.Whole.{has_form, keyed, exactly_refused, exactly_taken}
use Rattle.oas_canon.proofs.keys.key.Goals as goal

pub returns-in_err-given-clause-exactly : goal.returns-in_err-given-clause-exactly
returns-in_err-given-clause-exactly g c =
    let p = err_from_is_err_and c.from_residual.result c.from_residual.ensures.1 in
    rw (p.1, p.2) (exactly_refused (List ℕ) _ c.in_err-given.ensures.0)

pub returns-clause-keyed : goal.returns-clause-keyed
returns-clause-keyed g c = keyed (has_form _ c.in_ok-given.ensures) _ c.given_key.ensures

pub returns-clause-exactly : goal.returns-clause-exactly
returns-clause-exactly g c = let got = has_form _ c.in_ok-given.ensures in exactly_taken _ got.taken
