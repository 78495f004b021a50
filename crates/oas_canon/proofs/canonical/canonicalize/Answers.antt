use Rattle.std.proofs.Common.{ℕ, inr, rules}
use Rattle.std.proofs.lemmas.Result.{err_from_is_err_and}
use Rattle.oas_canon.proofs.Whole.{has_form, done, cut, unwritten, exactly_refused, exactly_written}
use Rattle.oas_canon.proofs.canonical.canonicalize.Goals as goal

pub returns-in_err-given-clause-exactly : goal.returns-in_err-given-clause-exactly
returns-in_err-given-clause-exactly g c =
    let p = err_from_is_err_and c.from_residual.result c.from_residual.ensures.1 in
    rw (p.1, p.2) (exactly_refused ℕ _ c.in_err-given.ensures.0)

pub returns-clause-done : goal.returns-clause-done
returns-clause-done g c = done (has_form _ c.in_ok-given.ensures) _ _ _ _ c.write_given.ensures.written

pub returns-clause-cut : goal.returns-clause-cut
returns-clause-cut g c = cut (has_form _ c.in_ok-given.ensures) _ _ _ _ c.write_given.ensures.refused

pub returns-clause-exactly : goal.returns-clause-exactly
returns-clause-exactly g c = exactly_written _ _ _ _ (has_form _ c.in_ok-given.ensures) c.write_given.ensures.refused

pub returns-in_err-given-clause-refused : goal.returns-in_err-given-clause-refused
returns-in_err-given-clause-refused g c =
    let p = err_from_is_err_and c.from_residual.result c.from_residual.ensures.1 in
    rw (p.1, p.2) (inr c.in_err-given.ensures.0)

pub returns-in_err-given-clause-placed : goal.returns-in_err-given-clause-placed
returns-in_err-given-clause-placed g c =
    let p = err_from_is_err_and c.from_residual.result c.from_residual.ensures.1 in
    rw (p.1, p.2) (inr c.in_err-given.ensures.1)

pub returns-in_err-given-clause-decided : goal.returns-in_err-given-clause-decided
returns-in_err-given-clause-decided g c =
    let p = err_from_is_err_and c.from_residual.result c.from_residual.ensures.1 in
    rw (p.1, p.2) (inr c.in_err-given.ensures.2)

pub returns-in_err-given-clause-nothing : goal.returns-in_err-given-clause-nothing
returns-in_err-given-clause-nothing g c = search rules

pub returns-in_err-given-clause-cut : goal.returns-in_err-given-clause-cut
returns-in_err-given-clause-cut g c = search rules

pub returns-in_err-given-clause-done : goal.returns-in_err-given-clause-done
returns-in_err-given-clause-done g c = search rules

pub returns-clause-refused : goal.returns-clause-refused
returns-clause-refused g c = unwritten _ _ _ _ _ _ c.write_given.ensures.refused

pub returns-clause-placed : goal.returns-clause-placed
returns-clause-placed g c = unwritten _ _ _ _ _ _ c.write_given.ensures.refused

pub returns-clause-decided : goal.returns-clause-decided
returns-clause-decided g c = unwritten _ _ _ _ _ _ c.write_given.ensures.refused

pub returns-clause-nothing : goal.returns-clause-nothing
returns-clause-nothing g c = unwritten _ _ _ _ _ _ c.write_given.ensures.refused
