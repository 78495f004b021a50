use Rattle.std.proofs.Common.{Bool}
use Rattle.oas_canon.proofs.Whole.{has_form, alike, compared, exactly_refused, exactly_taken}
use Rattle.oas_canon.proofs.sameness.same_files.Goals as goal

pub returns-in-Err-clause-exactly : goal.returns-in-Err-clause-exactly
returns-in-Err-clause-exactly g c = exactly_refused Bool c.in-Err.refusal c.in-Err.ensures.0

pub returns-in-Err-read_given-clause-exactly : goal.returns-in-Err-read_given-clause-exactly
returns-in-Err-read_given-clause-exactly g c = exactly_refused Bool c.in-Err-read_given.refusal c.in-Err-read_given.ensures.0

pub have_one_form-requires : goal.have_one_form-requires
have_one_form-requires g c = alike _ _ _ _ _ _ _ _ c.in-Ok.ensures c.in-Ok-read_given.ensures

pub returns-clause-compared : goal.returns-clause-compared
returns-clause-compared g c = compared (has_form _ c.in-Ok.ensures) (has_form _ c.in-Ok-read_given.ensures) c.have_one_form.ensures

pub returns-clause-exactly : goal.returns-clause-exactly
returns-clause-exactly g c =
    let first = has_form _ c.in-Ok.ensures in
    let second = has_form _ c.in-Ok-read_given.ensures in
    (exactly_taken _ first.taken, exactly_taken _ second.taken)

pub returns-in-Err-read_given-clause-second : goal.returns-in-Err-read_given-clause-second
returns-in-Err-read_given-clause-second g c is = let got = has_form _ c.in-Ok.ensures in ((got.bytes, got.taken), c.in-Err-read_given.ensures)
