use Rattle.oas_form.proofs.Existence as law
use Rattle.oas_form.proofs.laws.has_canonical_form.Goals as goal

pub returns : goal.returns
returns c = record { exists = law.has_canonical_form; together = law.limits_together; fits = law.form_fits_input }
