use Rattle.oas_form.proofs.Written as law
use Rattle.oas_form.proofs.laws.form_within.Goals as goal

pub returns : goal.returns
returns c = law.form_within
