use Rattle.oas_form.proofs.Held as law
use Rattle.oas_form.proofs.laws.form_length.Goals as goal

pub returns : goal.returns
returns c = law.form_length
