use Rattle.oas_form.proofs.Held as law
use Rattle.oas_form.proofs.laws.form_is_bytes.Goals as goal

pub returns : goal.returns
returns c = law.form_is_bytes
