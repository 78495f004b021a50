use Rattle.oas_form.specs.Laws.FormLaws as law
use Rattle.oas_form.proofs.laws.form_is_accepted.Goals as goal

pub returns : goal.returns
returns c = law.form_is_accepted
