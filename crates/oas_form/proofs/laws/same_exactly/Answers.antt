use Rattle.oas_form.proofs.Existence as existence
use Rattle.oas_form.proofs.Forms as law
use Rattle.oas_form.proofs.laws.same_exactly.Goals as goal

pub returns : goal.returns
returns c = record { exactly = existence.same_exactly; equal = law.forms_equal }
