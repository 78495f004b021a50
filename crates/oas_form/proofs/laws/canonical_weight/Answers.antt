use Rattle.oas_form.proofs.Held as law
use Rattle.oas_form.proofs.laws.canonical_weight.Goals as goal

pub returns : goal.returns
returns c = law.canonical_weight
