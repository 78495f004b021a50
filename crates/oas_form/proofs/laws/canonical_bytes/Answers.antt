use Rattle.oas_form.proofs.Written as law
use Rattle.oas_form.proofs.laws.canonical_bytes.Goals as goal

pub returns : goal.returns
returns c = law.canonical_form
