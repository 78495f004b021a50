use Rattle.oas_form.proofs.Forms as law
use Rattle.oas_form.proofs.laws.canonical_again.Goals as goal

pub returns : goal.returns
returns c = law.canonical_again
