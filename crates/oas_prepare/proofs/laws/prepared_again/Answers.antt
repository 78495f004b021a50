use Rattle.oas_prepare.proofs.ProfileFiles as law
use Rattle.oas_prepare.proofs.laws.prepared_again.Goals as goal

pub returns : goal.returns
returns c = law.prepared_again
