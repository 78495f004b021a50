use Rattle.oas_difference.proofs.Chosen as law
use Rattle.oas_difference.proofs.laws.all_by_default.Goals as goal

pub returns : goal.returns
returns c = law.all_by_default
