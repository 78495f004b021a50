use Rattle.oas_prepare.proofs.WideMeanings as law
use Rattle.oas_prepare.proofs.laws.same_prepared.Goals as goal

pub returns : goal.returns
returns c = law.same_prepared
