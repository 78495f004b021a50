use Rattle.oas_difference.proofs.EmptyLaw as law
use Rattle.oas_difference.proofs.laws.empty_if_same.Goals as goal

pub returns : goal.returns
returns c = law.empty_if_same
