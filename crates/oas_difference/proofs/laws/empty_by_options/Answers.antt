use Rattle.oas_difference.proofs.EmptyOptions as law
use Rattle.oas_difference.proofs.laws.empty_by_options.Goals as goal

pub returns : goal.returns
returns c = law.empty_by_options
