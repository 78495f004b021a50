use Rattle.oas_form.proofs.LargerLimits as law
use Rattle.oas_form.proofs.laws.larger_limits.Goals as goal

pub returns : goal.returns
returns c = law.larger_limits
