use Rattle.oas_prepare.proofs.WideMeanings as law
use Rattle.oas_prepare.proofs.laws.one_wide_meaning.Goals as goal

pub returns : goal.returns
returns c = law.one_wide_meaning
