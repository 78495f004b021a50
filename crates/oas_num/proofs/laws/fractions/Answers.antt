use Rattle.oas_num.specs.Laws.RatioLaws.{one_lowest}
use Rattle.oas_num.proofs.laws.fractions.Goals as goal

pub returns : goal.returns
returns c = one_lowest
