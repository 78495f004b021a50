use Rattle.oas_elements.specs.Laws.BagLaws.{adding}
use Rattle.oas_elements.proofs.laws.adding_counts.Goals as goal

pub returns : goal.returns
returns c = adding
