use Rattle.oas_elements.proofs.LawProofs.{equal}
use Rattle.oas_elements.proofs.laws.equal_counts.Goals as goal

pub returns : goal.returns
returns c = equal
