use Rattle.oas_ring.specs.Laws.ReadingsLaws.{same_exactly_if_least}
use Rattle.oas_ring.proofs.laws.same_exactly.Goals as goal

pub returns : goal.returns
returns c = same_exactly_if_least
