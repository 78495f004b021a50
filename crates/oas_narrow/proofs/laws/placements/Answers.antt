use Rattle.oas_narrow.proofs.KeptLemmas as law
use Rattle.oas_narrow.proofs.TurningLaws.{one_exactly, multiple_exactly, turned_as}
use Rattle.oas_narrow.proofs.laws.placements.Goals as goal

pub returns : goal.returns
returns c = record { kept = law.kept; one = one_exactly; multiple = multiple_exactly; turned = turned_as }
