use Rattle.oas_trapezoids.proofs.LawLemmas.{vertices}
use Rattle.oas_trapezoids.proofs.laws.corners.Goals as goal

pub returns : goal.returns
returns c = vertices
