use Rattle.std.proofs.Common.{refl}
use Rattle.oas_trapezoids.proofs.laws.cells.Goals as goal

pub returns : goal.returns
returns c = λ s cell. (refl, refl)
