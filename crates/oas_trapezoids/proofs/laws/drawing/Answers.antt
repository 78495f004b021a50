use Rattle.oas_trapezoids.proofs.DrawLemmas.{record_same}
use Rattle.oas_trapezoids.proofs.laws.drawing.Goals as goal

pub returns : goal.returns
returns c = λ s reader standard r a k h. record_same s reader standard a r k h
