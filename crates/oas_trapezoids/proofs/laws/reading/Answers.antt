use Rattle.oas_trapezoids.proofs.ReadLemmas.{record_read}
use Rattle.oas_trapezoids.proofs.laws.reading.Goals as goal

pub returns : goal.returns
returns c = λ s reader standard r a k. record_read s reader standard a r k
