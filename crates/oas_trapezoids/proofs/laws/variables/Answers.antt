use Rattle.oas_trapezoids.proofs.ModalLemmas.{record_kept}
use Rattle.oas_trapezoids.proofs.laws.variables.Goals as goal

pub returns : goal.returns
returns c = λ s m r k near. record_kept s m k r near
