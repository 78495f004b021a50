use Rattle.oas_trapezoids.proofs.ReasonLemmas.{handed_reason}
use Rattle.oas_trapezoids.proofs.laws.reasons.Goals as goal

pub returns : goal.returns
returns c = handed_reason
