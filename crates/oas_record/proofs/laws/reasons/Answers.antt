use Rattle.oas_record.proofs.ReasonLemmas.{first_other, id_reason, circle_reason}
use Rattle.oas_record.proofs.laws.reasons.Goals as goal

pub returns : goal.returns
returns c = record { first = first_other; ids = id_reason; circles = circle_reason }
