use Rattle.oas_drawing.proofs.Steps.{modal_last}
use Rattle.oas_drawing.proofs.laws.one_more_record.Goals as goal

pub returns : goal.returns
returns c = modal_last
