use Rattle.std.proofs.Common.{rules}
use Rattle.oas_drawing.proofs.modal.named.weight_placed.Goals as goal

pub returns-in-Name : goal.returns-in-Name
returns-in-Name c = search rules
