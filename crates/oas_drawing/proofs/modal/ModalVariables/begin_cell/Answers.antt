use Rattle.std.proofs.Common.{rules}
use Rattle.oas_drawing.proofs.modal.ModalVariables.begin_cell.Goals as goal

pub returns : goal.returns
returns c = search rules
