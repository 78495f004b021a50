use Rattle.std.proofs.Common.{rules}
use Rattle.oas_drawing.proofs.modal.ModalVariables.draw_polygon.Goals as goal

pub returns : goal.returns
returns c = search rules
