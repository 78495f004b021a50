use Rattle.oas_drawing.specs.Turns.{turned}
use Rattle.oas_drawing.proofs.modal.ModalVariables.tally_by.Goals as goal

pub returns-in-Placement-clause-err : goal.returns-in-Placement-clause-err
returns-in-Placement-clause-err c = rw c.in-Placement.is (c.placement_tally.ensures.err (turned c.in-Placement.turn) c.in-Placement.flip)
