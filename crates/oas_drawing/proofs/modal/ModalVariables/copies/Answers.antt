use Rattle.std.proofs.Common.{rules}
use Rattle.oas_drawing.proofs.modal.ModalVariables.copies.Goals as goal

pub returns-then-is_none-clause-err : goal.returns-then-is_none-clause-err
returns-then-is_none-clause-err c = search rules
