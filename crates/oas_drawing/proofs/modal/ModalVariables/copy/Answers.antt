use Rattle.std.proofs.Common.{rules, arith}
use Rattle.std.proofs.lemmas.Grind.{common_steps}
use Rattle.oas_drawing.proofs.modal.ModalVariables.copy.Goals as goal

pub returns-in_err-drawn-clause-err : goal.returns-in_err-drawn-clause-err
returns-in_err-drawn-clause-err c = search rules

pub returns-then-fits-clause-ok : goal.returns-then-fits-clause-ok
returns-then-fits-clause-ok c = grind (arith, common_steps)

pub returns-then-fits-clause-fits : goal.returns-then-fits-clause-fits
returns-then-fits-clause-fits c = search rules

pub returns-else-fits-clause-err : goal.returns-else-fits-clause-err
returns-else-fits-clause-err c = search rules
