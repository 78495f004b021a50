use Rattle.std.proofs.Common.{rules}
use Rattle.oas_command.proofs.runs.rekey.conclude_rekeying.Goals as goal

pub returns-in-Ok-NotProfile1-clause-ends : goal.returns-in-Ok-NotProfile1-clause-ends
returns-in-Ok-NotProfile1-clause-ends g c = search rules

pub returns-in-Err-clause-answers : goal.returns-in-Err-clause-answers
returns-in-Err-clause-answers g c = search rules

pub returns-in-Err-clause-ends : goal.returns-in-Err-clause-ends
returns-in-Err-clause-ends g c = search rules
