use Rattle.std.proofs.Common.{rules}
use Rattle.oas_command.proofs.unopened.unopened.Goals as goal

pub returns-clause-status : goal.returns-clause-status
returns-clause-status g c = search rules
