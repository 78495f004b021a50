use Rattle.std.proofs.Common.{rules}
use Rattle.oas_command.proofs.unopened.name_of.Goals as goal

pub returns : goal.returns
returns c = search rules
