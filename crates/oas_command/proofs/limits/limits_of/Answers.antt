use Rattle.std.proofs.Common.{rules}
use Rattle.oas_command.proofs.limits.limits_of.Goals as goal

pub returns-then-is_large-clause-large : goal.returns-then-is_large-clause-large
returns-then-is_large-clause-large c = search rules
