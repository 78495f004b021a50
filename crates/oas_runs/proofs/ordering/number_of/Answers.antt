use Rattle.std.proofs.Common.{rules}
use Rattle.oas_runs.proofs.ordering.number_of.Goals as goal

pub returns-clause-number : goal.returns-clause-number
returns-clause-number c = search rules
