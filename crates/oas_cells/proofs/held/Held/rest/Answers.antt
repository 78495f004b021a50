use Rattle.std.proofs.Common.{rules}
use Rattle.oas_cells.proofs.held.Held.rest.Goals as goal

pub returns-in-Some-clause-keys : goal.returns-in-Some-clause-keys
returns-in-Some-clause-keys c = search rules

pub returns-in-Some-clause-waiting : goal.returns-in-Some-clause-waiting
returns-in-Some-clause-waiting c = search rules
