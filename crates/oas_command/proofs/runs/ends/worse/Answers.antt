use Rattle.std.proofs.Common.{rules}
use Rattle.oas_command.proofs.runs.ends.worse.Goals as goal

pub returns-then-b-eq-NO-clause-refused : goal.returns-then-b-eq-NO-clause-refused
returns-then-b-eq-NO-clause-refused c = search rules

pub returns-else-b-eq-NO-clause-refused : goal.returns-else-b-eq-NO-clause-refused
returns-else-b-eq-NO-clause-refused c = search rules
