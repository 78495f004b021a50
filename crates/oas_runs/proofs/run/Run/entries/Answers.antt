use Rattle.std.proofs.Common.{rules}
use Rattle.oas_runs.proofs.run.Run.entries.Goals as goal

pub returns : goal.returns
returns c = search rules
