use Rattle.std.proofs.Common.{rules}
use Rattle.oas_runs.proofs.growing.Growing.fit.Goals as goal

pub returns : goal.returns
returns c = search rules
