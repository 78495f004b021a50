use Rattle.std.proofs.Common.{rules}
use Rattle.oas_runs.proofs.block.Block.first.Goals as goal

pub returns-clause-some : goal.returns-clause-some
returns-clause-some c = search rules
