use Rattle.std.proofs.Common.{rules}
use Rattle.oas_runs.proofs.block.Block.left.Goals as goal

pub returns-clause-is : goal.returns-clause-is
returns-clause-is c = search rules

pub returns-clause-block : goal.returns-clause-block
returns-clause-block c = search rules
