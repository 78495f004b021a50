use Rattle.std.proofs.Common.{rules}
use Rattle.oas_block.proofs.blocks.finish.Goals as goal

pub returns : goal.returns
returns g c = search rules
