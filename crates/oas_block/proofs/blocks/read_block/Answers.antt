use Rattle.oas_block.proofs.BlockLemmas.{no_bytes}
use Rattle.oas_block.proofs.blocks.read_block.Goals as goal

pub returns-then-head-eq0 : goal.returns-then-head-eq0
returns-then-head-eq0 g c = no_bytes c.args.head _ _ c.if-head-ne0.false c.if-head-eq0.true c.new.ensures
