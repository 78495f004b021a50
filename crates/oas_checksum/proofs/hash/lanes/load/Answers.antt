use Rattle.oas_checksum.proofs.LaneLemmas.{block_words}
use Rattle.oas_checksum.proofs.hash.lanes.load.Goals as goal

pub returns : goal.returns
returns c = block_words c.args.block.now c.args.at c.requires c.type_inv.block
