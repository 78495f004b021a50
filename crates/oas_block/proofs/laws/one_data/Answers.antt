use Rattle.oas_block.proofs.OneLemmas.{one_block}
use Rattle.oas_block.proofs.laws.one_data.Goals as goal

pub returns : goal.returns
returns c = one_block
