use Rattle.oas_num.proofs.ReadLemmas.{Consumed-nothing}
use Rattle.oas_block.proofs.fronts.PrefixSourceSource.skip.Goals as goal

pub returns : goal.returns
returns g c = Consumed-nothing _ _ c.requires
