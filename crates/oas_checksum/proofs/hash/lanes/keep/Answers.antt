use Rattle.oas_checksum.proofs.ScheduleLemmas.{kept}
use Rattle.oas_checksum.proofs.hash.lanes.keep.Goals as goal

pub returns : goal.returns
returns c = λ b held is. kept b c.args.sums.now c.args.x c.args.at c.requires held is
