use Rattle.oas_checksum.proofs.LaneLemmas.{sigma0_lanes}
use Rattle.oas_checksum.proofs.hash.lanes.small_sigma0.Goals as goal

pub returns : goal.returns
returns c = sigma0_lanes c.args.x c.fits-x.0
