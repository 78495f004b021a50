use Rattle.oas_checksum.proofs.LaneLemmas.{sigma1_lanes}
use Rattle.oas_checksum.proofs.hash.lanes.small_sigma1.Goals as goal

pub returns-clause-words : goal.returns-clause-words
returns-clause-words c = λ a b e.
    sigma1_lanes c.args.x c.paired-y.result c.parted.result a b e c.fits-x.1 c.paired-y.ensures c.parted.ensures
