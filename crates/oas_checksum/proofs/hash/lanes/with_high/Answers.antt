use Rattle.std.proofs.Common.{slice_index}
use Rattle.oas_checksum.proofs.LaneLemmas.{high_lanes, spread_first}
use Rattle.oas_checksum.proofs.hash.lanes.with_high.Goals as goal

pub returns : goal.returns
returns c =
    let sigma = c.small_sigma1-sigma in
    let low = c.args.low in
    let words = sigma.ensures.words (slice_index low 0) (slice_index low 1) (spread_first low c.fits-low.0) in
    high_lanes sigma.result sigma.ensures.lanes low c.fits-low.0 c.fits-low.1 words.0 words.1
