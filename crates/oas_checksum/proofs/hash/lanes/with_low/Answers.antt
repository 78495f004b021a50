use Rattle.std.proofs.Common.{slice_index}
use Rattle.oas_checksum.proofs.LaneLemmas.{low_lanes, spread_last}
use Rattle.oas_checksum.proofs.hash.lanes.with_low.Goals as goal

pub returns : goal.returns
returns c =
    let sigma = c.small_sigma1-sigma in
    let d = c.args.d in
    let words = sigma.ensures.words (slice_index d 2) (slice_index d 3) (spread_last d c.fits-d.0) in
    low_lanes d sigma.result sigma.ensures.lanes words.0 words.1 c.args.known c.fits-known.0 c.fits-known.1
