use Rattle.std.proofs.Common.{rules}
use Rattle.oas_ring.proofs.view.CountedRingRingView.len.Goals as goal

pub returns : goal.returns
returns c = search rules
