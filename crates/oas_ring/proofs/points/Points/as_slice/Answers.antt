use Rattle.std.proofs.Common.{rules}
use Rattle.oas_ring.proofs.points.Points.as_slice.Goals as goal

pub returns : goal.returns
returns c = search rules
