use Rattle.std.proofs.Common.{rules}
use Rattle.oas_ring.proofs.points.PointsOrd.cmp.Goals as goal

pub returns : goal.returns
returns c = search rules
