use Rattle.std.proofs.Common.{rules}
use Rattle.oas_ring.proofs.points.PointsPartialEq.eq.Goals as goal

pub returns : goal.returns
returns c = search rules
