use Rattle.std.proofs.Common.{rules}
use Rattle.oas_ring.proofs.points.Points.new.Goals as goal

pub returns : goal.returns
returns c = search rules
