use Rattle.std.proofs.Common.{rules}
use Rattle.oas_trapezoids.proofs.corners.Corners.as_slice.Goals as goal

pub returns-in-Triangle : goal.returns-in-Triangle
returns-in-Triangle c = search rules
