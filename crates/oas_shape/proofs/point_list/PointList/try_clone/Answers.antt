use Rattle.std.proofs.Common.{rules}
use Rattle.oas_shape.proofs.point_list.PointList.try_clone.Goals as goal

pub returns : goal.returns
returns c = search rules
