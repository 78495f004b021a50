use Rattle.std.proofs.Common.{rules}
use Rattle.oas_shape.proofs.point_list.Closing.of.Goals as goal

pub returns-in-Polygon-eq1 : goal.returns-in-Polygon-eq1
returns-in-Polygon-eq1 c = search rules
