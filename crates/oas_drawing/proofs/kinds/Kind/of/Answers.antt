use Rattle.std.proofs.Common.{rules}
use Rattle.oas_drawing.proofs.kinds.Kind.of.Goals as goal

pub returns-in-Polygon : goal.returns-in-Polygon
returns-in-Polygon c = search rules
