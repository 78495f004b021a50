use Rattle.std.proofs.Common.{rules}
use Rattle.oas_elements.proofs.element.Element.weight.Goals as goal

pub returns-in-Polygon : goal.returns-in-Polygon
returns-in-Polygon c = search rules
