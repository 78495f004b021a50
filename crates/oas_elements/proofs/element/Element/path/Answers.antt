use Rattle.std.proofs.Common.{rules}
use Rattle.oas_elements.proofs.element.Element.path.Goals as goal

pub returns : goal.returns
returns c = search rules
