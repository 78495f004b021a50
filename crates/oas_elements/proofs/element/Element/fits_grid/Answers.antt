use Rattle.std.proofs.Common.{rules}
use Rattle.oas_elements.proofs.element.Element.fits_grid.Goals as goal

pub returns-else-is_coordinate-2 : goal.returns-else-is_coordinate-2
returns-else-is_coordinate-2 c = search rules
