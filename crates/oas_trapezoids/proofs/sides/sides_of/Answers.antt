use Rattle.std.proofs.Common.{rules}
use Rattle.oas_trapezoids.proofs.sides.sides_of.Goals as goal

pub returns-in_ok-width-in-16-to-19 : goal.returns-in_ok-width-in-16-to-19
returns-in_ok-width-in-16-to-19 c = search rules
