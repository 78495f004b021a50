use Rattle.std.proofs.Common.{rules}
use Rattle.oas_drawing.proofs.positions.moved.Goals as goal

pub returns-then-relative : goal.returns-then-relative
returns-then-relative c = search rules
