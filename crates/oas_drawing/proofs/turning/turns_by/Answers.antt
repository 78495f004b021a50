use Rattle.std.proofs.Common.{rules}
use Rattle.oas_drawing.proofs.turning.turns_by.Goals as goal

pub returns-then-clockwise : goal.returns-then-clockwise
returns-then-clockwise c = search rules

pub returns-else-clockwise : goal.returns-else-clockwise
returns-else-clockwise c = search rules
