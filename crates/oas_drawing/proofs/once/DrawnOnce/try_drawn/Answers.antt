use Rattle.std.proofs.Common.{rules}
use Rattle.oas_drawing.proofs.once.DrawnOnce.try_drawn.Goals as goal

pub returns-in-Text : goal.returns-in-Text
returns-in-Text c = search rules
