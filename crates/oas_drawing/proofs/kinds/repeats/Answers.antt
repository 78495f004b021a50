use Rattle.std.proofs.Common.{rules}
use Rattle.oas_drawing.proofs.kinds.repeats.Goals as goal

pub returns-in-Path : goal.returns-in-Path
returns-in-Path c = search rules
