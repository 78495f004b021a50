use Rattle.std.proofs.Common.{rules}
use Rattle.oas_shape.proofs.repetitions.grid_or_one.Goals as goal

pub returns-in-Some : goal.returns-in-Some
returns-in-Some c = search rules
