use Rattle.std.proofs.Common.{rules}
use Rattle.oas_shape.proofs.repetitions.Repetition.count.Goals as goal

pub returns-in-Columns : goal.returns-in-Columns
returns-in-Columns c = search rules
