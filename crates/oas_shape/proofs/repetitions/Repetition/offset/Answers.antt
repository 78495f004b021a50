use Rattle.std.proofs.Common.{rules}
use Rattle.oas_shape.proofs.repetitions.Repetition.offset.Goals as goal

pub returns-in-Columns-clause-place : goal.returns-in-Columns-clause-place
returns-in-Columns-clause-place c = search rules
