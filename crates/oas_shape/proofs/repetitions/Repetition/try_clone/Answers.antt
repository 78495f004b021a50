use Rattle.std.proofs.Common.{rules}
use Rattle.oas_shape.proofs.repetitions.Repetition.try_clone.Goals as goal

pub returns-clause-equal : goal.returns-clause-equal
returns-clause-equal c = search rules
