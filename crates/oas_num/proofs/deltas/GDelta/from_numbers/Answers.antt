use Rattle.std.proofs.Common.{rules}
use Rattle.oas_num.proofs.deltas.GDelta.from_numbers.Goals as goal

pub returns-in-Some : goal.returns-in-Some
returns-in-Some c = search rules
