use Rattle.std.proofs.Common.{rules}
use Rattle.oas_num.proofs.refusals.Why.number.Goals as goal

pub returns-in-Magic : goal.returns-in-Magic
returns-in-Magic c = search rules
