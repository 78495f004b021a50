use Rattle.std.proofs.Common.{rules}
use Rattle.oas_num.proofs.fractions.Fraction.num.Goals as goal

pub returns-clause-value : goal.returns-clause-value
returns-clause-value c = search rules
