use Rattle.std.proofs.Common.{rules}
use Rattle.oas_standard.proofs.reasons.WideWhy.number.Goals as goal

pub returns-in-Trapezoid : goal.returns-in-Trapezoid
returns-in-Trapezoid c = search rules
