use Rattle.std.proofs.Common.{rules}
use Rattle.oas_trapezoids.proofs.sides.Sides.agree.Goals as goal

pub returns-then-is_none_or : goal.returns-then-is_none_or
returns-then-is_none_or c = search rules

pub returns-else-is_none_or : goal.returns-else-is_none_or
returns-else-is_none_or c = search rules
