use Rattle.std.proofs.Common.{rules}
use Rattle.oas_trapezoids.proofs.resolver.Resolver.pass_over.Goals as goal

pub returns-then-is_none-clause-refused : goal.returns-then-is_none-clause-refused
returns-then-is_none-clause-refused c = search rules

pub returns-then-not-is_on_grid-clause-refused : goal.returns-then-not-is_on_grid-clause-refused
returns-then-not-is_on_grid-clause-refused c = search rules

pub returns-clause-passed : goal.returns-clause-passed
returns-clause-passed c = search rules

pub returns-clause-kept : goal.returns-clause-kept
returns-clause-kept c = search rules
