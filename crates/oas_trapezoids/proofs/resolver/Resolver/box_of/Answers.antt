use Rattle.std.proofs.Common.{rules}
use Rattle.oas_trapezoids.proofs.resolver.Resolver.box_of.Goals as goal

pub returns-clause-ok : goal.returns-clause-ok
returns-clause-ok c = search rules
