use Rattle.std.proofs.Common.{rules}
use Rattle.oas_trapezoids.proofs.resolver.Resolver.new.Goals as goal

pub returns : goal.returns
returns c = search rules
