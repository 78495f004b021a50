use Rattle.std.proofs.Common.{rules}
use Rattle.oas_ring.proofs.least.compare_next.Goals as goal

pub returns-clause-order : goal.returns-clause-order
returns-clause-order g c = search rules
