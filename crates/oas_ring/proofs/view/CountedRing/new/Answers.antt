use Rattle.std.proofs.Common.{rules}
use Rattle.oas_ring.proofs.view.CountedRing.new.Goals as goal

pub returns-clause-steps : goal.returns-clause-steps
returns-clause-steps c = search rules
