use Rattle.std.proofs.Common.{rules}
use Rattle.oas_ring.proofs.view.CountedRingRingView.compare.Goals as goal

pub returns-clause-order : goal.returns-clause-order
returns-clause-order c = search rules

pub returns-clause-step : goal.returns-clause-step
returns-clause-step c = search rules
