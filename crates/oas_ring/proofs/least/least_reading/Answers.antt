use Rattle.std.proofs.Common.{rules}
use Rattle.oas_ring.proofs.least.least_reading.Goals as goal

pub returns-in-None-clause-least : goal.returns-in-None-clause-least
returns-in-None-clause-least c = search rules
