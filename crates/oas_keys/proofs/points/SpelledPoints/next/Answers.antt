use Rattle.std.proofs.Common.{rules}
use Rattle.oas_keys.proofs.points.SpelledPoints.next.Goals as goal

pub returns-clause-next : goal.returns-clause-next
returns-clause-next c = search rules
