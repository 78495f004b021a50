use Rattle.std.proofs.Common.{rules}
use Rattle.oas_narrow.proofs.turning.with_turns.Goals as goal

pub returns-in-Placement : goal.returns-in-Placement
returns-in-Placement c = search rules
