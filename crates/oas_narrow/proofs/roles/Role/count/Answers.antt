use Rattle.std.proofs.Common.{rules}
use Rattle.oas_narrow.proofs.roles.Role.count.Goals as goal

pub returns-in-Extra : goal.returns-in-Extra
returns-in-Extra c = search rules
