use Rattle.std.proofs.Common.{rules}
use Rattle.oas_narrow.proofs.roles.Role.obstacle.Goals as goal

pub returns-in-Extension : goal.returns-in-Extension
returns-in-Extension c = search rules

pub returns-in-Extension-2 : goal.returns-in-Extension-2
returns-in-Extension-2 c = search rules
