use Rattle.std.proofs.Common.{rules}
use Rattle.oas_prepare.proofs.signing.came_whole.Goals as goal

pub returns-in-Checksum32-clause-right : goal.returns-in-Checksum32-clause-right
returns-in-Checksum32-clause-right c = search rules

pub returns-in-Checksum32-clause-wrong : goal.returns-in-Checksum32-clause-wrong
returns-in-Checksum32-clause-wrong c = search rules
