use Rattle.std.proofs.Common.{rules}
use Rattle.oas_preparing.proofs.lines.put_rejection.Goals as goal

pub returns-in-File : goal.returns-in-File
returns-in-File g c = search rules
