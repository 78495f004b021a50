use Rattle.std.proofs.Common.{rules}
use Rattle.oas_command.proofs.runs.canon.canon_telling.Goals as goal

pub returns : goal.returns
returns g c = search rules
