use Rattle.std.proofs.Common.{rules}
use Rattle.oas_command.proofs.runs.rekey.rekey_telling.Goals as goal

pub returns : goal.returns
returns g c = search rules
