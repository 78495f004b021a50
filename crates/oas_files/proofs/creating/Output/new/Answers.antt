use Rattle.std.proofs.Common.{rules}
use Rattle.oas_files.proofs.creating.Output.new.Goals as goal

pub returns-in-Some : goal.returns-in-Some
returns-in-Some c = search rules
