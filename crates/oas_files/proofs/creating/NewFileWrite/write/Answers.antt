use Rattle.std.proofs.Common.{rules}
use Rattle.oas_files.proofs.creating.NewFileWrite.write.Goals as goal

pub returns-in-None-clause-nothing : goal.returns-in-None-clause-nothing
returns-in-None-clause-nothing c = search rules
