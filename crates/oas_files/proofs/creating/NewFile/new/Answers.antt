use Rattle.std.proofs.Common.{rules}
use Rattle.oas_files.proofs.creating.NewFile.new.Goals as goal

pub returns-clause-uncreated : goal.returns-clause-uncreated
returns-clause-uncreated c = search rules
