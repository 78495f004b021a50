use Rattle.std.proofs.Common.{rules}
use Rattle.oas_files.proofs.replacing.Replacement.new.Goals as goal

pub returns : goal.returns
returns c = search rules
