use Rattle.std.proofs.Common.{rules}
use Rattle.oas_files.proofs.replacing.ReplacementWrite.write.Goals as goal

pub returns-else-is_err-clause-gone : goal.returns-else-is_err-clause-gone
returns-else-is_err-clause-gone c = search rules
