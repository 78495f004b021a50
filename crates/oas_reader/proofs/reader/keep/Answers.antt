use Rattle.std.proofs.Common.{rules}
use Rattle.oas_reader.proofs.reader.keep.Goals as goal

pub returns-clause-kept : goal.returns-clause-kept
returns-clause-kept c = search rules
