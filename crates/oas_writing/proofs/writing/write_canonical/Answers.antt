use Rattle.std.proofs.Common.{rules}
use Rattle.oas_writing.proofs.writing.write_canonical.Goals as goal

pub returns-clause-written : goal.returns-clause-written
returns-clause-written g c = search rules

pub returns-clause-refused : goal.returns-clause-refused
returns-clause-refused g c = search rules
