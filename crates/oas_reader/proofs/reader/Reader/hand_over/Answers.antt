use Rattle.std.proofs.Common.{rules}
use Rattle.oas_reader.proofs.reader.Reader.hand_over.Goals as goal

pub returns-clause-refused : goal.returns-clause-refused
returns-clause-refused g c = search rules
