use Rattle.std.proofs.Common.{rules}
use Rattle.oas_reader.proofs.reader.Reader.new.Goals as goal

pub returns-clause-profile : goal.returns-clause-profile
returns-clause-profile g c = search rules
