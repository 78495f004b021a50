use Rattle.std.proofs.Common.{rules}
use Rattle.oas_reader.proofs.used.Counts.new.Goals as goal

pub returns : goal.returns
returns c = search rules
