use Rattle.std.proofs.Common.{rules}
use Rattle.oas_reader.proofs.meant.cell_meant.Goals as goal

pub returns-in-Name : goal.returns-in-Name
returns-in-Name c = search rules
