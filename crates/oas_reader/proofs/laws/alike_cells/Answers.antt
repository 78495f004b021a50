use Rattle.oas_reader.proofs.Alike.{alike_meanings}
use Rattle.oas_reader.proofs.laws.alike_cells.Goals as goal

pub returns : goal.returns
returns c = alike_meanings
