use Rattle.oas_layout.specs.Laws.HeldLaws.{cells_are}
use Rattle.oas_layout.proofs.cells.Cells.of.Goals as goal

pub returns : goal.returns
returns c cs sound is = cells_are _ cs sound is
