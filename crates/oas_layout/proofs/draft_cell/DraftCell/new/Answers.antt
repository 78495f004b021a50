use Rattle.oas_layout.proofs.HeldLemmas.{none_there}
use Rattle.oas_layout.proofs.draft_cell.DraftCell.new.Goals as goal

pub returns : goal.returns
returns c = none_there _ c.new.ensures
