use Rattle.std.proofs.Common.{subst}
use Rattle.oas_elements.specs.Contents.{AllSound}
use Rattle.oas_layout.specs.Laws.HeldLaws.{held_sound}
use Rattle.oas_layout.proofs.DraftCellLemmas.{closed}
use Rattle.oas_layout.proofs.draft_cell.DraftCell.close.Goals as goal

pub returns-clause-keys : goal.returns-clause-keys
returns-clause-keys c = closed c.self.inside.held c.close.result c.args.self c.close.ensures.same c.self.view_is

pub returns-clause-sound : goal.returns-clause-sound
returns-clause-sound c = subst AllSound c.self.view_is (held_sound c.self.inside.held)
