use Rattle.std.proofs.Common.{ap, ◌∙◌, subst}
use Rattle.oas_elements.specs.Sound.{IsSound}
use Rattle.oas_cells.specs.Keys.{key_of}
use Rattle.oas_layout.specs.Laws.HeldLaws.{key_sound, key_is}
use Rattle.oas_layout.proofs.element.KeyedElement.key.Goals as goal

pub returns-clause-key : goal.returns-clause-key
returns-clause-key c = key_is c.self.inside.held ∙ ap key_of c.self.view_is

pub returns-clause-sound : goal.returns-clause-sound
returns-clause-sound c = subst IsSound c.self.view_is (key_sound c.self.inside.held)
