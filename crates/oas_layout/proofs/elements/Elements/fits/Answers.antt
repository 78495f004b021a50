use Rattle.std.proofs.Common.{subst}
use Rattle.oas_elements.specs.Contents.{AllSound}
use Rattle.oas_layout.specs.Held.{AreLight}
use Rattle.oas_layout.specs.Laws.HeldLaws.{held_sound}
use Rattle.oas_layout.proofs.elements.Elements.fits.Goals as goal

pub returns-clause-sound : goal.returns-clause-sound
returns-clause-sound c = subst AllSound c.self.view_is (held_sound c.self.inside.held)

pub returns-clause-light : goal.returns-clause-light
returns-clause-light c = subst AreLight c.self.view_is c.self.invariant
