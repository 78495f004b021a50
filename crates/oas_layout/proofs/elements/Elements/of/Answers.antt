use Rattle.oas_layout.specs.Laws.HeldLaws.{held_is}
use Rattle.oas_layout.proofs.elements.Elements.of.Goals as goal

pub returns : goal.returns
returns c es sound is = held_is _ es sound is
