use Rattle.oas_layout.specs.Laws.HeldLaws.{element_is}
use Rattle.oas_layout.proofs.element.KeyedElement.of.Goals as goal

pub returns : goal.returns
returns c e sound is = element_is _ e sound is
