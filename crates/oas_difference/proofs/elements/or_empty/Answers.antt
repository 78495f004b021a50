use Rattle.std.proofs.Common.{List, ℕ, sym, subst}
use Rattle.oas_elements.specs.declared.element.Element.{Element}
use Rattle.oas_elements.specs.Bag.{IsTally}
use Rattle.oas_difference.proofs.Chosen.{empty_tally}
use Rattle.oas_difference.proofs.elements.or_empty.Goals as goal

pub returns-in-Some-None-clause-tally : goal.returns-in-Some-None-clause-tally
returns-in-Some-None-clause-tally c = subst (λ (es : List (Element × ℕ)). IsTally es) (sym c.none.ensures) empty_tally
