use Rattle.oas_elements.specs.Laws.ElementLaws.{order_is_stated, element_total, exact_elements, derived_eq-Decides, same_turns}
use Rattle.oas_elements.proofs.laws.element_order.Goals as goal

pub returns : goal.returns
returns c = record { stated = order_is_stated; total = element_total; exact = exact_elements; equal = derived_eq-Decides; turns = same_turns }
