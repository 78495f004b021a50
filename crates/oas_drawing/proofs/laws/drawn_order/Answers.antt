use Rattle.oas_drawing.specs.Laws.DrawnLaws.{order_is_stated_of, drawn_total, exact_drawn}
use Rattle.oas_drawing.proofs.laws.drawn_order.Goals as goal

pub returns : goal.returns
returns c = record { stated = order_is_stated_of; total = drawn_total; exact = exact_drawn }
