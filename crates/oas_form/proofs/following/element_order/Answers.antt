use Rattle.std.proofs.Common.{◌∙◌}
use Rattle.oas_elements.specs.Laws.ElementLaws.{order_is_stated}
use Rattle.oas_form.proofs.following.element_order.Goals as goal

pub returns-in_default : goal.returns-in_default
returns-in_default c = c.cmp-in_default.ensures ∙ order_is_stated c.args.last.now c.args.next.now
