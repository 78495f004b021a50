use Rattle.oas_form.proofs.OneLayout.{one_layout}
use Rattle.oas_form.proofs.OrderedLayouts as law
use Rattle.oas_form.proofs.laws.equal_in_order.Goals as goal

pub returns : goal.returns
returns c = record { ordered = law.layout_in_order; equal = law.equal_in_order; read = one_layout }
