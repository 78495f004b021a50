use Rattle.oas_peek.proofs.RectangleLemmas.{fields_take}
use Rattle.oas_peek.proofs.rectangles.take_fields.Goals as goal

pub returns : goal.returns
returns c = fields_take c.args.info c.in_ok-layer.ensures c.in_ok-width.ensures c.in_ok-height.ensures c.in_ok-spot.ensures.0 c.in_ok-spot.ensures.1
