use Rattle.oas_shape.proofs.RangeLemmas.{answers_whole}
use Rattle.oas_shape.proofs.point_list.PointList.is_in_range.Goals as goal

pub returns-then-self : goal.returns-then-self
returns-then-self c = answers_whole c.args.self.now _ c.args.at _ _ _ c.self.view_is c.as_slice-deltas.ensures.value c.if-self.true c.requires c.stays_displaced.ensures

pub returns-else-self : goal.returns-else-self
returns-else-self c = answers_whole c.args.self.now _ c.args.at _ _ _ c.self.view_is c.as_slice-deltas.ensures.value c.if-self.false c.requires c.stays_plain.ensures
