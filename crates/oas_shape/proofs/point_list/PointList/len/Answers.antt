use Rattle.std.proofs.Common.{ap, length}
use Rattle.oas_shape.proofs.VertexLemmas.{counted_by}
use Rattle.oas_shape.proofs.point_list.PointList.len.Goals as goal

pub returns-clause-number : goal.returns-clause-number
returns-clause-number c = λ at. counted_by _ _ at _ _ c.self.view_is (ap length c.as_slice-deltas.ensures.value) c.left_out.ensures
