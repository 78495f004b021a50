use Rattle.oas_shape.proofs.VertexLemmas.{walked_none, walked_more, walked_past}
use Rattle.oas_shape.proofs.vertices.walk_displaced.Goals as goal

pub loop-delta-init : goal.loop-delta-init
loop-delta-init c = rw (c.in_ok-push.ensures.items, c.in-Ok.ensures.items) (walked_none _ _ _ c.requires)

pub returns-in_default-point_from-clause-refused : goal.returns-in_default-point_from-clause-refused
returns-in_default-point_from-clause-refused c = walked_past c.loop-delta.invariant _ _ c.loop-delta-test.true c.next_displacement-by.ensures.value c.in_default-point_from.ensures

pub loop-delta-preserved : goal.loop-delta-preserved
loop-delta-preserved c = rw c.in_ok-push-2.ensures.items (walked_more c.loop-delta.invariant _ _ _ c.loop-delta-test.true c.next_displacement-by.ensures.value c.in-Some.ensures.0 c.in-Some.ensures.1)
