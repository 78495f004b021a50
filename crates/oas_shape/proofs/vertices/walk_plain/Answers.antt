use Rattle.std.proofs.Common.{refl}
use Rattle.oas_shape.specs.Steps.{still}
use Rattle.oas_shape.proofs.VertexLemmas.{walked_none, walked_past, plain_more}
use Rattle.oas_shape.proofs.vertices.walk_plain.Goals as goal

pub loop-delta-init : goal.loop-delta-init
loop-delta-init c = (still, rw (c.in_ok-push.ensures.items, c.in-Ok.ensures.items) (walked_none _ _ _ c.requires))

pub returns-in_default-point_after-clause-refused : goal.returns-in_default-point_after-clause-refused
returns-in_default-point_after-clause-refused c = walked_past c.loop-delta.invariant.1 _ _ c.loop-delta-test.true refl c.in_default-point_after.ensures

pub loop-delta-preserved : goal.loop-delta-preserved
loop-delta-preserved c = rw c.in_ok-push-2.ensures.items (plain_more c.loop-delta.invariant.1 _ _ c.loop-delta-test.true c.in-Some.ensures.0 c.in-Some.ensures.1)
