use Rattle.std.proofs.Common.{refl, [], ◌∷◌}
use Rattle.oas_shape.specs.Steps.{still}
use Rattle.oas_shape.proofs.VertexLemmas.{walked_none}
use Rattle.oas_shape.proofs.RangeLemmas.{stays_more, stays_past, stays_all}
use Rattle.oas_shape.proofs.in_range.stays_plain.Goals as goal

pub loop-delta-init : goal.loop-delta-init
loop-delta-init c = (still, (c.args.at ∷ [], walked_none _ _ _ c.requires))

pub returns-in_default : goal.returns-in_default
returns-in_default c = stays_past c.loop-delta.invariant.1 _ _ c.loop-delta-test.true refl c.in_default.ensures

pub returns : goal.returns
returns c = stays_all c.loop-delta.invariant.1 c.loop-delta-test.false

pub loop-delta-preserved : goal.loop-delta-preserved
loop-delta-preserved c = (_, stays_more c.loop-delta.invariant.1 _ _ _ c.loop-delta-test.true refl c.in-Some.ensures.0 c.in-Some.ensures.1)
