use Rattle.oas_trapezoids.specs.declared.corners.Corner.{Corner}
use Rattle.oas_trapezoids.proofs.StepLemmas.{next_near, stepped_more, stepped_all, stepped_none}
use Rattle.oas_trapezoids.proofs.shapes.steps_after.Goals as goal

-- what is read past the end
abbrev origin : Corner
origin = record { x = 0; y = 0 }

pub loop-corner-init : goal.loop-corner-init
loop-corner-init c = rw c.in_ok-steps.ensures.items (stepped_none c.args.place c.args.first c.args.corners.now c.requires.near c.requires.grid)

pub point_of-next-requires : goal.point_of-next-requires
point_of-next-requires c = next_near c.loop-corner.invariant origin c.loop-corner-test.true

pub loop-corner-preserved : goal.loop-corner-preserved
loop-corner-preserved c =
    rw (c.in_ok-push.ensures.items, c.step_to.ensures)
    (stepped_more c.loop-corner.invariant origin c.point_of-next.result c.loop-corner-test.true c.point_of-next.ensures.value c.point_of-next.ensures.near)

pub returns : goal.returns
returns c = stepped_all c.loop-corner.invariant c.loop-corner-test.false
