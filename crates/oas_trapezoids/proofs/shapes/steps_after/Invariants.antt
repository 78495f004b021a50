use Rattle.oas_trapezoids.proofs.StepLemmas.{Stepped}
use Rattle.oas_trapezoids.proofs.shapes.steps_after.Given as goal

abbrev pub invariant-loop-corner : goal.invariant-loop-corner
invariant-loop-corner l = Stepped l.place l.fn.first l.corners l.steps.items l.last l.corner-index
