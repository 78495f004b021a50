use Rattle.std.proofs.Common.{List, length}
use Rattle.oas_ring.specs.declared.point.Point.{Point}
use Rattle.oas_listing.specs.Steps.{HasSteps}
use Rattle.oas_writing.proofs.PointLemmas.{StepsLeft}
use Rattle.oas_writing.proofs.points.put_steps.Given as goal

abbrev pub invariant-loop-dx : goal.invariant-loop-dx
invariant-loop-dx g l = (first : Point) (all : List Point) → HasSteps l.fn.steps first all → StepsLeft g.K.Sink.given g.K.Sink.failures first all l.steps l.fn.sink l.sink l.count

abbrev pub decreases-loop-dx : goal.decreases-loop-dx
decreases-loop-dx g l = length l.steps.left
