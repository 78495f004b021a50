use Rattle.std.proofs.Common.{subst}
use Rattle.oas_cells.specs.Steps.{BeginsSteps}
use Rattle.oas_layout.specs.Held.{points_held}
use Rattle.oas_layout.specs.Laws.PointsLaws.{has_them}
use Rattle.oas_layout.proofs.points.ShownPoints.first_and_steps.Goals as goal

pub returns : goal.returns
returns c = let h = c.self.inside.some in subst (BeginsSteps c.first_and_steps.result) c.self.view_is (c.first_and_steps.ensures (points_held h) (has_them h))
