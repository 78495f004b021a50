use Rattle.oas_layout.specs.Laws.PointsLaws.{points_is}
use Rattle.oas_layout.proofs.points.ShownPoints.of.Goals as goal

pub returns : goal.returns
returns c ps h = points_is _ ps h
