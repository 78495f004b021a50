use Rattle.std.proofs.Common.{◌∙◌, ap, length}
use Rattle.oas_layout.specs.Held.{points_held}
use Rattle.oas_layout.specs.Laws.PointsLaws.{has_them}
use Rattle.oas_layout.proofs.points.ShownPoints.len.Goals as goal

pub returns : goal.returns
returns c = let h = c.self.inside.some in c.count.ensures (points_held h) (has_them h) ∙ ap length c.self.view_is
