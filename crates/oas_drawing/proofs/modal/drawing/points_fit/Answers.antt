use Rattle.std.proofs.Common.{◌≡◌, subst}
use Rattle.std.specs.List.{list_all}
use Rattle.oas_ring.specs.declared.point.Point.{Point}
use Rattle.oas_shape.specs.Polylines.{vertices_of}
use Rattle.oas_elements.specs.Grid.{is_grid_point}
use Rattle.oas_drawing.proofs.Grids.{answered}
use Rattle.oas_drawing.proofs.modal.drawing.points_fit.Goals as goal

pub returns-in-Ok : goal.returns-in-Ok
returns-in-Ok c =
    subst (λ (p : Point). list_all is_grid_point (vertices_of c.args.points.now p) ≡ c.is_in_range.result) c.in-Ok.ensures.ok.0
    (answered c.is_in_range.result (vertices_of c.args.points.now c.in-Ok.at) c.is_in_range.ensures)
