-- The records for the corners of a box. s are the variables after the record that has them.
use Rattle.std.specs.Prelude.{◌-ℤ◌, pos, Bool, false, if◌then◌else◌, List, [], ◌∷◌, map, Option, Some, Result, Ok, Err}
use Rattle.std.specs.Cmp.Lexicographic.{pointwise}
use Rattle.std.specs.List.{list_all}
use Rattle.oas_num.specs.declared.deltas.GDelta.{GDelta}
use Rattle.oas_num.specs.declared.refusals.Why.TheVariants.{CoordinateRange}
use Rattle.oas_num.specs.Deltas.{step}
use Rattle.oas_ring.specs.declared.point.Point.{Point}
use Rattle.oas_shape.specs.declared.repetitions.RepField.{RepField}
use Rattle.oas_shape.specs.PointLists.{plain_line}
use Rattle.oas_record.specs.declared.polygons.Polygon.{Polygon}
use Rattle.oas_record.specs.declared.rectangles.Rectangle.{Rectangle}
use Rattle.oas_record.specs.declared.records.Record.{Record}
use Rattle.oas_record.specs.declared.records.Record.TheVariants as record_of
use Rattle.oas_elements.specs.Grid.{is_grid_point}
use Rattle.oas_trapezoids.specs.declared.corners.Corner.{Corner}
use Rattle.oas_trapezoids.specs.declared.sides.Sides.{Sides}
use Rattle.oas_trapezoids.specs.Corners.{corner, is_same}
use Rattle.oas_standard.specs.declared.reasons.WideWhy.{WideWhy}
use Rattle.oas_standard.specs.declared.reasons.WideWhy.TheVariants.{Profile}
use Rattle.oas_trapezoids.specs.declared.places.Place.{Place}
use Rattle.oas_trapezoids.specs.Places.{point_of}
use Rattle.oas_trapezoids.specs.Tracked.{Tracked, placed}
use Rattle.oas_trapezoids.specs.Kept.{repetition_given, spot_given}

-- the places of the corners
abbrev pub points_of : Place → List Corner → List Point
points_of place corners = map (point_of place) corners

abbrev pub are_on_grid : Place → List Corner → Bool
are_on_grid place corners = list_all (λ (c : Corner). is_grid_point (point_of place c)) corners

-- the corners of the whole box
abbrev pub box_corners : Sides → List Corner
box_corners sides = corner 0 0 ∷ corner 0 sides.height ∷ corner sides.width sides.height ∷ corner sides.width 0 ∷ []

abbrev pub is_box : Sides → List Corner → Bool
is_box sides corners = pointwise is_same corners (box_corners sides)

-- from a point to another
abbrev pub step_to : Point → Point → GDelta
step_to p q = step (q.x -ℤ p.x) (q.y -ℤ p.y)

-- from a point to each of the others, one after another
abbrev pub steps_after : Point → List Point → List GDelta
steps_after p [] = []
steps_after p (q ∷ qs) = step_to p q ∷ steps_after q qs

abbrev pub steps_of : List Point → List GDelta
steps_of [] = []
steps_of (p ∷ ps) = steps_after p ps

abbrev pub first_of : List Point → Point
first_of [] = record { x = pos 0; y = pos 0 }
first_of (p ∷ ps) = p

-- the polygon of these points
abbrev pub polygon_of : Tracked → Option RepField → List Point → Polygon
polygon_of s field points =
    record {
      layer = s.layer;
      datatype = s.datatype;
      points = Some (plain_line (steps_of points));
      spot = record { x = Some (first_of points).x; y = Some (first_of points).y; repetition = repetition_given s.repetition field };
    }

-- the rectangle of a box
abbrev pub rectangle_of : Tracked → Option RepField → Sides → Rectangle
rectangle_of s field sides =
    record {
      square = false;
      layer = s.layer;
      datatype = s.datatype;
      width = Some sides.width;
      height = Some sides.height;
      spot = spot_given s field;
    }

abbrev pub geometry_of : Tracked → Option RepField → Sides → List Corner → Record
geometry_of s field sides corners =
    if is_box sides corners then record_of.Rectangle (rectangle_of s field sides)
    else record_of.Polygon (polygon_of s field (points_of s.place corners))

-- what is returned, where all corners are on the grid
abbrev pub shape_of : Tracked → Option RepField → Sides → List Corner → Result (List Record) WideWhy
shape_of s field sides corners =
    if are_on_grid s.place corners then Ok (placed s.place.relative (geometry_of s field sides corners))
    else Err (Profile CoordinateRange)
