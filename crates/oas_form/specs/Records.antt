-- The records of a canonical file: each CELL by its name, and after it its elements, with all their fields (own rule).
use Rattle.std.specs.Prelude.{ℕ, ℤ, ◌-ℤ◌, false, List, [], ◌∷◌, ◌++◌, map, None, Some}
use Rattle.oas_num.specs.declared.deltas.GDelta.{GDelta}
use Rattle.oas_num.specs.Deltas.{step}
use Rattle.oas_ring.specs.declared.point.Point.{Point}
use Rattle.oas_ring.specs.Points.{origin}
use Rattle.oas_shape.specs.Polylines.{Polyline}
use Rattle.oas_shape.specs.PointLists.{plain_line}
use Rattle.oas_record.specs.declared.records.Record.{Record}
use Rattle.oas_record.specs.declared.records.Record.TheVariants as record_of
use Rattle.oas_record.specs.declared.references.CellRef.TheVariants as cell
use Rattle.oas_record.specs.declared.references.TextRef.TheVariants as text
use Rattle.oas_record.specs.declared.placements.Turn.TheVariants.{Quarters}
use Rattle.oas_record.specs.declared.paths.Extension.TheVariants.{Explicit}
use Rattle.oas_record.specs.declared.spots.Spot.{Spot}
use Rattle.oas_elements.specs.declared.element.Element.{Element}
use Rattle.oas_elements.specs.declared.element.Element.TheVariants.{Placement, Text, Rectangle, Polygon, Path, Circle}
use Rattle.oas_elements.specs.Element.{turn_count}

-- a position, without a repetition
abbrev pub spot_at : ℤ → ℤ → Spot
spot_at x y = record { x = Some x; y = Some y; repetition = None }

-- the first of the points
abbrev pub first_of : List Point → Point
first_of [] = origin
first_of (p ∷ ps) = p

-- from each point the step to the next
abbrev pub steps_from : Point → List Point → List GDelta
steps_from p [] = []
steps_from p (q ∷ qs) = step (q.x -ℤ p.x) (q.y -ℤ p.y) ∷ steps_from q qs

-- the point list of these points, from the first on
abbrev pub line_of : List Point → Polyline
line_of [] = plain_line []
line_of (p ∷ ps) = plain_line (steps_from p ps)

-- the place of the first point
abbrev pub spot_of : List Point → Spot
spot_of points = spot_at (first_of points).x (first_of points).y

-- the record of an element
abbrev pub element_record : Element → Record
element_record (Placement name x y turns flip) = record_of.Placement (record { cell = Some (cell.Name name); turn = Quarters (turn_count turns); flip = flip; spot = spot_at x y })
element_record (Text string textlayer texttype x y) = record_of.Text (record { string = Some (text.Label string); textlayer = Some textlayer; texttype = Some texttype; spot = spot_at x y })
element_record (Rectangle layer datatype width height x y) =
    record_of.Rectangle (record { square = false; layer = Some layer; datatype = Some datatype; width = Some width; height = Some height; spot = spot_at x y })
element_record (Polygon layer datatype points) = record_of.Polygon (record { layer = Some layer; datatype = Some datatype; points = Some (line_of points); spot = spot_of points })
element_record (Path layer datatype half_width start end points) =
    record_of.Path (record {
      layer = Some layer;
      datatype = Some datatype;
      half_width = Some half_width;
      extensions =
          Some (record { start = Explicit start; end = Explicit end });
      points = Some (line_of points);
      spot = spot_of points;
    })
element_record (Circle layer datatype radius x y) = record_of.Circle (record { layer = Some layer; datatype = Some datatype; radius = Some radius; spot = spot_at x y })

-- a CELL by its name, followed by its elements
abbrev pub Cells : Type 0
Cells = List (List ℕ × List Element)

-- a CELL and then its elements, cell by cell
abbrev pub records_of : Cells → List Record
records_of [] = []
records_of (c ∷ cs) = record_of.Cell (cell.Name c.0) ∷ (map element_record c.1 ++ records_of cs)
