-- A polygon at the start of some bytes.
use Rattle.std.specs.Prelude.{◌≡◌, ℕ, ◌≤◌, Bool, IsTrue, List, length, take, None, Some}
use Rattle.oas_num.specs.Style.{Any, Shortest}
use Rattle.oas_shape.specs.Polylines.{Polyline}
use Rattle.oas_shape.specs.PointLists.{plain_line}
use Rattle.oas_record.specs.declared.polygons.Polygon.{Polygon as OnePolygon}
use Rattle.oas_record.specs.declared.records.Record.TheVariants.{Polygon}
use Rattle.oas_record.specs.Polygons.{polygon_kind}
use Rattle.oas_record.specs.Records.{record_in}
use Rattle.oas_peek.specs.Fronts.{Left, ConsumesPrefix}
use Rattle.oas_peek.specs.declared.polygons.PeekedPolygon.{PeekedPolygon}

-- This many of the bytes spell it, in a file with its table-offsets at either place. It has no repetition, and in the shortest
-- style its point list has type 4.
pub record IsPeekedPolygon (bytes : List ℕ) (r : PeekedPolygon) : Type 0 where
  pub within : r.length ≤ length bytes
  pub once : r.polygon.spot.repetition ≡ None
  pub plain : IsTrue r.shortest → (line : Polyline) → r.polygon.points ≡ Some line → line ≡ plain_line line.deltas
  pub spelled : (in_end : Bool) → record_in Any in_end (Polygon r.polygon) (take r.length bytes)
  pub shortest : IsTrue r.shortest → (in_end : Bool) → record_in Shortest in_end (Polygon r.polygon) (take r.length bytes)

-- a polygon without a repetition was taken after its id
pub record ConsumesPolygon (polygon : OnePolygon) (old new : Left) : Type 0 where
  pub takes : ConsumesPrefix polygon_kind polygon old new
  pub once : polygon.spot.repetition ≡ None
  pub plain : IsTrue new.shortest → (line : Polyline) → polygon.points ≡ Some line → line ≡ plain_line line.deltas
