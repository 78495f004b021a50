-- A path at the start of some bytes.
use Rattle.std.specs.Prelude.{◌≡◌, ℕ, ◌≤◌, Bool, IsTrue, List, length, take, None, Some}
use Rattle.oas_num.specs.Style.{Any, Shortest}
use Rattle.oas_shape.specs.Polylines.{Polyline}
use Rattle.oas_shape.specs.PointLists.{plain_line}
use Rattle.oas_record.specs.declared.paths.Path.{Path as OnePath}
use Rattle.oas_record.specs.declared.records.Record.TheVariants.{Path}
use Rattle.oas_record.specs.Paths.{path_kind}
use Rattle.oas_record.specs.Records.{record_in}
use Rattle.oas_peek.specs.Fronts.{Left, ConsumesPrefix}
use Rattle.oas_peek.specs.declared.paths.PeekedPath.{PeekedPath}

-- This many of the bytes spell it, in a file with its table-offsets at either place. It has no repetition, and in the shortest
-- style its point list has type 4.
pub record IsPeekedPath (bytes : List ℕ) (r : PeekedPath) : Type 0 where
  pub within : r.length ≤ length bytes
  pub once : r.path.spot.repetition ≡ None
  pub plain : IsTrue r.shortest → (line : Polyline) → r.path.points ≡ Some line → line ≡ plain_line line.deltas
  pub spelled : (in_end : Bool) → record_in Any in_end (Path r.path) (take r.length bytes)
  pub shortest : IsTrue r.shortest → (in_end : Bool) → record_in Shortest in_end (Path r.path) (take r.length bytes)

-- a path without a repetition was taken after its id
pub record ConsumesPath (path : OnePath) (old new : Left) : Type 0 where
  pub takes : ConsumesPrefix path_kind path old new
  pub once : path.spot.repetition ≡ None
  pub plain : IsTrue new.shortest → (line : Polyline) → path.points ≡ Some line → line ≡ plain_line line.deltas
