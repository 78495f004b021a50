-- A polygon or a path at the start of some bytes.
use Rattle.std.specs.Prelude.{◌≡◌, ℕ, ◌≤◌, Bool, IsTrue, List, length, take, None, Some}
use Rattle.oas_num.specs.Style.{Any, Shortest}
use Rattle.oas_shape.specs.Polylines.{Polyline}
use Rattle.oas_shape.specs.PointLists.{plain_line}
use Rattle.oas_record.specs.declared.records.Record.{Record}
use Rattle.oas_record.specs.declared.records.Record.TheVariants.{Polygon, Path}
use Rattle.oas_record.specs.Records.{record_in, IsInner}
use Rattle.oas_peek.specs.declared.figures.PeekedFigure.{PeekedFigure}

-- it is a polygon or a path without a repetition
abbrev pub IsFigure : Record → Type 0
IsFigure (Polygon p) = p.spot.repetition ≡ None
IsFigure (Path p) = p.spot.repetition ≡ None
IsFigure _ = ⊥

-- it is a polygon or a path whose point list, if it gives one, has type 4
abbrev pub HasPlainList : Record → Type 0
HasPlainList (Polygon p) = (line : Polyline) → p.points ≡ Some line → line ≡ plain_line line.deltas
HasPlainList (Path p) = (line : Polyline) → p.points ≡ Some line → line ≡ plain_line line.deltas
HasPlainList _ = ⊥

-- This many of the bytes spell it, in a file with its table-offsets at either place; in the shortest style its point list has
-- type 4.
pub record IsPeekedFigure (bytes : List ℕ) (r : PeekedFigure) : Type 0 where
  pub within : r.length ≤ length bytes
  pub figure : IsFigure r.record
  pub plain : IsTrue r.shortest → HasPlainList r.record
  pub inner : IsInner r.record
  pub spelled : (in_end : Bool) → record_in Any in_end r.record (take r.length bytes)
  pub shortest : IsTrue r.shortest → (in_end : Bool) → record_in Shortest in_end r.record (take r.length bytes)
