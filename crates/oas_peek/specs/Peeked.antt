-- A rectangle at the start of some bytes.
use Rattle.std.specs.Prelude.{◌≡◌, ℕ, ◌≤◌, Bool, IsTrue, List, length, take, None, false}
use Rattle.oas_num.specs.Style.{Any, Shortest}
use Rattle.oas_record.specs.declared.records.Record.TheVariants.{Rectangle}
use Rattle.oas_record.specs.Records.{record_in}
use Rattle.oas_record.specs.declared.rectangles.Rectangle.{Rectangle as OneRectangle}
use Rattle.oas_record.specs.Info.{has}
use Rattle.oas_record.specs.Rectangles.{RectangleFields, IsRectangleInfo, rectangle_parts, rectangle_of}
use Rattle.oas_peek.specs.Fronts.{Left, ConsumesPrefix}
use Rattle.oas_peek.specs.declared.rectangles.PeekedRectangle.{PeekedRectangle}

-- This many of the bytes spell it, in a file with its table-offsets at either place; it has no repetition.
pub record IsPeeked (bytes : List ℕ) (r : PeekedRectangle) : Type 0 where
  pub within : r.length ≤ length bytes
  pub once : r.rectangle.spot.repetition ≡ None
  pub spelled : (in_end : Bool) → record_in Any in_end (Rectangle r.rectangle) (take r.length bytes)
  pub shortest : IsTrue r.shortest → (in_end : Bool) → record_in Shortest in_end (Rectangle r.rectangle) (take r.length bytes)

-- the info byte of a rectangle that gives no repetition
abbrev pub IsOnceInfo : ℕ → Type 0
IsOnceInfo info = IsRectangleInfo info × (has info 4 ≡ false)

-- the fields of a rectangle without a repetition were taken, after its info byte
pub record ConsumesFields (info : ℕ) (drawn : OneRectangle) (old new : Left) : Type 0 where
  pub fields : RectangleFields
  pub is : rectangle_of (info, fields) ≡ drawn
  pub takes : ConsumesPrefix (rectangle_parts info) fields old new
  pub once : drawn.spot.repetition ≡ None
