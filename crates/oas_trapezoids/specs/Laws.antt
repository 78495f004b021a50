-- What follows from the rules by which records are returned.
use Rattle.std.specs.Prelude.{◌≡◌, false, cond, ◌&&◌, is_none, ℕ, List, [], ◌∷◌, ◌++◌, map, Option, Some, None, Result, Ok, Err}
use Rattle.std.specs.Option.{option_or}
use Rattle.oas_num.specs.declared.deltas.GDelta.{GDelta}
use Rattle.oas_num.specs.declared.refusals.Why.TheVariants.{ModalUndefined, CoordinateRange, InfoByte}
use Rattle.oas_ring.specs.declared.point.Point.{Point}
use Rattle.oas_shape.specs.PointLists.{plain_line}
use Rattle.oas_shape.specs.Polylines.{vertices_of}
use Rattle.oas_record.specs.declared.references.CellRef.{CellRef}
use Rattle.oas_record.specs.declared.spots.Spot.{Spot}
use Rattle.oas_record.specs.declared.records.Record.{Record}
use Rattle.oas_record.specs.declared.records.Record.TheVariants as record_of
use Rattle.oas_standard.specs.declared.records.WideRecord.{WideRecord}
use Rattle.oas_standard.specs.declared.records.WideRecord.TheVariants.{Profile}
use Rattle.oas_standard.specs.declared.reasons.WideWhy.{WideWhy}
use Rattle.oas_standard.specs.declared.reasons.WideWhy.TheVariants as wide_why
use Rattle.oas_standard.specs.declared.extensions.ExtensionGeometry.{ExtensionGeometry}
use Rattle.oas_standard.specs.declared.trapezoids.NamedTrapezoid.{NamedTrapezoid}
use Rattle.oas_standard.specs.declared.trapezoids.Trapezoid.{Trapezoid}
use Rattle.oas_trapezoids.specs.declared.corners.Corner.{Corner}
use Rattle.oas_trapezoids.specs.declared.sides.Sides.{Sides}
use Rattle.oas_drawing.specs.Positions.{IsNear}
use Rattle.oas_drawing.specs.Values.{new_repetition}
use Rattle.oas_drawing.specs.Modal.{ModalState, moved_by, stepped}
use Rattle.oas_drawing.specs.Drawing.{is_geometry, drawn_at, offsets_of}
use Rattle.oas_trapezoids.specs.Tracked.{Tracked, fresh, tracked, placed}
use Rattle.oas_trapezoids.specs.Kept.{filled, lacks_points}
use Rattle.oas_trapezoids.specs.Shapes.{steps_of, geometry_of}
use Rattle.oas_trapezoids.specs.Trapezoids.{modal_box, trapezoid_after, named_box, named_after}
use Rattle.oas_trapezoids.specs.Extensions.{geometry_after}
use Rattle.oas_trapezoids.specs.Steps.{translated_by, kept_after}

-- one list and another, or why one of them is refused
abbrev pub joined : Result (List Record) WideWhy → Result (List Record) WideWhy → Result (List Record) WideWhy
joined (Ok rs) (Ok more) = Ok (rs ++ more)
joined (Ok rs) (Err why) = Err why
joined (Err why) rest = Err why

-- what is returned for records, one after another, or why the first one that is refused is
abbrev pub handed_all : Tracked → List WideRecord → Result (List Record) WideWhy
handed_all s [] = Ok []
handed_all s (w ∷ ws) = joined (translated_by s w) (handed_all (kept_after s w) ws)

-- where there are only records of the profile, they are returned unchanged
abbrev pub ProfileAsItIs : Type 0
ProfileAsItIs = (rs : List Record) → handed_all fresh (map (λ (r : Record). Profile r) rs) ≡ Ok rs

-- a CELL is returned, and after it all is as at the beginning
abbrev pub CellBeginsAnew : Type 0
CellBeginsAnew = (s : Tracked) (cell : CellRef) → (translated_by s (Profile (record_of.Cell cell)) ≡ Ok (record_of.Cell cell ∷ [])) × (kept_after s (Profile (record_of.Cell cell)) ≡ fresh)

-- the vertices of a list of steps, from the first of some points on, are these points
abbrev pub VerticesAreCorners : Type 0
VerticesAreCorners = (p : Point) (ps : List Point) → vertices_of (plain_line (steps_of (p ∷ ps))) p ≡ p ∷ ps

-- ---- the reasons

-- one for which a record is refused
pub data IsReason (why : WideWhy) : Type 0 where
  Undefined : why ≡ wide_why.Profile ModalUndefined → IsReason why
  OffGrid : why ≡ wide_why.Profile CoordinateRange → IsReason why
  OtherSide : why ≡ wide_why.Profile InfoByte → IsReason why
  NoKind : why ≡ wide_why.CtrapezoidType → IsReason why
  NoShape : why ≡ wide_why.Trapezoid → IsReason why

-- there is no other
abbrev pub OnlyReasons : Type 0
OnlyReasons = (s : Tracked) (w : WideRecord) (why : WideWhy) → translated_by s w ≡ Err why → IsReason why

-- ---- the variables

-- what is tracked are the variables of the standard
pub record AreKept (s : Tracked) (m : ModalState) : Type 0 where
  pub layer : s.layer ≡ m.layer
  pub datatype : s.datatype ≡ m.datatype
  pub width : s.width ≡ m.width
  pub height : s.height ≡ m.height
  pub polygon_points : s.polygon_points ≡ m.polygon_points
  pub repetition : s.repetition ≡ m.repetition
  pub relative : s.place.relative ≡ m.relative
  pub x : s.place.x ≡ m.geometry.x
  pub y : s.place.y ≡ m.geometry.y

-- They stay so over each record of the profile that doesn't exceed the limits.
abbrev pub KeepsVariables : Type 0
KeepsVariables = (s : Tracked) (m : ModalState) (r : Record) → AreKept s m → IsNear (stepped m r).geometry → AreKept (tracked s r) (stepped m r)

-- ---- what is drawn

-- A reader of the returned records has these variables where the standard has those: the same for those that only returned
-- records set, and, of the shared ones, none that the standard leaves undefined.
pub record AreRead (reader standard : ModalState) : Type 0 where
  pub cell : reader.cell ≡ standard.cell
  pub string : reader.string ≡ standard.string
  pub textlayer : reader.textlayer ≡ standard.textlayer
  pub texttype : reader.texttype ≡ standard.texttype
  pub path_points : reader.path_points ≡ standard.path_points
  pub half_width : reader.half_width ≡ standard.half_width
  pub start : reader.start ≡ standard.start
  pub end : reader.end ≡ standard.end
  pub radius : reader.radius ≡ standard.radius
  pub relative : reader.relative ≡ standard.relative
  pub placement : reader.placement ≡ standard.placement
  pub text : reader.text ≡ standard.text
  pub layer : standard.layer ≡ None → reader.layer ≡ None
  pub datatype : standard.datatype ≡ None → reader.datatype ≡ None
  pub width : standard.width ≡ None → reader.width ≡ None
  pub height : standard.height ≡ None → reader.height ≡ None
  pub repetition : standard.repetition ≡ None → reader.repetition ≡ None

-- the variables with which a record is drawn: after it, in the mode in which it is returned
abbrev pub drawing : ModalState → Record → Record → ModalState
drawing reader r filled = stepped (record reader { relative = cond (is_geometry r) false reader.relative }) filled

-- In a cell with trapezoids or geometry of extensions, each element of the profile draws what it draws by the standard: s are
-- the variables that are tracked after it.
pub record DrawsTheSame (s : Tracked) (reader standard : ModalState) (r : Record) : Type 0 where
  pub element : (d : GDelta) → drawn_at (drawing reader r (filled s r)) (filled s r) d ≡ drawn_at (stepped standard r) r d
  pub offsets : offsets_of (drawing reader r (filled s r)) (filled s r) ≡ offsets_of (stepped standard r) r

abbrev pub DrawnAsByTheStandard : Type 0
DrawnAsByTheStandard = (s : Tracked) (reader standard : ModalState) (r : Record) → AreRead reader standard → AreKept s (stepped standard r) → (lacks_points r && is_none s.polygon_points) ≡ false → DrawsTheSame s reader standard r

-- the variables after more records, oldest first
abbrev pub read_all : ModalState → List Record → ModalState
read_all m [] = m
read_all m (r ∷ rs) = read_all (stepped m r) rs

-- a reader still has them after what is returned for a record of the profile
abbrev pub StaysRead : Type 0
StaysRead = (s : Tracked) (reader standard : ModalState) (r : Record) → AreRead reader standard → AreKept s (stepped standard r) →
    AreRead (read_all reader (placed (is_geometry r && s.place.relative) (filled s r))) (stepped standard r)

-- ---- trapezoids and geometry of extensions

-- the variables of the standard after a trapezoid with that box
abbrev pub boxed : ModalState → Option ℕ → Option ℕ → Spot → Sides → ModalState
boxed m layer datatype spot box =
    record m {
      layer = option_or layer m.layer;
      datatype = option_or datatype m.datatype;
      width = Some box.width;
      height = Some box.height;
      repetition = option_or (new_repetition spot.repetition) m.repetition;
      geometry = moved_by m.relative m.geometry spot;
    }

-- and after geometry of an extension
abbrev pub passed_over : ModalState → ExtensionGeometry → ModalState
passed_over m g =
    record m {
      layer = option_or g.layer m.layer;
      datatype = option_or g.datatype m.datatype;
      repetition = option_or (new_repetition g.spot.repetition) m.repetition;
      geometry = moved_by m.relative m.geometry g.spot;
    }

-- they are what is tracked
pub record KeepsShapes (s : Tracked) (m : ModalState) : Type 0 where
  pub trapezoid : (t : Trapezoid) (box : Sides) → modal_box (trapezoid_after s t) ≡ Ok box → IsNear (moved_by m.relative m.geometry t.spot) → AreKept (trapezoid_after s t) (boxed m t.layer t.datatype t.spot box)
  pub named : (t : NamedTrapezoid) (box : Sides) → named_box s t ≡ Ok box → IsNear (moved_by m.relative m.geometry t.spot) → AreKept (named_after s t) (boxed m t.layer t.datatype t.spot box)
  pub extension : (g : ExtensionGeometry) → IsNear (moved_by m.relative m.geometry g.spot) → AreKept (geometry_after s g) (passed_over m g)

abbrev pub ShapesAreKept : Type 0
ShapesAreKept = (s : Tracked) (m : ModalState) → AreKept s m → KeepsShapes s m

-- and a reader has them after what is returned
pub record ReadsShapes (s : Tracked) (reader standard : ModalState) : Type 0 where
  pub shape : (layer datatype : Option ℕ) (spot : Spot) (box : Sides) (corners : List Corner) → AreKept s (boxed standard layer datatype spot box) →
      AreRead (read_all reader (placed s.place.relative (geometry_of s spot.repetition box corners))) (boxed standard layer datatype spot box)
  pub extension : (g : ExtensionGeometry) → AreRead reader (passed_over standard g)

abbrev pub ShapesAreRead : Type 0
ShapesAreRead = (s : Tracked) (reader standard : ModalState) → AreRead reader standard → ReadsShapes s reader standard
