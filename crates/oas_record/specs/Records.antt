-- How records are spelled, and lists of them.
use Rattle.std.proofs.Common.{◌≡◌, ◌≢◌, ℕ, Bool, true, false, List, [], ◌∷◌, length, Option, Some, None, refl}
use Rattle.oas_num.specs.Grammar.{IsPair, IsSuch, IsEach}
use Rattle.oas_num.specs.Combinators.{IsKeyed}
use Rattle.oas_num.specs.Style.{Style, unsigned_in}
use Rattle.oas_record.specs.declared.records.Record.{Record}
use Rattle.oas_record.specs.declared.records.Record.TheVariants as record_of
use Rattle.oas_record.specs.declared.references.CellRef.{CellRef}
use Rattle.oas_record.specs.declared.references.CellRef.TheVariants as cell
use Rattle.oas_record.specs.declared.placements.Placement.{Placement}
use Rattle.oas_record.specs.declared.placements.Turn.TheVariants.{Quarters, Degrees}
use Rattle.oas_record.specs.declared.texts.Text.{Text}
use Rattle.oas_record.specs.declared.rectangles.Rectangle.{Rectangle}
use Rattle.oas_record.specs.declared.polygons.Polygon.{Polygon}
use Rattle.oas_record.specs.declared.paths.Path.{Path}
use Rattle.oas_record.specs.declared.circles.Circle.{Circle}
use Rattle.oas_record.specs.Trees.{Choice, Row, exactly, image, image_any, row, by_table, chosen_in}
use Rattle.oas_record.specs.References.{cell_kind}
use Rattle.oas_record.specs.NameRecords.{cell_name_kind, text_string_kind}
use Rattle.oas_record.specs.Ends.{end_kind}
use Rattle.oas_record.specs.Placements.{quarters_kind, degrees_kind}
use Rattle.oas_record.specs.Texts.{text_kind}
use Rattle.oas_record.specs.Rectangles.{rectangle_kind}
use Rattle.oas_record.specs.Polygons.{polygon_kind}
use Rattle.oas_record.specs.Paths.{path_kind}
use Rattle.oas_record.specs.Circles.{circle_kind}

-- the id of a record
abbrev pub id_of : Record → ℕ
id_of record_of.Pad = 0
id_of record_of.End = 2
id_of (record_of.CellName name None) = 3
id_of (record_of.CellName name (Some number)) = 4
id_of (record_of.TextString label None) = 5
id_of (record_of.TextString label (Some number)) = 6
id_of (record_of.Cell (cell.Number number)) = 13
id_of (record_of.Cell (cell.Name name)) = 14
id_of record_of.XyAbsolute = 15
id_of record_of.XyRelative = 16
id_of (record_of.Placement placement) = elim placement.turn [ Quarters turns ↦ 17 | Degrees magnification angle ↦ 18 ]
id_of (record_of.Text text) = 19
id_of (record_of.Rectangle rectangle) = 20
id_of (record_of.Polygon polygon) = 21
id_of (record_of.Path path) = 22
id_of (record_of.Circle circle) = 27

-- END
abbrev pub is_end : Record → Bool
is_end record_of.End = true
is_end _ = false

-- the records of one kind
abbrev pub pad : Unit {0} → Record
pad done = record_of.Pad

abbrev pub end : Unit {0} → Record
end done = record_of.End

abbrev pub xy_absolute : Unit {0} → Record
xy_absolute done = record_of.XyAbsolute

abbrev pub xy_relative : Unit {0} → Record
xy_relative done = record_of.XyRelative

abbrev pub cell_name : List ℕ × Option ℕ → Record
cell_name p = record_of.CellName p.0 p.1

abbrev pub text_string : List ℕ × Option ℕ → Record
text_string p = record_of.TextString p.0 p.1

abbrev pub a_cell : CellRef → Record
a_cell c = record_of.Cell c

abbrev pub placement : Placement → Record
placement p = record_of.Placement p

abbrev pub text : Text → Record
text p = record_of.Text p

abbrev pub rectangle : Rectangle → Record
rectangle p = record_of.Rectangle p

abbrev pub polygon : Polygon → Record
polygon p = record_of.Polygon p

abbrev pub path : Path → Record
path p = record_of.Path p

abbrev pub circle : Circle → Record
circle p = record_of.Circle p

-- what a record of a kind holds
abbrev a_cell_back : Record → CellRef
a_cell_back (record_of.Cell v) = v
a_cell_back _ = cell.Number 0

abbrev placement_back : Record → Placement
placement_back (record_of.Placement v) = v
placement_back _ = record { cell = None; turn = Quarters 0; flip = false; spot = (record { x = None; y = None; repetition = None }) }

abbrev text_back : Record → Text
text_back (record_of.Text v) = v
text_back _ = record { string = None; textlayer = None; texttype = None; spot = (record { x = None; y = None; repetition = None }) }

abbrev rectangle_back : Record → Rectangle
rectangle_back (record_of.Rectangle v) = v
rectangle_back _ = record { square = false; layer = None; datatype = None; width = None; height = None; spot = (record { x = None; y = None; repetition = None }) }

abbrev polygon_back : Record → Polygon
polygon_back (record_of.Polygon v) = v
polygon_back _ = record { layer = None; datatype = None; points = None; spot = (record { x = None; y = None; repetition = None }) }

abbrev path_back : Record → Path
path_back (record_of.Path v) = v
path_back _ = record { layer = None; datatype = None; half_width = None; extensions = None; points = None; spot = (record { x = None; y = None; repetition = None }) }

abbrev circle_back : Record → Circle
circle_back (record_of.Circle v) = v
circle_back _ = record { layer = None; datatype = None; radius = None; spot = (record { x = None; y = None; repetition = None }) }

-- what follows each id
abbrev pub table : Bool → List (Row Record)
table in_end =
    row 0 (image_any pad (exactly [])) ∷
    row 2 (image end (λ _. tt) (end_kind in_end) (λ u bytes p. refl)) ∷
    row 3 (image_any cell_name (cell_name_kind false)) ∷
    row 4 (image_any cell_name (cell_name_kind true)) ∷
    row 5 (image_any text_string (text_string_kind false)) ∷
    row 6 (image_any text_string (text_string_kind true)) ∷
    row 13 (image_any a_cell (cell_kind true)) ∷
    row 14 (image a_cell a_cell_back (cell_kind false) (λ u bytes p. refl)) ∷
    row 15 (image_any xy_absolute (exactly [])) ∷
    row 16 (image_any xy_relative (exactly [])) ∷
    row 17 (image placement placement_back quarters_kind (λ u bytes p. refl)) ∷
    row 18 (image placement placement_back degrees_kind (λ u bytes p. refl)) ∷
    row 19 (image text text_back text_kind (λ u bytes p. refl)) ∷
    row 20 (image rectangle rectangle_back rectangle_kind (λ u bytes p. refl)) ∷
    row 21 (image polygon polygon_back polygon_kind (λ u bytes p. refl)) ∷
    row 22 (image path path_back path_kind (λ u bytes p. refl)) ∷
    row 27 (image circle circle_back circle_kind (λ u bytes p. refl)) ∷ []

abbrev pub after : Bool → ℕ → Choice Record
after in_end id = by_table id (table in_end)

abbrev pub after_id : Style → Bool → ℕ → Record → List ℕ → Type 0
after_id style in_end id = chosen_in style (after in_end id)

-- an id, and what follows it
abbrev pub parts_in : Style → Bool → Record → List ℕ → Type 0
parts_in style in_end = IsKeyed id_of (unsigned_in style) (after_id style in_end)

-- END, its id included, is 256 bytes
abbrev pub IsWhole : Record → List ℕ → Type 0
IsWhole r bytes = r ≡ record_of.End → length bytes ≡ 256

-- the bytes spell the record, in a file whose START says where the table-offsets are
pub record record_in (style : Style) (in_end : Bool) (r : Record) (bytes : List ℕ) : Type 0 where
  pub whole : IsWhole r bytes
  pub parts : parts_in style in_end r bytes

-- a record that isn't END
abbrev pub IsInner : Record → Type 0
IsInner r = r ≢ record_of.End

abbrev pub IsLast : Record → Type 0
IsLast r = r ≡ record_of.End

-- the records of a file after START: any but END, and then END
abbrev pub records_in : Style → Bool → List Record × Record → List ℕ → Type 0
records_in style in_end = IsPair (IsEach (IsSuch IsInner (record_in style in_end))) (λ _. IsSuch IsLast (record_in style in_end))
