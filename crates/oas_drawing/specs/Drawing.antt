-- What an element record draws (SEMI P39, Modal variables). m are the variables after the record, which gives its own fields.
use Rattle.std.specs.Prelude.{ℕ, ℤ, ◌+ℤ◌, Bool, true, false, is_some, Option, None, Some, List, [], ◌∷◌, ◌++◌, map}
use Rattle.std.specs.List.{range_with_len}
use Rattle.std.specs.Option.{option_to_list}
use Rattle.oas_num.specs.declared.deltas.GDelta.{GDelta}
use Rattle.oas_ring.specs.declared.point.Point.{Point}
use Rattle.oas_shape.specs.declared.repetitions.Repetition.{Repetition}
use Rattle.oas_shape.specs.Polylines.{Polyline, vertices_of}
use Rattle.oas_shape.specs.Offsets.{count_of, offset_of}
use Rattle.oas_shape.specs.declared.places.Places.{Places}
use Rattle.oas_shape.specs.Places.{places_one_way, places_of}
use Rattle.oas_shape.specs.Steps.{still}
use Rattle.oas_record.specs.declared.references.CellRef.{CellRef}
use Rattle.oas_record.specs.declared.references.CellRef.TheVariants as cell
use Rattle.oas_record.specs.declared.references.TextRef.{TextRef}
use Rattle.oas_record.specs.declared.references.TextRef.TheVariants as text
use Rattle.oas_record.specs.declared.records.Record.{Record}
use Rattle.oas_elements.specs.declared.element.Turns.{Turns}
use Rattle.oas_elements.specs.declared.element.Element.TheVariants as element
use Rattle.oas_drawing.specs.declared.drawn.Drawn.{Drawn}
use Rattle.oas_drawing.specs.declared.drawn.Drawn.TheVariants.{Named, PlacementBy, TextBy}
use Rattle.oas_drawing.specs.declared.kinds.Kind.{Kind}
use Rattle.oas_drawing.specs.declared.kinds.Kind.TheVariants.{Placement, Text, Rectangle, Polygon, Path, Circle}
use Rattle.oas_drawing.specs.declared.positions.Position.{Position}
use Rattle.oas_drawing.specs.GivenFields.{given_fields}
use Rattle.oas_drawing.specs.Modal.{ModalState, modal_of}
use Rattle.oas_drawing.specs.Turns.{turned}

-- the kind of an element record, with its fields that no variable keeps
abbrev pub kind_of : Record → Option Kind
kind_of r = (given_fields r).kind

-- whether a record gives a repetition
abbrev pub repeats : Record → Bool
repeats r = is_some (given_fields r).repetition

-- an element at a point, where each value of it is defined
abbrev pub placement_at : Option CellRef → Turns → Bool → Point → Option Drawn
placement_at None turns flip at = None
placement_at (Some (cell.Number number)) turns flip at = Some (PlacementBy number at.x at.y turns flip)
placement_at (Some (cell.Name name)) turns flip at = Some (Named (element.Placement name at.x at.y turns flip))

abbrev pub text_at : Option TextRef → Option ℕ → Option ℕ → Point → Option Drawn
text_at (Some (text.Number number)) (Some textlayer) (Some texttype) at = Some (TextBy number textlayer texttype at.x at.y)
text_at (Some (text.Label label)) (Some textlayer) (Some texttype) at = Some (Named (element.Text label textlayer texttype at.x at.y))
text_at _ _ _ at = None

abbrev pub rectangle_at : Option ℕ → Option ℕ → Option ℕ → Option ℕ → Point → Option Drawn
rectangle_at (Some layer) (Some datatype) (Some width) (Some height) at = Some (Named (element.Rectangle layer datatype width height at.x at.y))
rectangle_at _ _ _ _ at = None

abbrev pub polygon_at : Option ℕ → Option ℕ → Option Polyline → Point → Option Drawn
polygon_at (Some layer) (Some datatype) (Some points) at = Some (Named (element.Polygon layer datatype (vertices_of points at)))
polygon_at _ _ _ at = None

abbrev pub path_at : Option ℕ → Option ℕ → Option ℕ → Option ℤ → Option ℤ → Option Polyline → Point → Option Drawn
path_at (Some layer) (Some datatype) (Some half_width) (Some start) (Some end) (Some points) at =
    Some (Named (element.Path layer datatype half_width start end (vertices_of points at)))
path_at _ _ _ _ _ _ at = None

abbrev pub circle_at : Option ℕ → Option ℕ → Option ℕ → Point → Option Drawn
circle_at (Some layer) (Some datatype) (Some radius) at = Some (Named (element.Circle layer datatype radius at.x at.y))
circle_at _ _ _ at = None

-- the element of a kind at a point
abbrev pub kind_at : ModalState → Kind → Point → Option Drawn
kind_at m (Placement turn flip) at = placement_at m.cell (turned turn) flip at
kind_at m Text at = text_at m.string m.textlayer m.texttype at
kind_at m Rectangle at = rectangle_at m.layer m.datatype m.width m.height at
kind_at m Polygon at = polygon_at m.layer m.datatype m.polygon_points at
kind_at m Path at = path_at m.layer m.datatype m.half_width m.start m.end m.path_points at
kind_at m Circle at = circle_at m.layer m.datatype m.radius at

-- the position of the class of a kind
abbrev pub place_of : ModalState → Kind → Position
place_of m (Placement turn flip) = m.placement
place_of m Text = m.text
place_of m _ = m.geometry

-- whether a record is geometry: an element, but neither a placement nor a text
abbrev pub of_geometry : Option Kind → Bool
of_geometry None = false
of_geometry (Some (Placement turn flip)) = false
of_geometry (Some Text) = false
of_geometry (Some kind) = true

abbrev pub is_geometry : Record → Bool
is_geometry r = of_geometry (kind_of r)

-- the point at this distance from a position
abbrev pub point_from : Position → GDelta → Point
point_from at d = record { x = at.x +ℤ d.dx; y = at.y +ℤ d.dy }

-- the element of a kind, moved by an offset; None where a variable that it needs is undefined
abbrev pub drawn_by : ModalState → Kind → GDelta → Option Drawn
drawn_by m kind d = kind_at m kind (point_from (place_of m kind) d)

abbrev pub drawn_if : ModalState → Option Kind → GDelta → Option Drawn
drawn_if m None d = None
drawn_if m (Some kind) d = drawn_by m kind d

-- the element of a record
abbrev pub drawn_at : ModalState → Record → GDelta → Option Drawn
drawn_at m r d = drawn_if m (kind_of r) d

-- the offset of copy i: of the modal repetition, or of a record without one
abbrev pub offset_if : Bool → Option Repetition → ℕ → GDelta
offset_if true (Some repetition) i = offset_of repetition i
offset_if _ _ i = still

-- how many copies there are
abbrev pub number_if : Bool → Option Repetition → ℕ
number_if false modal = 1
number_if true None = 0
number_if true (Some repetition) = count_of repetition

-- their places: those of the modal repetition, or the one of a record without one
abbrev pub places_if : Bool → Option Repetition → Places
places_if false modal = places_one_way 1 false
places_if true None = places_one_way 0 false
places_if true (Some repetition) = places_of repetition

-- whether a repetition has to be taken from its variable, which is undefined
abbrev pub lacks_repetition : Bool → Option Repetition → Bool
lacks_repetition true None = true
lacks_repetition _ _ = false

-- the offsets of all copies
abbrev pub offsets_if : Bool → Option Repetition → List GDelta
offsets_if repeated modal = map (offset_if repeated modal) (range_with_len 0 (number_if repeated modal))

abbrev pub offsets_of : ModalState → Record → List GDelta
offsets_of m r = offsets_if (repeats r) m.repetition

-- those of the first copies of a record
abbrev pub first_offsets : ModalState → Record → ℕ → List GDelta
first_offsets m r n = map (offset_if (repeats r) m.repetition) (range_with_len 0 n)

-- the element at each of the offsets
abbrev pub copies_at : ModalState → Record → List GDelta → List Drawn
copies_at m r [] = []
copies_at m r (d ∷ ds) = option_to_list (drawn_at m r d) ++ copies_at m r ds

-- the elements of a record, one for each offset of its repetition. The records before it are listed newest first.
abbrev pub elements_at : Record → List Record → List Drawn
elements_at r before = let m = modal_of (r ∷ before) in copies_at m r (offsets_of m r)
