-- What an element record draws by its own fields alone: a record that takes a value from a modal variable, or has a
-- repetition, draws nothing in this way.
use Rattle.std.specs.Prelude.{◌≡◌, ℕ, ℤ, Bool, true, false, List, Option, None, Some}
use Rattle.std.specs.List.{list_all}
use Rattle.oas_num.specs.declared.refusals.Why.{Why}
use Rattle.oas_num.specs.declared.refusals.Why.TheVariants.{Memory}
use Rattle.oas_ring.specs.declared.point.Point.{Point}
use Rattle.oas_shape.specs.declared.repetitions.RepField.{RepField}
use Rattle.oas_record.specs.declared.spots.Spot.{Spot}
use Rattle.oas_record.specs.declared.references.CellRef.{CellRef}
use Rattle.oas_record.specs.declared.placements.Turn.{Turn}
use Rattle.oas_record.specs.declared.placements.Turn.TheVariants.{Quarters, Degrees}
use Rattle.oas_record.specs.declared.paths.Extension.{Extension}
use Rattle.oas_record.specs.declared.paths.Extension.TheVariants.{Explicit}
use Rattle.oas_record.specs.declared.paths.Extensions.{Extensions}
use Rattle.oas_record.specs.declared.records.Record.{Record}
use Rattle.oas_record.specs.declared.records.Record.TheVariants as record_of
use Rattle.oas_elements.specs.declared.element.Turns.{Turns}
use Rattle.oas_elements.specs.declared.element.Element.{Element}
use Rattle.oas_elements.specs.Grid.{is_grid_point, fits_grid}
use Rattle.oas_writing.specs.Drawn.{Drawn}
use Rattle.oas_writing.specs.Drawn.TheVariants.{Named}
use Rattle.oas_writing.specs.Turns.{turned}
use Rattle.oas_writing.specs.Drawing.{placement_at, text_at, rectangle_at, polygon_at, path_at, circle_at}

-- a place that is given whole, without a repetition
abbrev pub point_if : Option ℤ → Option ℤ → Option RepField → Option Point
point_if (Some x) (Some y) None = Some (record { x = x; y = y })
point_if _ _ _ = None

abbrev pub point_given : Spot → Option Point
point_given spot = point_if spot.x spot.y spot.repetition

-- what is drawn there
abbrev pub drawn_there : Option Point → (Point → Option Drawn) → Option Drawn
drawn_there None draw = None
drawn_there (Some at) draw = draw at

-- quarter turns
abbrev pub turn_given : Turn → Option Turns
turn_given (Quarters quarters) = Some (turned (Quarters quarters))
turn_given (Degrees magnification angle) = None

abbrev pub placement_if : Option CellRef → Option Turns → Bool → Point → Option Drawn
placement_if cell None flip at = None
placement_if cell (Some turns) flip at = placement_at cell turns flip at

-- a square doesn't give its height
abbrev pub rectangle_if : Bool → Option ℕ → Option ℕ → Option ℕ → Option ℕ → Point → Option Drawn
rectangle_if true layer datatype width height at = None
rectangle_if false layer datatype width height at = rectangle_at layer datatype width height at

-- an extension as a number
abbrev pub number_given : Extension → Option ℤ
number_given (Explicit z) = Some z
number_given _ = None

abbrev pub start_given : Option Extensions → Option ℤ
start_given None = None
start_given (Some both) = number_given both.start

abbrev pub end_given : Option Extensions → Option ℤ
end_given None = None
end_given (Some both) = number_given both.end

abbrev pub own_drawn : Record → Option Drawn
own_drawn (record_of.Placement p) = drawn_there (point_given p.spot) (placement_if p.cell (turn_given p.turn) p.flip)
own_drawn (record_of.Text t) = drawn_there (point_given t.spot) (text_at t.string t.textlayer t.texttype)
own_drawn (record_of.Rectangle r) = drawn_there (point_given r.spot) (rectangle_if r.square r.layer r.datatype r.width r.height)
own_drawn (record_of.Polygon p) = drawn_there (point_given p.spot) (polygon_at p.layer p.datatype p.points)
own_drawn (record_of.Path p) = drawn_there (point_given p.spot) (path_at p.layer p.datatype p.half_width (start_given p.extensions) (end_given p.extensions) p.points)
own_drawn (record_of.Circle c) = drawn_there (point_given c.spot) (circle_at c.layer c.datatype c.radius)
own_drawn _ = None

-- it is this element; or it is none within the grid
abbrev pub IsOwn : Option Element → Option Drawn → Type 0
IsOwn (Some e) drawn = drawn ≡ Some (Named e)
IsOwn None drawn = (e : Element) → drawn ≡ Some (Named e) → fits_grid e ≡ true → ⊥

-- these are the vertices, or one of them is outside the grid
abbrev pub AreVertices : Option (List Point) → List Point → Type 0
AreVertices (Some points) vertices = points ≡ vertices
AreVertices None vertices = list_all is_grid_point vertices ≡ false

-- both of two numbers, or one of them isn't given
abbrev pub ArePair : Option (ℤ × ℤ) → Option ℤ → Option ℤ → Type 0
ArePair (Some both) start end = (start ≡ Some both.0) × (end ≡ Some both.1)
ArePair None start end = (s e : ℤ) → start ≡ Some s → end ≡ Some e → ⊥

-- out of memory
abbrev pub is_memory : Why → Bool
is_memory Memory = true
is_memory _ = false
