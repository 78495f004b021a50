-- Why an element record is refused. m are the variables after it.
use Rattle.std.specs.Prelude.{◌≡◌, ℕ, ◌+◌, ◌*◌, ◌&&◌, nat_lt, not, Bool, true, false, cond, is_none, Option, None, Some, List, [], ◌∷◌}
use Rattle.std.specs.List.{list_all}
use Rattle.std.specs.Option.{option_or}
use Rattle.oas_num.specs.declared.refusals.Why.{Why}
use Rattle.oas_num.specs.declared.refusals.Why.TheVariants.{ModalUndefined, Magnification, Angle, TooManyElements, TooHeavy, PointCount, CoordinateRange}
use Rattle.oas_shape.specs.Steps.{still}
use Rattle.oas_record.specs.declared.placements.Turn.TheVariants.{Degrees}
use Rattle.oas_record.specs.declared.records.Record.{Record}
use Rattle.oas_elements.specs.declared.element.Element.TheVariants as element
use Rattle.oas_elements.specs.declared.limits.Limits.{Limits}
use Rattle.oas_elements.specs.Weight.{lacks_points}
use Rattle.oas_elements.specs.Grid.{is_coordinate}
use Rattle.oas_drawing.specs.declared.drawn.Drawn.{Drawn}
use Rattle.oas_drawing.specs.declared.drawn.Drawn.TheVariants.{Named}
use Rattle.oas_drawing.specs.declared.kinds.Kind.{Kind}
use Rattle.oas_drawing.specs.declared.kinds.Kind.TheVariants.{Placement}
use Rattle.oas_drawing.specs.declared.positions.Position.{Position}
use Rattle.oas_drawing.specs.Modal.{ModalState}
use Rattle.oas_drawing.specs.Turns.{is_one, is_quarters}
use Rattle.oas_drawing.specs.Drawn.{weight_so_far, drawn_fits}
use Rattle.oas_drawing.specs.Drawing.{kind_of, repeats, place_of, drawn_by, number_if, lacks_repetition, offsets_if}

-- the first reason whose condition holds
abbrev pub first_of : List (Bool × Why) → Option Why
first_of [] = None
first_of (c ∷ cs) = cond c.0 (Some c.1) (first_of cs)

-- the magnification isn't 1
abbrev pub is_magnified : Kind → Bool
is_magnified (Placement (Degrees magnification angle) flip) = not (is_one magnification)
is_magnified _ = false

-- the angle is no whole multiple of 90 degrees
abbrev pub is_askew : Kind → Bool
is_askew (Placement (Degrees magnification angle) flip) = not (is_quarters angle)
is_askew _ = false

-- the weight of each copy
abbrev pub weight_if : Option Drawn → ℕ
weight_if None = 0
weight_if (Some d) = weight_so_far d

-- a polygon with fewer than three points (own rule)
abbrev pub lacks_if : Option Drawn → Bool
lacks_if (Some (Named e)) = lacks_points e
lacks_if _ = false

-- a position is within the grid, like copy 0, which is there
abbrev pub is_on_grid : Position → Bool
is_on_grid at = is_coordinate at.x && is_coordinate at.y

-- an element is within the grid, whatever its number means
abbrev pub fits_if : Option Drawn → Bool
fits_if None = true
fits_if (Some d) = drawn_fits d

-- why an element isn't drawn
abbrev pub fault_of : Option Drawn → Option Why
fault_of o = first_of ((is_none o, ModalUndefined) ∷ (not (fits_if o), CoordinateRange) ∷ [])

-- Where memory may run out for an element: only where each variable that it needs is defined; for a placement or a text only
-- where it is within the grid; and for a rectangle or a circle never.
abbrev pub MayRunOut : Option Drawn → Type 0
MayRunOut (Some (Named (element.Rectangle layer datatype width height x y))) = ⊥
MayRunOut (Some (Named (element.Circle layer datatype radius x y))) = ⊥
MayRunOut (Some (Named (element.Polygon layer datatype points))) = Unit {0}
MayRunOut (Some (Named (element.Path layer datatype half_width start end points))) = Unit {0}
MayRunOut o = fault_of o ≡ None

-- why a record is refused whatever its offsets, where this many elements with this weight come before it
abbrev pub kind_reason : Limits → ℕ → ℕ → ModalState → Kind → Bool → Option Why
kind_reason limits count weight m kind repeated =
    first_of (
    (is_none (drawn_by m kind still), ModalUndefined) ∷
    (lacks_repetition repeated m.repetition, ModalUndefined) ∷
    (is_magnified kind, Magnification) ∷
    (is_askew kind, Angle) ∷
    (nat_lt limits.elements (count + number_if repeated m.repetition), TooManyElements) ∷
    (nat_lt limits.weight (weight + number_if repeated m.repetition * weight_if (drawn_by m kind still)), TooHeavy) ∷
    (lacks_if (drawn_by m kind still), PointCount) ∷
    (not (is_on_grid (place_of m kind)), CoordinateRange) ∷ [])

-- whether each copy is within the grid
abbrev pub all_fit : ModalState → Kind → Bool → Bool
all_fit m kind repeated = list_all (λ d. fits_if (drawn_by m kind d)) (offsets_if repeated m.repetition)

-- why an element record in a cell is refused
abbrev pub reason_if : Limits → ℕ → ℕ → ModalState → Option Kind → Bool → Option Why
reason_if limits count weight m None repeated = None
reason_if limits count weight m (Some kind) repeated = option_or (kind_reason limits count weight m kind repeated) (first_of ((not (all_fit m kind repeated), CoordinateRange) ∷ []))

abbrev pub draw_reason : Limits → ℕ → ℕ → ModalState → Record → Option Why
draw_reason limits count weight m r = reason_if limits count weight m (kind_of r) (repeats r)
