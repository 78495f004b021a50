-- a rectangle without a repetition
use Rattle.std.proofs.Common.{◌≡◌, ℕ, ap, ◌∙◌, Bool, true, false}
use Rattle.std.specs.Prelude.{Option, None, Some, [], ◌∷◌, ◌&&◌, not}
use Rattle.oas_num.specs.declared.refusals.Why.TheVariants.{CoordinateRange}
use Rattle.oas_shape.specs.Steps.{still}
use Rattle.oas_elements.specs.declared.limits.Limits.{Limits}
use Rattle.oas_elements.specs.Grid.{is_coordinate}
use Rattle.oas_drawing.specs.declared.drawn.Drawn.{Drawn}
use Rattle.oas_drawing.specs.declared.kinds.Kind.TheVariants.{Rectangle}
use Rattle.oas_drawing.specs.declared.positions.Position.{Position}
use Rattle.oas_drawing.specs.Positions.{IsNear}
use Rattle.oas_drawing.specs.Modal.{ModalState}
use Rattle.oas_drawing.specs.Drawn.{drawn_fits}
use Rattle.oas_drawing.specs.Drawing.{drawn_by}
use Rattle.oas_drawing.specs.Reasons.{first_of, fits_if, kind_reason, all_fit, reason_if}
use Rattle.oas_drawing.proofs.Grids.{on_grid}
use Rattle.oas_drawing.proofs.Copies.{last_reason}

both : (a b : Bool) → a ≡ true → b ≡ true → (a && b) ≡ true
both true b e f = f
both false b e f = cc

-- a position whose coordinates are on the grid is within the limits
pub near_both : (at : Position) → is_coordinate at.x ≡ true → is_coordinate at.y ≡ true → IsNear at
near_both at h k = on_grid at (both (is_coordinate at.x) (is_coordinate at.y) h k)

one_fits : (o : Option Drawn) (d : Drawn) → o ≡ Some d → drawn_fits d ≡ false → (fits_if o && true) ≡ false
one_fits None d e h = cc
one_fits (Some c) d e h = cc

-- it is refused where it reaches past the grid
pub past_grid : (limits : Limits) (count weight : ℕ) (m : ModalState) (d : Drawn) → kind_reason limits count weight m Rectangle false ≡ None → drawn_by m Rectangle still ≡ Some d
    → drawn_fits d ≡ false → reason_if limits count weight m (Some Rectangle) false ≡ Some CoordinateRange
past_grid limits count weight m d none is off =
    last_reason _ (all_fit m Rectangle false) none ∙ ap (λ (b : Bool). first_of ((not b, CoordinateRange) ∷ [])) (one_fits (drawn_by m Rectangle still) d is off)
