-- Walking round the corners of a box.
use Rattle.std.proofs.Common.{◌≡◌, ℕ, ◌+◌, ◌<◌, ◌≤◌, true, List, [], ◌∷◌, ◌++◌, length, get_or, drop, refl, sym, ap, ◌∙◌, append_assoc, add-one}
use Rattle.std.proofs.lemmas.List.{append-nil, drop_all}
use Rattle.std.proofs.Math.Seq.{drop-cons}
use Rattle.oas_num.specs.declared.deltas.GDelta.{GDelta}
use Rattle.oas_ring.specs.declared.point.Point.{Point}
use Rattle.oas_trapezoids.specs.declared.corners.Corner.{Corner}
use Rattle.oas_shape.specs.Steps.{IsInRange}
use Rattle.oas_elements.specs.Grid.{is_grid_point}
use Rattle.oas_trapezoids.specs.declared.places.Place.{Place}
use Rattle.oas_trapezoids.specs.Places.{point_of}
use Rattle.oas_trapezoids.specs.Shapes.{points_of, are_on_grid, step_to, steps_after}
use Rattle.oas_trapezoids.proofs.Grids.{both}

-- the steps that are made, and those that are still to be made from the last point, are all of them
pub record Stepped (place : Place) (first : Point) (corners : List Corner) (steps : List GDelta) (last : Point) (index : ℕ) : Type 0 where
  pub so_far : steps ++ steps_after last (points_of place (drop index corners)) ≡ steps_after first (points_of place corners)
  pub near : IsInRange last
  pub grid : are_on_grid place (drop index corners) ≡ true

pub stepped_none : (place : Place) (first : Point) (corners : List Corner) → IsInRange first → are_on_grid place corners ≡ true → Stepped place first corners [] first 0
stepped_none place first corners near grid = record { so_far = refl; near = near; grid = grid }

-- the corners that are still to be seen are one and others
seen : (place : Place) (corners rest : List Corner) (corner : Corner) → corners ≡ corner ∷ rest → are_on_grid place corners ≡ true → (is_grid_point (point_of place corner) ≡ true) × (are_on_grid place rest ≡ true)
seen place corners rest corner e grid =
    both (is_grid_point (point_of place corner)) (are_on_grid place rest) (ap (are_on_grid place) (sym e) ∙ grid)

walked : (place : Place) (corners rest : List Corner) (corner : Corner) (steps : List GDelta) (last : Point) → corners ≡ corner ∷ rest →
    (steps ++ step_to last (point_of place corner) ∷ []) ++ steps_after (point_of place corner) (points_of place rest) ≡ steps ++ steps_after last (points_of place corners)
walked place corners rest corner steps last e =
    append_assoc steps (step_to last (point_of place corner) ∷ []) (steps_after (point_of place corner) (points_of place rest))
    ∙ ap (λ (cs : List Corner). steps ++ steps_after last (points_of place cs)) (sym e)

module _ {place : Place} {first : Point} {corners : List Corner} {steps : List GDelta} {last : Point} {index : ℕ} (s : Stepped place first corners steps last index) where
  -- the next corner and those after it
  next : (corner : Corner) → index < length corners → drop index corners ≡ get_or corners index corner ∷ drop (index + 1) corners
  next corner below =
      drop-cons corners index corner below ∙ ap (λ (k : ℕ). get_or corners index corner ∷ drop k corners) (sym (add-one index))

  -- the next corner is on the grid
  pub next_near : (corner : Corner) → index < length corners → is_grid_point (point_of place (get_or corners index corner)) ≡ true
  next_near corner below = (seen place (drop index corners) (drop (index + 1) corners) (get_or corners index corner) (next corner below) s.grid).0

  -- one more corner
  pub stepped_more : (corner : Corner) (to : Point) → index < length corners → to ≡ point_of place (get_or corners index corner) → IsInRange to → Stepped place first corners (steps ++ step_to last to ∷ []) to (index + 1)
  stepped_more corner to below is near =
      let e = next corner below in
      record {
        so_far =
            ap (λ (p : Point). (steps ++ step_to last p ∷ []) ++ steps_after p (points_of place (drop (index + 1) corners))) is
            ∙ walked place (drop index corners) (drop (index + 1) corners) (get_or corners index corner) steps last e
            ∙ s.so_far;
        near = near;
        grid = (seen place (drop index corners) (drop (index + 1) corners) (get_or corners index corner) e s.grid).1;
      }

  -- no corner is left
  pub stepped_all : length corners ≤ index → steps ≡ steps_after first (points_of place corners)
  stepped_all le =
      sym (append-nil steps) ∙ ap (λ (cs : List Corner). steps ++ steps_after last (points_of place cs)) (sym (drop_all index corners le)) ∙ s.so_far
