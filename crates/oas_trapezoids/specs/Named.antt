-- What each of the 26 kinds of a CTRAPEZOID draws (SEMI P39, CTRAPEZOID record, ctrapezoid-type) in a box w wide and h high,
-- including the implied sides.
use Rattle.std.specs.Prelude.{ℕ, ◌*◌, ◌-◌, Bool, ◌&&◌, ◌==◌, nat_lt, nat_le, Option, List, [], ◌∷◌, if◌then◌else◌}
use Rattle.oas_trapezoids.specs.declared.corners.Corner.{Corner}
use Rattle.oas_trapezoids.specs.Corners.{corner, drawn}

-- the corners of a kind, clockwise
abbrev pub corners_of : ℕ → ℕ → ℕ → List Corner
corners_of kind w h =
    if kind == 0 then corner 0 0 ∷ corner 0 h ∷ corner (w - h) h ∷ corner w 0 ∷ []
    else if kind == 1 then corner 0 0 ∷ corner 0 h ∷ corner w h ∷ corner (w - h) 0 ∷ []
    else if kind == 2 then corner 0 0 ∷ corner h h ∷ corner w h ∷ corner w 0 ∷ []
    else if kind == 3 then corner h 0 ∷ corner 0 h ∷ corner w h ∷ corner w 0 ∷ []
    else if kind == 4 then corner 0 0 ∷ corner h h ∷ corner (w - h) h ∷ corner w 0 ∷ []
    else if kind == 5 then corner h 0 ∷ corner 0 h ∷ corner w h ∷ corner (w - h) 0 ∷ []
    else if kind == 6 then corner 0 0 ∷ corner h h ∷ corner w h ∷ corner (w - h) 0 ∷ []
    else if kind == 7 then corner h 0 ∷ corner 0 h ∷ corner (w - h) h ∷ corner w 0 ∷ []
    else if kind == 8 then corner 0 0 ∷ corner 0 h ∷ corner w (h - w) ∷ corner w 0 ∷ []
    else if kind == 9 then corner 0 0 ∷ corner 0 (h - w) ∷ corner w h ∷ corner w 0 ∷ []
    else if kind == 10 then corner 0 0 ∷ corner 0 h ∷ corner w h ∷ corner w w ∷ []
    else if kind == 11 then corner 0 w ∷ corner 0 h ∷ corner w h ∷ corner w 0 ∷ []
    else if kind == 12 then corner 0 0 ∷ corner 0 h ∷ corner w (h - w) ∷ corner w w ∷ []
    else if kind == 13 then corner 0 w ∷ corner 0 (h - w) ∷ corner w h ∷ corner w 0 ∷ []
    else if kind == 14 then corner 0 0 ∷ corner 0 (h - w) ∷ corner w h ∷ corner w w ∷ []
    else if kind == 15 then corner 0 w ∷ corner 0 h ∷ corner w (h - w) ∷ corner w 0 ∷ []
    else if kind == 16 then corner 0 0 ∷ corner 0 h ∷ corner w 0 ∷ []
    else if kind == 17 then corner 0 0 ∷ corner 0 h ∷ corner w h ∷ []
    else if kind == 18 then corner 0 0 ∷ corner w h ∷ corner w 0 ∷ []
    else if kind == 19 then corner 0 h ∷ corner w h ∷ corner w 0 ∷ []
    else if kind == 20 then corner 0 0 ∷ corner h h ∷ corner w 0 ∷ []
    else if kind == 21 then corner h 0 ∷ corner 0 h ∷ corner w h ∷ []
    else if kind == 22 then corner 0 0 ∷ corner 0 h ∷ corner w w ∷ []
    else if kind == 23 then corner 0 w ∷ corner w h ∷ corner w 0 ∷ []
    else if kind == 24 then corner 0 0 ∷ corner 0 h ∷ corner w h ∷ corner w 0 ∷ []
    else corner 0 0 ∷ corner 0 h ∷ corner w h ∷ corner w 0 ∷ []

-- whether no side crosses another, and one of the parallel sides has a length, where the box has sides
abbrev pub fits : ℕ → ℕ → ℕ → Bool
fits kind w h =
    if nat_lt kind 4 then nat_le h w
    else if nat_lt kind 6 then nat_le (2 * h) w
    else if nat_lt kind 8 then nat_lt h w
    else if nat_lt kind 12 then nat_le w h
    else if nat_lt kind 14 then nat_le (2 * w) h
    else if nat_lt kind 16 then nat_lt w h
    else nat_lt kind 26

-- whether a kind encloses an area
abbrev pub encloses : ℕ → ℕ → ℕ → Bool
encloses kind w h = fits kind w h && (nat_lt 0 w && nat_lt 0 h)

abbrev pub named : ℕ → ℕ → ℕ → Option (List Corner)
named kind w h = drawn (encloses kind w h) (corners_of kind w h)
