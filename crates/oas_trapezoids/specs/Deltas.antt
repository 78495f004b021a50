-- What a TRAPEZOID draws (SEMI P39, TRAPEZOID records).
use Rattle.std.specs.Prelude.{ℕ, ℤ, pos, negsuc, suc, Bool, Option, List, if◌then◌else◌}
use Rattle.oas_trapezoids.specs.declared.corners.Corner.{Corner}
use Rattle.oas_trapezoids.specs.declared.corners.Lean.{Lean}
use Rattle.oas_trapezoids.specs.Corners.{plus, minus, level_drawn, upright_drawn}

abbrev pub lean_of : ℤ → Lean
lean_of (pos n) = plus n
lean_of (negsuc n) = minus (suc n)

-- delta-a is upper left x less lower left x, delta-b upper right x less lower right x; of an upright one delta-a is left lower y
-- less right lower y, delta-b left upper y less right upper y
abbrev pub trapezoid : Bool → ℕ → ℕ → ℤ → ℤ → Option (List Corner)
trapezoid is_upright w h a b =
    if is_upright then upright_drawn w h (lean_of a) (lean_of b)
    else level_drawn w h (lean_of a) (lean_of b)
