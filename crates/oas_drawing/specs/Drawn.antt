-- Elements as records give them: their order, their weight, and whether they are within the grid.
use Rattle.std.specs.Prelude.{ℕ, ◌&&◌, Bool, true, false}
use Rattle.std.specs.Ordering.{nat_cmp, int_cmp, bool_cmp}
use Rattle.std.specs.declared.cmp.Ordering.{Ordering}
use Rattle.oas_elements.specs.Element.{element_cmp, turn_count, ◌then◌}
use Rattle.oas_elements.specs.Weight.{weight_of, lacks_points}
use Rattle.oas_elements.specs.Grid.{is_coordinate, points_fit, fits_grid}
use Rattle.oas_drawing.specs.declared.drawn.Drawn.{Drawn}
use Rattle.oas_drawing.specs.declared.drawn.Drawn.TheVariants.{Named, PlacementBy, TextBy}

-- the rank of a kind
abbrev pub drawn_kind : Drawn → ℕ
drawn_kind (Named e) = 0
drawn_kind (PlacementBy number x y turns flip) = 1
drawn_kind (TextBy number textlayer texttype x y) = 2

-- by kind, then by the fields in order
abbrev pub drawn_cmp : Drawn → Drawn → Ordering
drawn_cmp (Named e) (Named f) = element_cmp e f
drawn_cmp (PlacementBy number x y turns flip) (PlacementBy number' x' y' turns' flip') =
    nat_cmp number number' then int_cmp x x' then int_cmp y y' then nat_cmp (turn_count turns) (turn_count turns') then bool_cmp flip flip'
drawn_cmp (TextBy number textlayer texttype x y) (TextBy number' textlayer' texttype' x' y') =
    nat_cmp number number' then nat_cmp textlayer textlayer' then nat_cmp texttype texttype' then int_cmp x x' then int_cmp y y'
drawn_cmp a b = nat_cmp (drawn_kind a) (drawn_kind b)

-- its weight as long as numbers have no names: one, its points, and the bytes of an inline string
abbrev pub weight_so_far : Drawn → ℕ
weight_so_far (Named e) = weight_of e
weight_so_far (PlacementBy number x y turns flip) = 1
weight_so_far (TextBy number textlayer texttype x y) = 1

-- whether its points, if it has any, are within the grid
abbrev pub drawn_points_fit : Drawn → Bool
drawn_points_fit (Named e) = points_fit e
drawn_points_fit d = true

-- whether it is within the grid, whatever its number means
abbrev pub drawn_fits : Drawn → Bool
drawn_fits (Named e) = fits_grid e
drawn_fits (PlacementBy number x y turns flip) = is_coordinate x && is_coordinate y
drawn_fits (TextBy number textlayer texttype x y) = is_coordinate x && is_coordinate y

-- fewer points than its kind needs
abbrev pub drawn_lacks_points : Drawn → Bool
drawn_lacks_points (Named e) = lacks_points e
drawn_lacks_points d = false
