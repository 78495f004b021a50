-- Which elements are within the grid.
use Rattle.std.specs.Prelude.{ℕ, ℤ, pos, negsuc, ◌-◌, ◌^◌, ◌+ℤ◌, Bool, true, ◌&&◌, nat_le, not}
use Rattle.std.specs.Prelude.{int_lt}
use Rattle.std.specs.List.{list_all}
use Rattle.oas_ring.specs.declared.point.Point.{Point}
use Rattle.oas_elements.specs.declared.element.Element.{Element}
use Rattle.oas_elements.specs.declared.element.Element.TheVariants.{Placement, Text, Rectangle, Polygon, Path, Circle}

-- from -2^60 to 2^60
abbrev pub is_coordinate : ℤ → Bool
is_coordinate x = not (int_lt x (negsuc (2 ^ 60 - 1))) && not (int_lt (pos (2 ^ 60)) x)

-- a side from x on ends within the grid
abbrev pub reaches : ℤ → ℕ → Bool
reaches x side = is_coordinate x && is_coordinate (x +ℤ pos side)

-- both parts are coordinates
abbrev pub is_grid_point : Point → Bool
is_grid_point p = is_coordinate p.x && is_coordinate p.y

-- the points of a polygon or a path are within the grid
abbrev pub points_fit : Element → Bool
points_fit (Polygon layer datatype points) = list_all is_grid_point points
points_fit (Path layer datatype half_width start end points) = list_all is_grid_point points
points_fit _ = true

-- positions, points, far corners and extensions are coordinates, and half-widths and radii at most 2^60
abbrev pub fits_grid : Element → Bool
fits_grid (Placement cell x y turns flip) = is_coordinate x && is_coordinate y
fits_grid (Text string textlayer texttype x y) = is_coordinate x && is_coordinate y
fits_grid (Rectangle layer datatype width height x y) = reaches x width && reaches y height
fits_grid (Polygon layer datatype points) = list_all is_grid_point points
fits_grid (Path layer datatype half_width start end points) = nat_le half_width (2 ^ 60) && (is_coordinate start && (is_coordinate end && list_all is_grid_point points))
fits_grid (Circle layer datatype radius x y) = nat_le radius (2 ^ 60) && (is_coordinate x && is_coordinate y)
