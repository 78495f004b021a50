-- coordinates on the grid
use Rattle.std.proofs.Common.{◌≡◌, Bool, true, false, refl, arith}
use Rattle.std.proofs.lemmas.Int.{ints}
use Rattle.std.specs.Prelude.{ℤ, ◌^◌, ◌&&◌}
use Rattle.oas_ring.specs.declared.point.Point.{Point}
use Rattle.oas_shape.specs.Steps.{IsBounded, IsInRange}
use Rattle.oas_elements.specs.Grid.{is_coordinate, is_grid_point}

near : (x : ℤ) → is_coordinate x ≡ true → IsBounded (2 ^ 60) x
near x h = grind (arith, ints)

pub both : (a b : Bool) → (a && b) ≡ true → (a ≡ true) × (b ≡ true)
both true b h = (refl, h)
both false b h = cc

pub x_near : (x y : ℤ) → (is_coordinate x && is_coordinate y) ≡ true → IsBounded (2 ^ 60) x
x_near x y h = near x (both (is_coordinate x) (is_coordinate y) h).0

pub y_near : (x y : ℤ) → (is_coordinate x && is_coordinate y) ≡ true → IsBounded (2 ^ 60) y
y_near x y h = near y (both (is_coordinate x) (is_coordinate y) h).1

pub in_range : (p : Point) → is_grid_point p ≡ true → IsInRange p
in_range p h = record { x = x_near p.x p.y h; y = y_near p.x p.y h }
