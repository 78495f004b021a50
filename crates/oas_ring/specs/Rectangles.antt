-- Rings that go round a rectangle.
use Rattle.std.specs.Prelude.{◌<ℤ◌, int_lt, Bool, ◌&&◌, List, [], ◌∷◌, Option, None, Some, if◌then◌else◌}
use Rattle.std.specs.Int.{int_min, int_max}
use Rattle.oas_ring.specs.declared.point.Point.{Point}
use Rattle.oas_ring.specs.declared.rectangles.Corners.{Corners}
use Rattle.oas_ring.specs.Points.{point_at}
use Rattle.oas_ring.specs.Rings.{SameRing}
use Rattle.oas_ring.specs.Readings.{is_same_ring}

-- the four corners of a rectangle, in order round it
abbrev pub corners_of : Corners → List Point
corners_of c = c.low ∷ record { x = c.low.x; y = c.high.y } ∷ c.high ∷ record { x = c.high.x; y = c.low.y } ∷ []

-- the ring goes round the rectangle between these corners, whose sides are positive
pub record IsBox (p : List Point) (c : Corners) : Type 0 where
  pub wide : c.low.x <ℤ c.high.x
  pub tall : c.low.y <ℤ c.high.y
  pub round : SameRing p (corners_of c)

-- the least rectangle that has both points
abbrev pub corners_between : Point → Point → Corners
corners_between a b = record {
  low = record { x = int_min a.x b.x; y = int_min a.y b.y };
  high = record { x = int_max a.x b.x; y = int_max a.y b.y };
}

-- the test of `IsBox`
abbrev pub is_box : List Point → Corners → Bool
is_box p c = int_lt c.low.x c.high.x && (int_lt c.low.y c.high.y && is_same_ring p (corners_of c))

-- the rectangle that the ring goes round, if there is one
abbrev pub box_of : List Point → Option Corners
box_of p =
    let c = corners_between (point_at p 0) (point_at p 2) in
    if is_box p c then Some c else None
