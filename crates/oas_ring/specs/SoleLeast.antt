-- The one point of a list that is below all others.
use Rattle.std.specs.Prelude.{◌≡◌, ◌≢◌, ℕ, ◌<◌, List, length}
use Rattle.std.specs.declared.cmp.Ordering.TheVariants.{Less}
use Rattle.oas_ring.specs.declared.point.Point.{Point}
use Rattle.oas_ring.specs.Points.{point_at, point_cmp}

-- the point at s is strictly below the one at each other place
pub record IsSoleLeast (p : List Point) (s : ℕ) : Type 0 where
  pub within : s < length p
  pub below : (t : ℕ) → t < length p → t ≢ s → point_cmp (point_at p s) (point_at p t) ≡ Less
