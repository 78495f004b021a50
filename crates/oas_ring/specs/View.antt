-- What is seen of a ring that counts its comparisons.
use Rattle.std.specs.Prelude.{ℕ, List}
use Rattle.oas_ring.specs.declared.point.Point.{Point}

-- the points, and how many comparisons were made of them
pub record Counted : Type 0 where
  pub points : List Point
  pub steps : ℕ
