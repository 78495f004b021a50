-- Two candidates for the least rotation of a list.
use Rattle.std.specs.Prelude.{◌≡◌, ◌≢◌, ℕ, ◌<◌, List, length, take}
use Rattle.std.specs.declared.cmp.Ordering.{Ordering}
use Rattle.std.specs.declared.cmp.Ordering.TheVariants.{Less}
use Rattle.oas_ring.specs.declared.point.Point.{Point}
use Rattle.oas_ring.specs.declared.race.Race.{Race}
use Rattle.oas_ring.specs.Points.{point_at, point_cmp, list_cmp}
use Rattle.oas_ring.specs.Rings.{rotation, IsRotation}

-- some rotation is below the one from s
abbrev pub IsBeaten : List Point → ℕ → Type 0
IsBeaten q s = (w : List Point) × IsRotation q w × (list_cmp w (rotation s q) ≡ Less)

-- The two candidates agree in `agreed` points, and each other start below the rival is beaten.
pub record IsRace (q : List Point) (race : Race) : Type 0 where
  pub ahead : race.best < race.rival
  pub within : race.best < length q
  pub agree : take race.agreed (rotation race.best q) ≡ take race.agreed (rotation race.rival q)
  pub beaten : (s : ℕ) → s < race.rival → s < length q → s ≢ race.best → IsBeaten q s

-- how the points after those in which the candidates agree compare
abbrev pub next_order : List Point → Race → Ordering
next_order q race = point_cmp (point_at (rotation race.best q) race.agreed) (point_at (rotation race.rival q) race.agreed)

-- no rotation is below the one from s
abbrev pub IsLeastTurn : List Point → ℕ → Type 0
IsLeastTurn q s = (t : ℕ) → t < length q → list_cmp (rotation t q) (rotation s q) ≢ Less
