-- Sums of steps.
use Rattle.std.specs.Prelude.{ℕ, ℤ, pos, neg_ℤ, ◌+ℤ◌, ◌*ℤ◌, ◌≤ℤ◌, ◌^◌, List, [], ◌∷◌}
use Rattle.oas_num.specs.declared.deltas.GDelta.{GDelta}
use Rattle.oas_num.specs.Deltas.{step}
use Rattle.oas_ring.specs.declared.point.Point.{Point}

-- no step
abbrev pub still : GDelta
still = step (pos 0) (pos 0)

-- one step and another
abbrev pub added : GDelta → GDelta → GDelta
added d e = step (d.dx +ℤ e.dx) (d.dy +ℤ e.dy)

-- a step this many times
abbrev pub times : ℕ → GDelta → GDelta
times n d = step (pos n *ℤ d.dx) (pos n *ℤ d.dy)

-- the sums of the first step, of the first two, and so on, added to what was before
abbrev pub sums_after : GDelta → List GDelta → List GDelta
sums_after before [] = []
sums_after before (d ∷ ds) = added before d ∷ sums_after (added before d) ds

-- the sums of the first 0, 1, 2 and so on of the steps
abbrev pub sums : List GDelta → List GDelta
sums ds = still ∷ sums_after still ds

-- a point moved by a step
abbrev pub moved : Point → GDelta → Point
moved p d = record { x = p.x +ℤ d.dx; y = p.y +ℤ d.dy }

-- at most this far from 0
abbrev pub IsBounded : ℕ → ℤ → Type 0
IsBounded far z = (neg_ℤ (pos far) ≤ℤ z) × (z ≤ℤ pos far)

-- a point within the limits of coordinates
pub record IsInRange (p : Point) : Type 0 where
  pub x : IsBounded (2 ^ 60) p.x
  pub y : IsBounded (2 ^ 60) p.y

-- a sum of displacements that a repetition may have
pub record IsPartialSum (d : GDelta) : Type 0 where
  pub x : IsBounded (2 ^ 62) d.dx
  pub y : IsBounded (2 ^ 62) d.dy
