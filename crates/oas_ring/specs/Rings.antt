-- Rings: lists of points, where neither the start nor the direction matters.
use Rattle.std.specs.Prelude.{◌≡◌, ◌⊎◌, ℕ, List, ◌++◌, take, drop, reverse}
use Rattle.oas_ring.specs.declared.point.Point.{Point}

-- the list from place k on, and then what comes before k
abbrev pub rotation : ℕ → List Point → List Point
rotation k p = drop k p ++ take k p

-- q is a rotation of p
abbrev pub IsRotation : List Point → List Point → Type 0
IsRotation p q = (k : ℕ) × (q ≡ rotation k p)

-- q is a rotation of p or of p reversed
abbrev pub SameRing : List Point → List Point → Type 0
SameRing p q = IsRotation p q ⊎ IsRotation (reverse p) q
