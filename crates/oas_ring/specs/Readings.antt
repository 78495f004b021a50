-- Readings of a ring, and the least of them.
use Rattle.std.specs.Prelude.{◌≢◌, ◌-◌, Bool, List, [], ◌∷◌, ◌++◌, length, reverse, if◌then◌else◌}
use Rattle.std.specs.List.{list_any}
use Rattle.std.specs.Ordering.{eq_by_cmp, is_lt}
use Rattle.std.specs.declared.cmp.Ordering.TheVariants.{Less}
use Rattle.oas_ring.specs.declared.point.Point.{Point}
use Rattle.oas_ring.specs.declared.readings.Reading.{Reading}
use Rattle.oas_ring.specs.Points.{list_cmp}
use Rattle.oas_ring.specs.Rings.{rotation, SameRing}

-- the list in its order or against it
abbrev pub directed : Bool → List Point → List Point
directed backwards p = if backwards then reverse p else p

-- the points of p from `start` on, round p in its order, or against it where `backwards`
abbrev pub reading_of : List Point → Reading → List Point
reading_of p r = if r.backwards then rotation (length p - 1 - r.start) (reverse p) else rotation r.start p

-- no rotation of p and none of p reversed is below p
abbrev pub IsLeastReading : List Point → Type 0
IsLeastReading p = (q : List Point) → SameRing p q → list_cmp q p ≢ Less

-- a is a least reading of the ring p
pub record IsLeastReadingOf (p a : List Point) : Type 0 where
  pub same : SameRing p a
  pub least : IsLeastReading a

-- the rotations of front ++ back that begin in back, in order, and last the one that begins after it
abbrev pub rotations_from : List Point → List Point → List (List Point)
rotations_from front [] = front ∷ []
rotations_from front (x ∷ back) = (x ∷ back ++ front) ∷ rotations_from (front ++ x ∷ []) back

-- each rotation of p and of p reversed
abbrev pub readings : List Point → List (List Point)
readings p = rotations_from [] p ++ rotations_from [] (reverse p)

-- whether a list is among others
abbrev pub is_among : List Point → List (List Point) → Bool
is_among q = list_any (eq_by_cmp list_cmp q)

-- whether q is among the readings of p: the test of `SameRing`
abbrev pub is_same_ring : List Point → List Point → Bool
is_same_ring p q = is_among q (readings p)

-- the lesser of two lists
abbrev pub lesser : List Point → List Point → List Point
lesser p q = if is_lt (list_cmp q p) then q else p

-- the least of p and the others
abbrev pub least_among : List Point → List (List Point) → List Point
least_among p [] = p
least_among p (q ∷ qs) = least_among (lesser p q) qs

-- the least reading of p
abbrev pub least_of : List Point → List Point
least_of p = least_among p (readings p)
