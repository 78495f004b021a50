-- Points of a list, and the order on points and on lists of points.
use Rattle.std.specs.Prelude.{ℕ, pos, List, slice_index_or}
use Rattle.std.specs.Ordering.{int_cmp, ordering_then}
use Rattle.std.specs.Cmp.Lexicographic.{slice_cmp}
use Rattle.std.specs.declared.cmp.Ordering.{Ordering}
use Rattle.oas_ring.specs.declared.point.Point.{Point}

-- the point where both axes are 0
abbrev pub origin : Point
origin = record { x = pos 0; y = pos 0 }

-- the point at a place of a list, or the origin past its end
abbrev pub point_at : List Point → ℕ → Point
point_at p i = slice_index_or p i origin

-- by x, and then by y
abbrev pub point_cmp : Point → Point → Ordering
point_cmp a b = ordering_then (int_cmp a.x b.x) (int_cmp a.y b.y)

-- lists of points, point by point, a proper prefix first
abbrev pub list_cmp : List Point → List Point → Ordering
list_cmp = slice_cmp point_cmp
