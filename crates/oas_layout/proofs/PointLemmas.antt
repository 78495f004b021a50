-- What a step of reading points leaves.
use Rattle.std.proofs.Common.{◌≡◌, List, [], ◌∷◌, Option, None, Some, sym, ap, ◌∙◌}
use Rattle.std.specs.Map.Iter.{TakesFirst}
use Rattle.oas_ring.specs.declared.point.Point.{Point}
use Rattle.oas_cells.specs.SpelledPoints.{SpelledPoints}
use Rattle.oas_cells.specs.Reading.{YieldsPoint}
use Rattle.oas_layout.specs.Held.{HeldPoints, points_held}
use Rattle.oas_layout.specs.Laws.PointsLaws.{points_is}

-- the points that are left, whatever was taken
pub left_points : (r : Option Point) (ps : List Point) (new : SpelledPoints) → YieldsPoint r ps new → HeldPoints new
left_points None ps new g = ([], g.1)
left_points (Some p) ps new g = (g.0, g.3)

-- and what was taken is the first
pub takes_point : (r : Option Point) (ps now : List Point) (new : SpelledPoints) → ps ≡ now → YieldsPoint r ps new → (h : HeldPoints new) → TakesFirst (λ (p : Point). p) now r (points_held h)
takes_point None ps now new e g h = (sym e ∙ g.0, points_is h [] g.1)
takes_point (Some p) ps now new e g h = sym e ∙ g.1 ∙ ap (λ (qs : List Point). p ∷ qs) (sym (points_is h g.0 g.3))
