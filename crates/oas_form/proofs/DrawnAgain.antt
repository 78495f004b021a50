-- The position of a canonical record, and the vertices of its point list.
use Rattle.std.proofs.Common.{◌≡◌, Bool, true, false, List, ◌∷◌, map, refl, ap, ◌∙◌, arith, []}
use Rattle.std.proofs.lemmas.Int.{ints}
use Rattle.std.proofs.lemmas.List.{append-nil}
use Rattle.std.specs.Prelude.{ℤ, pos, ◌+ℤ◌, ◌-ℤ◌}
use Rattle.oas_num.specs.declared.deltas.GDelta.{GDelta}
use Rattle.oas_num.specs.Deltas.{step}
use Rattle.oas_ring.specs.declared.point.Point.{Point}
use Rattle.oas_shape.specs.Steps.{still, added, sums_after, moved}
use Rattle.oas_shape.specs.Polylines.{vertices_of}
use Rattle.oas_file.specs.Position.{Position}
use Rattle.oas_file.specs.Modal.{moved_by}
use Rattle.oas_file.specs.Drawing.{point_from}
use Rattle.oas_form.specs.Records.{spot_at, line_of, steps_from}

-- ---- the vertices of a list

-- the vertices after the first: from a displacement from the start, in steps to each of them
vertices_from : (start from : Point) (before : GDelta) (ps : List Point) → moved start before ≡ from → map (moved start) (sums_after before (steps_from from ps)) ≡ ps
vertices_from start from before [] e = refl
vertices_from start from before (q ∷ qs) e =
    let there : moved start (added before (step (q.x -ℤ from.x) (q.y -ℤ from.y))) ≡ q = reached start.x from.x before.dx q.x (ap (λ (p : Point). p.x) e) start.y from.y before.dy q.y
    (ap (λ (p : Point). p.y) e) in
    λ i. there i ∷ vertices_from start q (added before (step (q.x -ℤ from.x) (q.y -ℤ from.y))) qs there i where
      along : (start from before to : ℤ) → start +ℤ before ≡ from → start +ℤ (before +ℤ (to -ℤ from)) ≡ to
      along start from before to e = omega (arith, ints, e)

      reached : (start from before to : ℤ) → start +ℤ before ≡ from → (start' from' before' to' : ℤ) → start' +ℤ before' ≡ from'
          → ◌≡◌ {A = Point} (record { x = start +ℤ (before +ℤ (to -ℤ from)); y = start' +ℤ (before' +ℤ (to' -ℤ from')) }) (record { x = to; y = to' })
      reached start from before to e start' from' before' to' e' = λ i. record { x = along start from before to e i; y = along start' from' before' to' e' i }

-- no step leads to the same point
stays : (p : Point) → moved p still ≡ p
stays p = λ i. record { x = same p.x i; y = same p.y i } where
  same : (x : ℤ) → x +ℤ pos 0 ≡ x
  same x = omega (arith, ints)

-- the vertices of the list of points, at the first of them, are the points
pub vertices_again : (p : Point) (ps : List Point) → vertices_of (line_of (p ∷ ps)) p ≡ p ∷ ps
vertices_again p ps =
    append-nil (moved p still ∷ map (moved p) (sums_after still (steps_from p ps)))
    ∙ (λ i. stays p i ∷ vertices_from p p still ps (stays p) i)

-- ---- its position

-- a position after absolute coordinates is where they say
pub landed : (relative : Bool) (before : Position) (p : Point) → relative ≡ false → ◌≡◌ {A = Position} (moved_by relative before (spot_at p.x p.y)) (record { x = p.x; y = p.y })
landed true before p e = absurd cc
landed false before p e = refl

-- and so is what is there
pub stands_at : (relative : Bool) (before : Position) (p : Point) → relative ≡ false → point_from (moved_by relative before (spot_at p.x p.y)) still ≡ p
stands_at relative before p e = ap (λ (at : Position). point_from at still) (landed relative before p e) ∙ stays p
