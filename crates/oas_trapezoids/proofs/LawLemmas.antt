-- Records of the profile alone, and the vertices of corners.
use Rattle.std.proofs.Common.{◌≡◌, Bool, true, false, List, [], ◌∷◌, map, refl, ap, ◌∙◌, arith}
use Rattle.std.proofs.lemmas.Int.{ints}
use Rattle.std.proofs.lemmas.List.{append-nil}
use Rattle.std.specs.Prelude.{ℤ, pos, ◌+ℤ◌, ◌-ℤ◌, if◌then◌else◌, cond, Result, Ok}
use Rattle.oas_num.specs.declared.deltas.GDelta.{GDelta}
use Rattle.oas_ring.specs.declared.point.Point.{Point}
use Rattle.oas_shape.specs.Steps.{still, added, sums_after, moved}
use Rattle.oas_shape.specs.PointLists.{plain_line}
use Rattle.oas_shape.specs.Polylines.{vertices_of, listed_vertices}
use Rattle.oas_record.specs.declared.records.Record.{Record}
use Rattle.oas_standard.specs.declared.records.WideRecord.TheVariants.{Profile}
use Rattle.oas_standard.specs.declared.reasons.WideWhy.{WideWhy}
use Rattle.oas_drawing.specs.Looking.{is_cell}
use Rattle.oas_drawing.specs.GivenFields.{GivenFields, given_fields}
use Rattle.oas_trapezoids.specs.Tracked.{Tracked, fresh, tracked_by, tracked}
use Rattle.oas_trapezoids.specs.Kept.{given, given_mixed}
use Rattle.oas_trapezoids.specs.Shapes.{step_to, steps_after, steps_of}
use Rattle.oas_trapezoids.specs.Laws.{joined, handed_all}

-- ---- records of the profile

plain_by : (s : Tracked) (cell : Bool) (g : GivenFields) → s.is_mixed ≡ false → (cond cell fresh (tracked_by s g)).is_mixed ≡ false
plain_by s true g h = refl
plain_by s false g h = h

pub tracked_plain : (s : Tracked) (r : Record) → s.is_mixed ≡ false → (tracked s r).is_mixed ≡ false
tracked_plain s r h = plain_by s (is_cell r) (given_fields r) h

pub given_plain : (s : Tracked) (r : Record) → s.is_mixed ≡ false → given s r ≡ Ok (r ∷ [])
given_plain s r h = ap (λ (b : Bool). if b then given_mixed s r else Ok (r ∷ [])) h

pub all_plain : (s : Tracked) (rs : List Record) → s.is_mixed ≡ false → handed_all s (map (λ (r : Record). Profile r) rs) ≡ Ok rs
all_plain s [] h = refl
all_plain s (r ∷ rs) h =
    let plain = tracked_plain s r h in
    ap (λ (x : Result (List Record) WideWhy). joined x (handed_all (tracked s r) (map (λ (q : Record). Profile q) rs))) (given_plain (tracked s r) r plain)
    ∙ ap (joined (Ok (r ∷ []))) (all_plain (tracked s r) rs plain)

-- ---- vertices

coordinate_to : (a b p q : ℤ) → a +ℤ b ≡ p → a +ℤ (b +ℤ (q -ℤ p)) ≡ q
coordinate_to a b p q e = omega (arith, ints)

moved_to : (at p q : Point) (before : GDelta) → moved at before ≡ p → moved at (added before (step_to p q)) ≡ q
moved_to at p q before e =
    let x = coordinate_to at.x before.dx p.x q.x (ap (λ (r : Point). r.x) e) in
    let y = coordinate_to at.y before.dy p.y q.y (ap (λ (r : Point). r.y) e) in
    ap (λ (x : ℤ). record { x = x; y = at.y +ℤ (before.dy +ℤ (q.y -ℤ p.y)) }) x ∙ ap (λ (y : ℤ). record { x = q.x; y = y }) y

walked : (at p : Point) (before : GDelta) (qs : List Point) → moved at before ≡ p → map (moved at) (sums_after before (steps_after p qs)) ≡ qs
walked at p before [] e = refl
walked at p before (q ∷ qs) e =
    let there = moved_to at p q before e in
    ap (λ (r : Point). r ∷ map (moved at) (sums_after (added before (step_to p q)) (steps_after q qs))) there
    ∙ ap (λ (rest : List Point). q ∷ rest) (walked at q (added before (step_to p q)) qs there)

plus_zero : (x : ℤ) → x +ℤ pos 0 ≡ x
plus_zero x = omega (arith, ints)

not_moved : (at : Point) → moved at still ≡ at
not_moved at = ap (λ (x : ℤ). record { x = x; y = at.y +ℤ pos 0 }) (plus_zero at.x) ∙ ap (λ (y : ℤ). record { x = at.x; y = y }) (plus_zero at.y)

pub vertices : (p : Point) (ps : List Point) → vertices_of (plain_line (steps_of (p ∷ ps))) p ≡ p ∷ ps
vertices p ps =
    append-nil (listed_vertices false (steps_after p ps) p)
    ∙ ap (λ (r : Point). r ∷ map (moved p) (sums_after still (steps_after p ps))) (not_moved p)
    ∙ ap (λ (rest : List Point). p ∷ rest) (walked p p still ps (not_moved p))
