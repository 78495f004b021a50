-- Whether vertices are within the limits.
use Rattle.std.proofs.Common.{◌≡◌, ℕ, ◌+◌, ◌<◌, ◌≤◌, Bool, true, false, IsTrue, ◌↔◌, List, ◌++◌, ◌∷◌, [], length, get_or, refl, sym, subst}
use Rattle.std.proofs.lemmas.List.{append-nil}
use Rattle.std.specs.List.{AllByRecursion}
use Rattle.oas_num.specs.declared.deltas.GDelta.{GDelta}
use Rattle.oas_ring.specs.declared.point.Point.{Point}
use Rattle.oas_shape.specs.Steps.{moved, IsInRange}
use Rattle.oas_shape.specs.declared.point_list.Closing.{Closing}
use Rattle.oas_shape.specs.declared.point_list.Closing.TheVariants.{Listed, FirstX, FirstY}
use Rattle.oas_shape.specs.Polylines.{Polyline, next_step, listed_vertices, last_after, left_out, vertices_of}
use Rattle.oas_shape.proofs.SumLemmas.{at_front, all_more}
use Rattle.oas_shape.proofs.VertexLemmas.{Walked, walked_more, walked_past, walked_all, last_near}

-- the walk has come to this vertex
abbrev pub Stays : Bool → List GDelta → Point → Point → GDelta → ℕ → Type 0
Stays running deltas at last by index = (points : List Point) × Walked running deltas at points last by index

-- the answer is right
abbrev pub Answers : Bool → List Point → Type 0
Answers answer points = IsTrue answer ↔ AllByRecursion IsInRange points

module _ {running : Bool} {deltas : List GDelta} {at : Point} {last : Point} {by : GDelta} {index : ℕ} (w : Stays running deltas at last by index) where
  -- one more vertex
  pub stays_more : (d next_by : GDelta) (next : Point) → index < length deltas → next_by ≡ next_step running by (get_or deltas index d) → IsInRange (moved last next_by) → next ≡ moved last next_by
      → Stays running deltas at next next_by (index + 1)
  stays_more d next_by next lt same near e = (w.0 ++ next ∷ [], walked_more w.1 d next_by next lt same near e)

  -- a vertex that exceeds the limits
  pub stays_past : (d next_by : GDelta) → index < length deltas → next_by ≡ next_step running by (get_or deltas index d)
      → ¬ IsInRange (moved last next_by) → Answers false (listed_vertices running deltas at)
  stays_past d next_by lt same past = ((λ h. cc), λ all. absurd (walked_past w.1 d next_by lt same past all))

  -- no delta is left
  pub stays_all : length deltas ≤ index → Answers true (listed_vertices running deltas at)
  stays_all le = ((λ h. subst (AllByRecursion IsInRange) (walked_all w.1 le) w.1.near), λ all. refl)

-- a vertex that is left out has its coordinates from the first and the last
all_left_out : (closing : Closing) (first last : Point) (points : List Point) → IsInRange first → IsInRange last → AllByRecursion IsInRange points → AllByRecursion IsInRange (points ++ left_out closing first last)
all_left_out Listed first last points p q all = subst (AllByRecursion IsInRange) (sym (append-nil points)) all
all_left_out FirstX first last points p q all = all_more IsInRange points (record { x = first.x; y = last.y }) all (record { x = p.x; y = q.y })
all_left_out FirstY first last points p q all = all_more IsInRange points (record { x = last.x; y = first.y }) all (record { x = q.x; y = p.y })

-- all vertices are within the limits where the listed ones are
pub answers_whole : (line made : Polyline) (at : Point) (answer running : Bool) (deltas : List GDelta) → made ≡ line → deltas ≡ made.deltas → made.running ≡ running → IsInRange at
    → Answers answer (listed_vertices running deltas at) → Answers answer (vertices_of line at)
answers_whole line made at answer running deltas e f r near a =
    let listed = listed_vertices made.running made.deltas at in
    let b : Answers answer listed =
    subst (λ (ds : List GDelta). Answers answer (listed_vertices made.running ds at)) f
    (subst (λ (b : Bool). Answers answer (listed_vertices b deltas at)) (sym r) a) in
    subst (λ (l : Polyline). Answers answer (vertices_of l at)) e (
      (λ yes. let all = b.0 yes in all_left_out made.closing at (last_after at listed) listed near (last_near at listed near all) all),
      (λ all. b.1 (at_front IsInRange listed (left_out made.closing at (last_after at listed)) all)),
    )
