-- Walking from one vertex to the next.
use Rattle.std.proofs.Common.{◌≡◌, ℕ, ℤ, suc, ◌+◌, ◌-◌, ◌<◌, ◌≤◌, ◌^◌, Bool, true, false, List, [], ◌∷◌, ◌++◌, map, length, get_or, drop, refl, sym, ap, subst, ◌∙◌, append_assoc, add-one, arith}
use Rattle.std.specs.Prelude.{◌+ℤ◌}
use Rattle.std.specs.List.{AllByRecursion}
use Rattle.std.proofs.lemmas.Int.{ints}
use Rattle.std.proofs.lemmas.List.{append-nil, drop_all, length-append}
use Rattle.std.proofs.Math.Seq.{drop-cons}
use Rattle.oas_num.specs.declared.deltas.GDelta.{GDelta}
use Rattle.oas_num.specs.Deltas.{step}
use Rattle.oas_ring.specs.declared.point.Point.{Point}
use Rattle.oas_shape.specs.Steps.{still, added, sums_after, sums, moved, IsBounded, IsInRange}
use Rattle.oas_shape.specs.declared.point_list.Closing.{Closing}
use Rattle.oas_shape.specs.declared.point_list.Closing.TheVariants.{Listed, FirstX, FirstY}
use Rattle.oas_shape.specs.Polylines.{Polyline, displacements, next_step, listed_vertices, last_after, left_out, left_out_count, vertices_of, VerticesMay}
use Rattle.oas_num.specs.declared.refusals.Why.{Why}
use Rattle.oas_num.specs.declared.refusals.Why.TheVariants.{CoordinateRange, Memory}
use Rattle.oas_shape.proofs.SumLemmas.{moved-added, moved-still, at_middle, at_front, all_more}

-- the points that the steps reach, one after another
abbrev pub points_after : Point → List GDelta → List Point
points_after p [] = []
points_after p (d ∷ ds) = moved p d ∷ points_after (moved p d) ds

-- the displacements that the deltas make, after one
abbrev pub displaced : Bool → GDelta → List GDelta → List GDelta
displaced running before [] = []
displaced running before (d ∷ ds) = next_step running before d ∷ displaced running (next_step running before d) ds

sums-points : (at : Point) (t : GDelta) (ds : List GDelta) → map (moved at) (sums_after t ds) ≡ points_after (moved at t) ds
sums-points at t [] = refl
sums-points at t (d ∷ ds) =
    ap (λ (rest : List Point). moved at (added t d) ∷ rest) (sums-points at (added t d) ds)
    ∙ ap (λ (q : Point). q ∷ points_after q ds) (sym (moved-added at t d))

displaced-running : (before : GDelta) (ds : List GDelta) → displaced true before ds ≡ sums_after before ds
displaced-running before [] = refl
displaced-running before (d ∷ ds) = ap (λ (rest : List GDelta). added before d ∷ rest) (displaced-running (added before d) ds)

displaced-plain : (before : GDelta) (ds : List GDelta) → displaced false before ds ≡ ds
displaced-plain before [] = refl
displaced-plain before (d ∷ ds) = ap (λ (rest : List GDelta). d ∷ rest) (displaced-plain d ds)

displaced-is : (running : Bool) (ds : List GDelta) → displaced running still ds ≡ displacements running ds
displaced-is true ds = displaced-running still ds
displaced-is false ds = displaced-plain still ds

-- the vertices are the position and the points after it
pub listed-points : (running : Bool) (ds : List GDelta) (at : Point) → listed_vertices running ds at ≡ at ∷ points_after at (displaced running still ds)
listed-points running ds at =
    ap (λ (steps : List GDelta). map (moved at) (sums steps)) (sym (displaced-is running ds))
    ∙ ap (λ (rest : List Point). moved at still ∷ rest) (sums-points at still (displaced running still ds))
    ∙ ap (λ (q : Point). q ∷ points_after q (displaced running still ds)) (moved-still at)

-- the walk has come to the last of these points, after this many deltas, by that displacement
pub record Walked (running : Bool) (deltas : List GDelta) (at : Point) (points : List Point) (last : Point) (by : GDelta) (index : ℕ) : Type 0 where
  pub so_far : points ++ points_after last (displaced running by (drop index deltas)) ≡ listed_vertices running deltas at
  pub near : AllByRecursion IsInRange points
  pub last_near : IsInRange last
  pub x_near : IsBounded (2 ^ 63) by.dx
  pub y_near : IsBounded (2 ^ 63) by.dy

-- at the position
pub walked_none : (running : Bool) (deltas : List GDelta) (at : Point) → IsInRange at → Walked running deltas at (at ∷ []) at still 0
walked_none running deltas at near = record {
  so_far = sym (listed-points running deltas at);
  near = (near, tt);
  last_near = near;
  x_near = (omega (arith, ints), omega (arith, ints));
  y_near = (omega (arith, ints), omega (arith, ints));
}

-- a component of a displacement from one vertex to another
step_near : (from to far : ℤ) → IsBounded (2 ^ 60) from → IsBounded (2 ^ 60) to → to ≡ from +ℤ far → IsBounded (2 ^ 63) far
step_near from to far p q e = (omega (arith, ints), omega (arith, ints))

module _ {running : Bool} {deltas : List GDelta} {at : Point} {points : List Point} {last : Point} {by : GDelta} {index : ℕ} (w : Walked running deltas at points last by index) where
  -- what is left, by the next displacement
  left : (d next_by : GDelta) → index < length deltas → next_by ≡ next_step running by (get_or deltas index d)
      → points ++ moved last next_by ∷ points_after (moved last next_by) (displaced running next_by (drop (suc index) deltas)) ≡ listed_vertices running deltas at
  left d next_by lt same =
      ap (λ (n : GDelta). points ++ moved last n ∷ points_after (moved last n) (displaced running n (drop (suc index) deltas))) same
      ∙ ap (λ (ds : List GDelta). points ++ points_after last (displaced running by ds)) (sym (drop-cons deltas index d lt))
      ∙ w.so_far

  -- one more vertex
  pub walked_more : (d next_by : GDelta) (next : Point) → index < length deltas → next_by ≡ next_step running by (get_or deltas index d) → IsInRange (moved last next_by) → next ≡ moved last next_by
      → Walked running deltas at (points ++ next ∷ []) next next_by (index + 1)
  walked_more d next_by next lt same near e =
      let there = subst IsInRange (sym e) near in
      record {
        so_far = rw (add-one, append_assoc) (subst (λ (q : Point). points ++ q
            ∷ points_after q (displaced running next_by (drop (suc index) deltas)) ≡ listed_vertices running deltas at) (sym e)
            (left d next_by lt same));
        near = all_more IsInRange points next w.near there;
        last_near = there;
        x_near = step_near last.x next.x next_by.dx w.last_near.x there.x (ap (λ (q : Point). q.x) e);
        y_near = step_near last.y next.y next_by.dy w.last_near.y there.y (ap (λ (q : Point). q.y) e);
      }

  -- a vertex that exceeds the limits
  pub walked_past : (d next_by : GDelta) → index < length deltas → next_by ≡ next_step running by (get_or deltas index d)
      → ¬ IsInRange (moved last next_by) → ¬ AllByRecursion IsInRange (listed_vertices running deltas at)
  walked_past d next_by lt same past all =
      past (at_middle IsInRange points (moved last next_by) (points_after (moved last next_by) (displaced running next_by (drop (suc index) deltas)))
      (subst (AllByRecursion IsInRange) (sym (left d next_by lt same)) all))

  -- no delta is left
  pub walked_all : length deltas ≤ index → points ≡ listed_vertices running deltas at
  walked_all le = sym (append-nil points) ∙ ap (λ (ds : List GDelta). points ++ points_after last (displaced running by ds)) (sym (drop_all index deltas le)) ∙ w.so_far

-- one more vertex of a list that isn't running
pub plain_more : {deltas : List GDelta} {at : Point} {points : List Point} {last : Point} {by : GDelta} {index : ℕ} → Walked false deltas at points last by index
    → (d : GDelta) (next : Point) → index < length deltas → IsInRange (moved last (get_or deltas index d)) → next ≡ moved last (get_or deltas index d)
    → (after : GDelta) × Walked false deltas at (points ++ next ∷ []) next after (index + 1)
plain_more {deltas} {index = index} w d next lt near e = (get_or deltas index d, walked_more w d (get_or deltas index d) next lt refl near e)

-- the last of some points
last_item : (p q d : Point) (qs : List Point) → get_or (q ∷ qs) (length qs) d ≡ last_after p (q ∷ qs)
last_item p q d [] = refl
last_item p q d (r ∷ qs) = last_item q r d qs

pub last_of : (p d : Point) (points : List Point) → 0 < length points → get_or points (length points - 1) d ≡ last_after p points
last_of p d [] lt = absurd (omega arith)
last_of p d (q ∷ qs) lt = let e : length (q ∷ qs) - 1 ≡ length qs = omega arith in rw e (last_item p q d qs)

pub last_near : (p : Point) (points : List Point) → IsInRange p → AllByRecursion IsInRange points → IsInRange (last_after p points)
last_near p [] near all = near
last_near p (q ∷ qs) near all = last_near q qs all.0 all.1

length_sums : (before : GDelta) (ds : List GDelta) → length (sums_after before ds) ≡ length ds
length_sums before [] = refl
length_sums before (d ∷ ds) = ap suc (length_sums (added before d) ds)

length_displacements : (running : Bool) (ds : List GDelta) → length (displacements running ds) ≡ length ds
length_displacements true ds = length_sums still ds
length_displacements false ds = refl

length_map : (f : GDelta → Point) (ds : List GDelta) → length (map f ds) ≡ length ds
length_map f [] = refl
length_map f (d ∷ ds) = ap suc (length_map f ds)

length_left_out : (closing : Closing) (p q : Point) → length (left_out closing p q) ≡ left_out_count closing
length_left_out Listed p q = refl
length_left_out FirstX p q = refl
length_left_out FirstY p q = refl

-- how many vertices there are
pub counted : (line : Polyline) (at : Point) → length (vertices_of line at) ≡ length line.deltas + 1 + left_out_count line.closing
counted line at =
    let listed = listed_vertices line.running line.deltas at in
    omega (
      arith,
      length-append listed (left_out line.closing at (last_after at listed)),
      length_left_out line.closing at (last_after at listed),
      length_map (moved at) (sums (displacements line.running line.deltas)),
      length_sums still (displacements line.running line.deltas),
      length_displacements line.running line.deltas,
    )

-- the same, by what a list is made of
pub counted_by : (line made : Polyline) (at : Point) (n m : ℕ) → made ≡ line → n ≡ length made.deltas → m ≡ left_out_count made.closing → length (vertices_of line at) ≡ n + 1 + m
counted_by line made at n m e p q = subst (λ (l : Polyline). length (vertices_of l at) ≡ n + 1 + m) e (counted made at ∙ (λ i. sym p i + 1 + sym q i))

-- what the listed vertices are refused for, all are
pub may_whole : (line made : Polyline) (at : Point) (why : Why) (deltas : List GDelta) → made ≡ line → deltas ≡ made.deltas
    → VerticesMay why (listed_vertices made.running deltas at) → VerticesMay why (vertices_of line at)
may_whole line made at CoordinateRange deltas e f h =
    let listed = listed_vertices made.running made.deltas at in
    subst (λ (l : Polyline). VerticesMay CoordinateRange (vertices_of l at)) e
    (λ all. subst (λ (ds : List GDelta). VerticesMay CoordinateRange (listed_vertices made.running ds at)) f h (at_front IsInRange listed (left_out made.closing at (last_after at listed)) all))
may_whole line made at Memory deltas e f h = tt
may_whole line made at _ deltas e f h = absurd h

-- all vertices are those that are listed and the one that is left out
pub given_whole : (line made : Polyline) (at last : Point) (points all more : List Point) (deltas : List GDelta) → made ≡ line → deltas ≡ made.deltas
    → points ≡ listed_vertices made.running deltas at → last ≡ last_after at points
    → more ≡ left_out made.closing at last → all ≡ points ++ more → all ≡ vertices_of line at
given_whole line made at last points all more deltas e f g h m p =
    let listed = g ∙ ap (λ (ds : List GDelta). listed_vertices made.running ds at) f in
    let rest : more ≡ left_out made.closing at (last_after at (listed_vertices made.running made.deltas at)) = m ∙ ap (λ (q : Point). left_out made.closing at q) (h ∙ ap (last_after at) listed) in
    p ∙ (λ i. listed i ++ rest i) ∙ ap (λ (l : Polyline). vertices_of l at) e

-- the last element of what is there
pub last_is : (at last : Point) (points : List Point) (n : ℕ) → 0 < length points → n ≡ length points → last ≡ get_or points (n - 1) last → last ≡ last_after at points
last_is at last points n lt e f = f ∙ ap (λ (k : ℕ). get_or points (k - 1) last) e ∙ last_of at last points lt

-- a running displacement
pub stepped : (before d : GDelta) (x y : ℤ) → x ≡ before.dx +ℤ d.dx → y ≡ before.dy +ℤ d.dy → step x y ≡ next_step true before d
stepped before d x y p q = (λ i. step (p i) (q i))
