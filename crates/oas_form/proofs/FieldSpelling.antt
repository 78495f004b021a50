-- The canonical bytes of numbers, strings, fields and point lists spell them.
use Rattle.std.proofs.Common.{◌≡◌, ℕ, suc, ◌-◌, ◌<◌, ◌≤◌, ◌^◌, true, false, List, [], ◌∷◌, ◌++◌, length, Some, None, inl, refl, sym, ap, subst, arith}
use Rattle.std.specs.Prelude.{ℤ, ◌-ℤ◌, nat_abs, nat_lt}
use Rattle.std.specs.List.{list_all}
use Rattle.std.proofs.lemmas.Bool.{lt-ltb, and_parts}
use Rattle.std.proofs.lemmas.Int.{ints}
use Rattle.std.proofs.lemmas.List.{append-nil}
use Rattle.oas_num.specs.Grammar.{IsPair, IsSuch, IsThere, IsEach, IsByte}
use Rattle.oas_num.specs.Style.{Shortest, IsShortest, unsigned_in}
use Rattle.oas_num.specs.Laws.StyleLaws.{shortest-IsShortest}
use Rattle.oas_num.specs.Texts.{IsNameByte, IsLabelByte, IsOf, IsName, IsLabel, name_in, label_in}
use Rattle.oas_num.specs.Writing.{shortest, shortest_signed, shortest_gdelta}
use Rattle.oas_num.specs.Deltas.{gdelta_in, step}
use Rattle.oas_num.specs.Laws.DeltaLaws.{shortest_gdelta-spells}
use Rattle.oas_num.proofs.WritingLemmas.{shortest_signed-IsShortestSigned}
use Rattle.oas_ring.specs.declared.point.Point.{Point}
use Rattle.oas_shape.specs.declared.list_use.ListUse.{ListUse}
use Rattle.oas_shape.specs.declared.list_use.ListUse.TheVariants as uses
use Rattle.oas_shape.specs.ListUses.{IsFitting}
use Rattle.oas_shape.specs.PointLists.{IsPlainList}
use Rattle.oas_record.specs.declared.references.CellRef.TheVariants as cell
use Rattle.oas_record.specs.declared.references.TextRef.TheVariants as text
use Rattle.oas_record.specs.Info.{has}
use Rattle.oas_record.specs.Fields.{spot_in}
use Rattle.oas_elements.specs.Grid.{is_coordinate, reaches, is_grid_point}
use Rattle.oas_form.specs.Records.{spot_at, steps_from, line_of, spot_of}
use Rattle.oas_form.specs.Bytes.{string_bytes, place_bytes, step_bytes, list_bytes, points_bytes}

-- ---- numbers and strings

one_group : (n : ℕ) → n < 128 → shortest n ≡ n ∷ []
unfolding shortest
one_group n lt = rw (lt-ltb n 128 lt) refl

-- a number below 128 is spelled by one byte
pub small_spelled : (n : ℕ) → n < 128 → IsShortest n (n ∷ [])
small_spelled n lt = subst (λ (b : List ℕ). IsShortest n b) (one_group n lt) (shortest-IsShortest n (omega (arith, lt)))

pub text_spelled : (class : ℕ → Type 0) → ((b : ℕ) → class b → b < 256) → (text : List ℕ) → IsOf class text → IsEach (IsSuch class IsByte) text text
text_spelled class small [] h = refl
text_spelled class small (b ∷ bs) h = (b ∷ [], bs, record { holds = h.0; spelled = record { only = refl; small = small b h.0 } }, text_spelled class small bs h.1, refl)

pub name_spelled : (name : List ℕ) → IsName name → name_in Shortest name (string_bytes name)
name_spelled name h = record {
  front = shortest (length name);
  back = name;
  first = record { holds = h.some; spelled = shortest-IsShortest (length name) h.fits };
  second = record { len = refl; each = text_spelled IsNameByte (λ b k. omega (arith, k.1)) name h.class };
  joined = refl;
}

pub label_spelled : (label : List ℕ) → IsLabel label → label_in Shortest label (string_bytes label)
label_spelled label h = record {
  front = shortest (length label);
  back = label;
  first = shortest-IsShortest (length label) h.fits;
  second = record { len = refl; each = text_spelled IsLabelByte (λ b k. omega (arith, k.1)) label h.class };
  joined = refl;
}

-- ---- fields

-- a coordinate is at most 2^60 from zero
pub near : (x : ℤ) → is_coordinate x ≡ true → nat_abs x ≤ 2 ^ 60
near x h = grind (arith, ints)

pub reaching : (x : ℤ) (side : ℕ) → reaches x side ≡ true → is_coordinate x ≡ true
reaching x side h = (and_parts _ _ h).0

pub spot_spelled : (x y : ℤ) → nat_abs x ≤ 2 ^ 60 → nat_abs y ≤ 2 ^ 60 → spot_in Shortest true true false (spot_at x y) (place_bytes x y)
spot_spelled x y near_x near_y = record {
  from = (Some x, (Some y, None));
  is = refl;
  spelled = record {
    front = shortest_signed x;
    back = shortest_signed y;
    first = shortest_signed-IsShortestSigned x (omega arith);
    joined = refl;
    second = record { front = shortest_signed y; back = []; first = shortest_signed-IsShortestSigned y (omega arith); second = refl; joined = sym (append-nil (shortest_signed y)) };
  };
}

abbrev IsLayers : ℕ → ℕ → List ℕ → Type 0
IsLayers layer datatype bytes = IsPair (IsThere true (unsigned_in Shortest)) (λ _. IsThere true (unsigned_in Shortest)) (Some layer, Some datatype) bytes

pub layers_spelled : (layer datatype : ℕ) → layer < 2 ^ 64 → datatype < 2 ^ 64 → IsLayers layer datatype (shortest layer ++ shortest datatype)
layers_spelled layer datatype l d = record { front = shortest layer; back = shortest datatype; first = shortest-IsShortest layer l; second = shortest-IsShortest datatype d; joined = refl }

-- ---- point lists

-- two coordinates are at most 2^61 apart
apart : (x y : ℤ) → is_coordinate x ≡ true → is_coordinate y ≡ true → nat_abs (y -ℤ x) < 2 ^ 62
apart x y h k = grind (arith, ints)

steps_spelled : (p : Point) (ps : List Point) → is_grid_point p ≡ true → list_all is_grid_point ps ≡ true → IsEach (gdelta_in Shortest) (steps_from p ps) (step_bytes p ps)
steps_spelled p [] h k = refl
steps_spelled p (q ∷ qs) h k =
    let here = and_parts (is_coordinate p.x) (is_coordinate p.y) h in
    let all = and_parts (is_grid_point q) (list_all is_grid_point qs) k in
    let there = and_parts (is_coordinate q.x) (is_coordinate q.y) all.0 in (
      shortest_gdelta (q.x -ℤ p.x) (q.y -ℤ p.y),
      step_bytes q qs,
      shortest_gdelta-spells (step (q.x -ℤ p.x) (q.y -ℤ p.y)) (apart p.x q.x here.0 there.0) (omega (arith, apart p.y q.y here.1 there.1)),
      steps_spelled q qs all.0 all.1,
      refl,
    )

length-steps_from : (p : Point) (ps : List Point) → length (steps_from p ps) ≡ length ps
length-steps_from p [] = refl
length-steps_from p (q ∷ qs) = ap (λ (n : ℕ). suc n) (length-steps_from q qs)

-- one less than the number of points
one_less : (p : Point) (ps : List Point) → length (p ∷ ps) - 1 ≡ length (steps_from p ps)
one_less p ps = omega (arith, length-steps_from p ps)

list_spelled : (purpose : ListUse) (p : Point) (ps : List Point) → IsFitting purpose 4 (length ps) → list_all is_grid_point (p ∷ ps) ≡ true → length ps < 2 ^ 64 →
    IsPlainList purpose (line_of (p ∷ ps)) (list_bytes (p ∷ ps))
list_spelled purpose p ps fits inside few =
    let all = and_parts (is_grid_point p) (list_all is_grid_point ps) inside in
    let same = length-steps_from p ps in
    record {
      plain = refl;
      fits = subst (λ (n : ℕ). IsFitting purpose 4 n) (sym same) fits;
      spelled = record {
        front = 4 ∷ [];
        back = shortest (length (p ∷ ps) - 1) ++ step_bytes p ps;
        first = small_spelled 4 (omega arith);
        joined = refl;
        second = record {
          front = shortest (length (steps_from p ps));
          back = step_bytes p ps;
          first = shortest-IsShortest (length (steps_from p ps)) (omega (arith, same, few));
          second = record { len = refl; each = steps_spelled p ps all.0 all.1 };
          joined = ap (λ (n : ℕ). shortest n ++ step_bytes p ps) (one_less p ps);
        };
      };
    }

-- the point list and the place of its first point
abbrev IsDrawn : ListUse → List Point → List ℕ → Type 0
IsDrawn purpose points bytes = IsPair (IsThere true (IsPlainList purpose)) (λ _. spot_in Shortest true true false) (Some (line_of points), spot_of points) bytes

points_spelled : (purpose : ListUse) (p : Point) (ps : List Point) → IsFitting purpose 4 (length ps) → list_all is_grid_point (p ∷ ps) ≡ true → length ps < 2 ^ 64 →
    IsDrawn purpose (p ∷ ps) (points_bytes (p ∷ ps))
points_spelled purpose p ps fits inside few =
    let all = and_parts (is_grid_point p) (list_all is_grid_point ps) inside in
    let here = and_parts (is_coordinate p.x) (is_coordinate p.y) all.0 in
    record {
      front = list_bytes (p ∷ ps);
      back = place_bytes p.x p.y;
      first = list_spelled purpose p ps fits inside few;
      second = spot_spelled p.x p.y (near p.x here.0) (near p.y here.1);
      joined = refl;
    }

-- a ring has at least three points
pub ring_spelled : (points : List Point) → nat_lt (length points) 3 ≡ false → list_all is_grid_point points ≡ true → length points < 2 ^ 64 → IsDrawn uses.Polygon points (points_bytes points)
ring_spelled [] enough inside few = cc
ring_spelled (p ∷ ps) enough inside few = points_spelled uses.Polygon p ps (grind arith, inl (omega arith)) inside (omega arith)

-- a line has at least one
pub line_spelled : (points : List Point) → nat_lt (length points) 1 ≡ false → list_all is_grid_point points ≡ true → length points < 2 ^ 64 → IsDrawn uses.Path points (points_bytes points)
line_spelled [] enough inside few = cc
line_spelled (p ∷ ps) enough inside few = points_spelled uses.Path p ps tt inside (omega arith)
