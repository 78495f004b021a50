-- Putting the steps between points.
use Rattle.std.proofs.Common.{◌≡◌, ℕ, ◌+◌, ◌*◌, ◌-◌, ◌<◌, ◌≤◌, ◌^◌, true, List, ◌∷◌, ◌++◌, length, drop, get_or, drop-cons, sym, ap, subst, ◌∙◌, arith, add-one, w64, FitsSigned}
use Rattle.std.proofs.Common.{to_z, of_z, Option, Some}
use Rattle.std.specs.Prelude.{ℤ, ◌-ℤ◌, nat_abs, MatchOption}
use Rattle.std.specs.List.{list_all, IsFirstAndRest}
use Rattle.std.specs.Borrow.{Bor}
use Rattle.std.proofs.lemmas.Bool.{and_parts}
use Rattle.std.proofs.lemmas.Int.{ints, to_z-of_z, fits_signed_from_abs}
use Rattle.oas_num.specs.Style.{code}
use Rattle.oas_num.specs.Writing.{PutsPrefix, shortest, shortest_gdelta}
use Rattle.oas_ring.specs.declared.point.Point.{Point}
use Rattle.oas_elements.specs.Grid.{is_coordinate, is_grid_point}
use Rattle.oas_form.specs.Bytes.{step_bytes, list_bytes}
use Rattle.oas_form.specs.Putting.{PutsAll}
use Rattle.oas_form.proofs.FieldSpelling.{near}
use Rattle.oas_form.proofs.PuttingLemmas.{PutSoFar, fails_at, ◌▸◌}

-- ---- one step

-- two coordinates are at most 2^61 apart
apart : (x y : ℤ) → is_coordinate x ≡ true → is_coordinate y ≡ true → nat_abs (y -ℤ x) ≤ 2 ^ 61
apart x y h k = grind (arith, ints)

coordinate_fits : (x : ℤ) → is_coordinate x ≡ true → FitsSigned w64 x
coordinate_fits x h = fits_signed_from_abs w64 x (omega (arith, near x h))

difference_fits : (x y : ℤ) → is_coordinate x ≡ true → is_coordinate y ≡ true → FitsSigned w64 (y -ℤ x)
difference_fits x y h k = fits_signed_from_abs w64 (y -ℤ x) (omega (arith, apart x y h k))

-- the difference of two coordinates
difference_is : (x y : ℤ) → is_coordinate x ≡ true → is_coordinate y ≡ true → to_z w64 (of_z w64 (to_z w64 (of_z w64 y) -ℤ to_z w64 (of_z w64 x))) ≡ y -ℤ x
difference_is x y h k = rw (to_z-of_z w64 y (coordinate_fits y k), to_z-of_z w64 x (coordinate_fits x h)) (to_z-of_z w64 (y -ℤ x) (difference_fits x y h k))

pub x_fits : (p : Point) → is_grid_point p ≡ true → FitsSigned w64 p.x
x_fits p h = coordinate_fits p.x (and_parts (is_coordinate p.x) (is_coordinate p.y) h).0

pub y_fits : (p : Point) → is_grid_point p ≡ true → FitsSigned w64 p.y
y_fits p h = coordinate_fits p.y (and_parts (is_coordinate p.x) (is_coordinate p.y) h).1

module _ (p q : Point) (h : is_grid_point p ≡ true) (k : is_grid_point q ≡ true) where
  pub across_fits : FitsSigned w64 (to_z w64 (of_z w64 q.x) -ℤ to_z w64 (of_z w64 p.x))
  across_fits =
      let a = (and_parts (is_coordinate p.x) (is_coordinate p.y) h).0 in
      let b = (and_parts (is_coordinate q.x) (is_coordinate q.y) k).0 in
      rw (to_z-of_z w64 q.x (coordinate_fits q.x b), to_z-of_z w64 p.x (coordinate_fits p.x a)) (difference_fits p.x q.x a b)

  pub up_fits : FitsSigned w64 (to_z w64 (of_z w64 q.y) -ℤ to_z w64 (of_z w64 p.y))
  up_fits =
      let a = (and_parts (is_coordinate p.x) (is_coordinate p.y) h).1 in
      let b = (and_parts (is_coordinate q.x) (is_coordinate q.y) k).1 in
      rw (to_z-of_z w64 q.y (coordinate_fits q.y b), to_z-of_z w64 p.y (coordinate_fits p.y a)) (difference_fits p.y q.y a b)

  pub across_is : to_z w64 (of_z w64 (to_z w64 (of_z w64 q.x) -ℤ to_z w64 (of_z w64 p.x))) ≡ q.x -ℤ p.x
  across_is = difference_is p.x q.x (and_parts (is_coordinate p.x) (is_coordinate p.y) h).0 (and_parts (is_coordinate q.x) (is_coordinate q.y) k).0

  pub up_is : to_z w64 (of_z w64 (to_z w64 (of_z w64 q.y) -ℤ to_z w64 (of_z w64 p.y))) ≡ q.y -ℤ p.y
  up_is = difference_is p.y q.y (and_parts (is_coordinate p.x) (is_coordinate p.y) h).1 (and_parts (is_coordinate q.x) (is_coordinate q.y) k).1

  pub across_short : nat_abs (q.x -ℤ p.x) ≤ 2 ^ 61
  across_short = apart p.x q.x (and_parts (is_coordinate p.x) (is_coordinate p.y) h).0 (and_parts (is_coordinate q.x) (is_coordinate q.y) k).0

  pub up_short : nat_abs (q.y -ℤ p.y) ≤ 2 ^ 61
  up_short = apart p.y q.y (and_parts (is_coordinate p.x) (is_coordinate p.y) h).1 (and_parts (is_coordinate q.x) (is_coordinate q.y) k).1

-- the number that spells one part of a step
pub part_coded : (value part : ℤ) (number : ℕ) → nat_abs value ≤ 2 ^ 61 → value ≡ part → number ≡ code (to_z w64 (of_z w64 value)) → number ≡ code part
part_coded value part number short is e = e ∙ ap code (to_z-of_z w64 value (fits_signed_from_abs w64 value (omega (arith, short))) ∙ is)

-- ---- all of them

drop_next : {A : Type 0} (xs : List A) (i : ℕ) (d : A) → i < length xs → drop i xs ≡ get_or xs i d ∷ drop (i + 1) xs
drop_next xs i d lt = drop-cons xs i d lt ∙ ap (λ (k : ℕ). get_or xs i d ∷ drop k xs) (sym (add-one i))

-- the steps up to a point were put, and those from there on are left
pub record StepsLeft {K : Type 0} (given : K → List ℕ → K → Type 0) (failures : K → ℕ) (first : Point) (rest : List Point) (before : Point) (i : ℕ) (old now : K) (count : ℕ) : Type 0 where
  pub so_far : PutSoFar given failures (step_bytes first rest) (step_bytes before (drop i rest)) old now count
  pub here : is_grid_point before ≡ true
  pub inside : list_all is_grid_point (drop i rest) ≡ true
  pub short : count ≤ 20 * i

module _ {K : Type 0} {given : K → List ℕ → K → Type 0} {failures : K → ℕ} {first before : Point} {old mid : K} {n : ℕ} (rest : List Point) (i : ℕ) (d : Point) (lt : i < length rest)
    (left : StepsLeft given failures first rest before i old mid n) where
  abbrev next : Point
  next = get_or rest i d

  abbrev next_bytes : List ℕ
  next_bytes = shortest_gdelta (next.x -ℤ before.x) (next.y -ℤ before.y)

  next_left : PutSoFar given failures (step_bytes first rest) (next_bytes ++ step_bytes next (drop (i + 1) rest)) old mid n
  next_left = subst (λ (ps : List Point). PutSoFar given failures (step_bytes first rest) (step_bytes before ps) old mid n) (drop_next rest i d lt) left.so_far

  all_inside : (is_grid_point next ≡ true) × (list_all is_grid_point (drop (i + 1) rest) ≡ true)
  all_inside = and_parts (is_grid_point next) (list_all is_grid_point (drop (i + 1) rest)) (subst (λ (ps : List Point). list_all is_grid_point ps ≡ true) (drop_next rest i d lt) left.inside)

  pub next_inside : is_grid_point next ≡ true
  next_inside = all_inside.0

  pub step_fails : {new : K} → PutsPrefix given failures mid next_bytes new → PutsPrefix given failures old (step_bytes first rest) new
  step_fails q = fails_at _ next_left q

  pub step_put : {new : K} {m : ℕ} → PutsAll given failures mid next_bytes m new → m ≤ 20 → StepsLeft given failures first rest next (i + 1) old new (n + m)
  step_put q short = record { so_far = next_left ▸ q; here = all_inside.0; inside = all_inside.1; short = omega (arith, left.short, short) }

-- ---- a list of points

-- there is one step less than there are points
pub list_is : (p : Point) (ps : List Point) → list_bytes (p ∷ ps) ≡ 4 ∷ (shortest (length ps) ++ step_bytes p ps)
list_is p ps =
    let less : length (p ∷ ps) - 1 ≡ length ps = omega arith in
    ap (λ (n : ℕ). 4 ∷ (shortest n ++ step_bytes p ps)) less

-- the first point, and the others
pub split_is : (xs : List Point) (r : Option (Bor Point × Bor (List Point))) (p : Bor Point × Bor (List Point)) → MatchOption r (length xs ≡ 0) (λ q. IsFirstAndRest xs q.0.now q.1.now) →
    r ≡ Some p → xs ≡ p.0.now ∷ p.1.now
split_is xs r p h e = (subst (λ (s : Option (Bor Point × Bor (List Point))). MatchOption s (length xs ≡ 0) (λ q. IsFirstAndRest xs q.0.now q.1.now)) e h).0

pub first_inside : (xs : List Point) (p : Point) (ps : List Point) → xs ≡ p ∷ ps → list_all is_grid_point xs ≡ true → is_grid_point p ≡ true
first_inside xs p ps e h = (and_parts (is_grid_point p) (list_all is_grid_point ps) (subst (λ (ys : List Point). list_all is_grid_point ys ≡ true) e h)).0
