-- The copies of a repetition are on its places, equally many on each.
use Rattle.std.proofs.Common.{◌≡◌, ℕ, zero, suc, pos, negsuc, ℤ, ◌+◌, ◌*◌, ◌/◌, ◌%◌, ◌<◌, Bool, true, false, map, length, refl, sym, ap, ◌∙◌, arith}
use Rattle.std.specs.Prelude.{◌==◌, ◌&&◌, nat_abs, sum_by}
use Rattle.std.proofs.lemmas.Bool.Decides.{nat_tests}
use Rattle.std.proofs.lemmas.Nat.{mod-mul-add, div-mul-add, mul-le}
use Rattle.std.proofs.lemmas.List.FromFn.{sum_by-map-range_with_len_more}
use Rattle.std.specs.List.{range_with_len}
use Rattle.oas_num.specs.declared.deltas.GDelta.{GDelta}
use Rattle.oas_num.specs.Deltas.{step}
use Rattle.oas_shape.specs.declared.repetitions.Repetition.{Repetition}
use Rattle.oas_shape.specs.declared.repetitions.Repetition.TheVariants.{Matrix, Columns, Rows, Lattice, Line, Listed}
use Rattle.oas_shape.specs.Steps.{still, added, times}
use Rattle.oas_shape.specs.Offsets.{offset_of}
use Rattle.oas_shape.specs.Places.{is_still, places_one_way, places_two_ways, ArePlaces, PlacesOf}
use Rattle.oas_shape.specs.Laws.RepetitionLaws.{still_is}

-- ---- sums

-- what the first n count for
abbrev total : (ℕ → ℕ) → ℕ → ℕ
total h zero = 0
total h (suc n) = total h n + h n

sum_is : (g : GDelta → ℕ) (f : ℕ → GDelta) (n : ℕ) → sum_by g (map f (range_with_len 0 n)) ≡ total (λ i. g (f i)) n
sum_is g f zero = refl
sum_is g f (suc n) =
    let on : suc n ≡ n + 1 = omega arith in
    ap (λ (k : ℕ). sum_by g (map f (range_with_len 0 k))) on
    ∙ sum_by-map-range_with_len_more g f 0 n n (omega arith)
    ∙ ap (λ (k : ℕ). k + g (f n)) (sum_is g f n)

total_joined : (h : ℕ → ℕ) (m n : ℕ) → total h (m + n) ≡ total h m + total (λ i. h (m + i)) n
total_joined h m zero = let e : m + 0 ≡ m = omega arith in ap (total h) e ∙ omega arith
total_joined h m (suc n) =
    let e : m + suc n ≡ suc (m + n) = omega arith in
    ap (total h) e ∙ omega (arith, total_joined h m n)

-- the sum of n copies that count for c each
total_same : (h : ℕ → ℕ) (c n : ℕ) → ((i : ℕ) → i < n → h i ≡ c) → total h n ≡ n * c
total_same h c zero e = omega arith
total_same h c (suc n) e = omega (arith, total_same h c n (λ i lt. e i (omega arith)), e n (omega arith))

total_like : (h k : ℕ → ℕ) (n : ℕ) → ((i : ℕ) → i < n → h i ≡ k i) → total h n ≡ total k n
total_like h k zero e = refl
total_like h k (suc n) e = omega (arith, total_like h k n (λ i lt. e i (omega arith)), e n (omega arith))

-- rows, in each of which all count for the same
total_rows : (h : ℕ → ℕ) (a b : ℕ) → ((j c : ℕ) → c < a → h (j * a + c) ≡ h (j * a)) → total h (b * a) ≡ a * total (λ j. h (j * a)) b
total_rows h a zero e = let none : 0 * a ≡ 0 = omega arith in ap (total h) none ∙ omega arith
total_rows h a (suc b) e =
    let on : suc b * a ≡ b * a + a = omega arith in
    let split : a * (total (λ j. h (j * a)) b + h (b * a)) ≡ a * total (λ j. h (j * a)) b + a * h (b * a) = omega arith in
    ap (total h) on ∙ omega (arith, total_joined h (b * a) a, total_rows h a b e, total_same (λ i. h (b * a + i)) (h (b * a)) a (e b), split)

-- rows, each of which counts for as much as the first
total_columns : (h : ℕ → ℕ) (a b : ℕ) → ((j c : ℕ) → c < a → h (j * a + c) ≡ h c) → total h (b * a) ≡ b * total h a
total_columns h a zero e = let none : 0 * a ≡ 0 = omega arith in ap (total h) none ∙ omega arith
total_columns h a (suc b) e =
    let on : suc b * a ≡ b * a + a = omega arith in
    ap (total h) on ∙ omega (arith, total_joined h (b * a) a, total_columns h a b e, total_like (λ i. h (b * a + i)) h a (e b))

-- ---- one dimension

module _ (f : ℕ → GDelta) (n : ℕ) where
  -- each copy on a place of its own
  pub apart : ArePlaces n f (places_one_way n false)
  apart = record {
    some = omega arith;
    all = omega arith;
    within = λ j lt. omega arith;
    sums = λ g. sum_is g f n ∙ omega (
      arith,
      sum_is g (λ j. f (j * 1)) n,
      total_like (λ i. g (f i)) (λ j. g (f (j * 1))) n
          (λ i lt. let one : i ≡ i * 1 = omega arith in ap (λ (k : ℕ). g (f k)) one),
    );
  }

  -- all on one place
  together : 0 < n → ((i : ℕ) → f i ≡ f 0) → ArePlaces n f (places_one_way n true)
  together positive same = record {
    some = positive;
    all = omega arith;
    within = λ j lt. omega arith;
    sums = λ g. sum_is g f n ∙ omega (arith, total_same (λ i. g (f i)) (g (f 0)) n (λ i lt. ap g (same i)));
  }

  pub one_way : (stays : Bool) → 0 < n → (stays ≡ true → (i : ℕ) → f i ≡ f 0) → ArePlaces n f (places_one_way n stays)
  one_way true positive same = together positive (same refl)
  one_way false positive same = apart

-- ---- two dimensions

positive_product : (a b : ℕ) → 0 < a → 0 < b → 0 < a * b
positive_product a b p q = omega (arith, mul-le 1 1 a b p q)

module _ (k : ℕ → ℕ → GDelta) (a b : ℕ) (wide : 0 < a) (high : 0 < b) where
  abbrev at : ℕ → GDelta
  at i = k (i % a) (i / a)

  at_is : (j c : ℕ) → c < a → at (j * a + c) ≡ k c j
  at_is j c lt = λ i. k (mod-mul-add j a c lt i) (div-mul-add j a c lt i)

  at_row : (j : ℕ) → at (j * a) ≡ k 0 j
  at_row j = let none : j * a ≡ j * a + 0 = omega arith in ap at none ∙ at_is j 0 wide

  at_column : (c : ℕ) → c < a → at c ≡ k c 0
  at_column c lt = let none : c ≡ 0 * a + c = omega arith in ap at none ∙ at_is 0 c lt

  turned : a * b ≡ b * a
  turned = omega arith

  row_within : (j : ℕ) → j < b → j * a < a * b
  row_within j lt = omega (arith, mul-le (j + 1) a b a (omega arith) (omega arith))

  -- the copies of a row on one place
  rows : ((c r : ℕ) → k c r ≡ k 0 r) → ArePlaces (a * b) at (places_two_ways a true b false)
  rows same = record {
    some = wide;
    all = omega arith;
    within = row_within;
    sums = λ g.
        sum_is g at (a * b)
        ∙ ap (total (λ i. g (at i))) turned
        ∙ total_rows (λ i. g (at i)) a b (λ j c lt. ap g (at_is j c lt ∙ same c j ∙ sym (at_row j)))
        ∙ ap (λ (n : ℕ). a * n) (sym (sum_is g (λ j. at (j * a)) b));
  }

  -- the copies of a column on one place
  columns : ((c r : ℕ) → k c r ≡ k c 0) → ArePlaces (a * b) at (places_two_ways a false b true)
  columns same = record {
    some = high;
    all = omega arith;
    within = λ j lt. omega (arith, mul-le a 1 a b (omega arith) high);
    sums = λ g.
        sum_is g at (a * b)
        ∙ ap (total (λ i. g (at i))) turned
        ∙ total_columns (λ i. g (at i)) a b (λ j c lt. ap g (at_is j c lt ∙ same c j ∙ sym (at_column c lt)))
        ∙ ap (λ (n : ℕ). b * n) (total_like (λ i. g (at i)) (λ j. g (at (j * 1))) a (λ i lt. let one : i ≡ i * 1 = omega arith in ap (λ (n : ℕ). g (at n)) one)
        ∙ sym (sum_is g (λ j. at (j * 1)) a));
  }

  pub two_ways : (columns_stay rows_stay : Bool) → (columns_stay ≡ true → (c r : ℕ) → k c r ≡ k 0 r) → (rows_stay ≡ true → (c r : ℕ) → k c r ≡ k c 0)
      → ArePlaces (a * b) at (places_two_ways a columns_stay b rows_stay)
  two_ways true true across up = one_way at (a * b) true (positive_product a b wide high) (λ _ i. across refl (i % a) (i / a) ∙ up refl 0 (i / a) ∙ sym (across refl (0 % a) (0 / a) ∙ up refl 0 (0 / a)))
  two_ways true false across up = rows (across refl)
  two_ways false true across up = columns (up refl)
  two_ways false false across up = one_way at (a * b) false (positive_product a b wide high) (λ e. cc)

-- ---- steps that lead nowhere

no_space : (n : ℕ) → (n == 0) ≡ true → n ≡ 0
no_space n e = grind (arith, nat_tests)

spaces_none : (n i j : ℕ) → (n == 0) ≡ true → i * n ≡ j * n
spaces_none n i j e = let z = no_space n e in ap (λ (k : ℕ). i * k) z ∙ omega arith ∙ ap (λ (k : ℕ). j * k) (sym z)

no_length : (z : ℤ) → (nat_abs z == 0) ≡ true → z ≡ pos 0
no_length (pos zero) e = refl
no_length (pos (suc n)) e = let z : suc n ≡ 0 = no_space (suc n) e in cc
no_length (negsuc n) e = let z : suc n ≡ 0 = no_space (suc n) e in cc

both : (a b : Bool) → (a && b) ≡ true → (a ≡ true) × (b ≡ true)
both true b e = (refl, e)
both false b e = cc

no_step : (d : GDelta) → is_still d ≡ true → d ≡ still
no_step d e = let h = both (nat_abs d.dx == 0) (nat_abs d.dy == 0) e in λ i. step (no_length d.dx h.0 i) (no_length d.dy h.1 i)

steps_none : (d : GDelta) (i j : ℕ) → is_still d ≡ true → times i d ≡ times j d
steps_none d i j e = let z = no_step d e in ap (times i) z ∙ still_is i ∙ sym (still_is j) ∙ ap (times j) (sym z)

-- ---- the law

pub places : (r : Repetition) → PlacesOf r
places (Matrix x_dim y_dim x_space y_space) =
    two_ways (λ c r. step (pos (c * x_space)) (pos (r * y_space))) (x_dim + 2) (y_dim + 2) (omega arith) (omega arith) (x_space == 0) (y_space == 0)
    (λ e c r. ap (λ (n : ℕ). step (pos n) (pos (r * y_space))) (spaces_none x_space c 0 e))
    (λ e c r. ap (λ (n : ℕ). step (pos (c * x_space)) (pos n)) (spaces_none y_space r 0 e))
places (Columns dim space) = one_way (offset_of (Columns dim space)) (dim + 2) (space == 0) (omega arith) (λ e i. ap (λ (n : ℕ). step (pos n) (pos 0)) (spaces_none space i 0 e))
places (Rows dim space) = one_way (offset_of (Rows dim space)) (dim + 2) (space == 0) (omega arith) (λ e i. ap (λ (n : ℕ). step (pos 0) (pos n)) (spaces_none space i 0 e))
places (Lattice n_dim m_dim n m) =
    two_ways (λ c r. added (times c n) (times r m)) (n_dim + 2) (m_dim + 2) (omega arith) (omega arith) (is_still n) (is_still m)
    (λ e c r. ap (λ (d : GDelta). added d (times r m)) (steps_none n c 0 e))
    (λ e c r. ap (added (times c n)) (steps_none m r 0 e))
places (Line dim by) = one_way (offset_of (Line dim by)) (dim + 2) (is_still by) (omega arith) (λ e i. steps_none by i 0 e)
places (Listed offsets) = apart (offset_of (Listed offsets)) (length offsets)
