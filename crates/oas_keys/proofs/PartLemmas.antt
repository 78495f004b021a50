-- What strings and lists of points are read as.
use Rattle.std.proofs.Common.{zero, ◌≡◌, IsTrue, ◌&&◌, not, Bool, slice_index_or, ℕ, suc, ◌+◌, ◌<◌, ◌≤◌, ◌^◌, nat_eq, cond, true, false, ℤ, pos, negsuc, ◌-ℤ◌, ◌+ℤ◌, ◌≤ℤ◌, List, [], ◌∷◌, ◌++◌, length, take, drop, get_or, ◌-◌, w64, to_z, of_z, FitsSigned, refl, sym, ap, ◌∙◌, ◌⊎◌, inl, inr, arith, append_assoc}
use Rattle.std.proofs.lemmas.Bool.Decides.{nat_tests}
use Rattle.std.proofs.lemmas.List.{length-append, length-take-le, take-append-drop, take_more, take_all}
use Rattle.std.proofs.Math.Seq.{take-append_seam, drop-append_seam}
use Rattle.oas_ring.specs.declared.point.Point.{Point}
use Rattle.oas_elements.specs.Grid.{is_coordinate, is_grid_point}
use Rattle.std.proofs.lemmas.Int.{ints}
use Rattle.oas_keys.specs.Numbers.{signed_key, IsStep}
use Rattle.oas_keys.specs.Keys.{text_key, points_key}
use Rattle.oas_keys.specs.Reading.{text_len}
use Rattle.oas_keys.specs.Laws.NumberLaws.{signed_begins}
use Rattle.oas_keys.specs.Laws.FieldLaws.{NoZero, AreWithin, parts, step_within, coordinate_bounds}

-- ---- a string

no_zero : (n : ℕ) → 0 < n → nat_eq n 0 ≡ false
no_zero n h = grind (arith, nat_tests)

-- it ends at the first 0
len_is : (bytes rest : List ℕ) → NoZero bytes → text_len (bytes ++ 0 ∷ rest) ≡ length bytes
len_is [] rest h = refl
len_is (b ∷ bs) rest h =
    let no : nat_eq b 0 ≡ false = no_zero b h.0 in
    let more = len_is bs rest h.1 in
    ap (λ t. cond t 0 (1 + text_len (bs ++ 0 ∷ rest))) no ∙ omega arith

free_both : (xs ys : List ℕ) → NoZero xs → NoZero ys → NoZero (xs ++ ys)
free_both [] ys free others = others
free_both (x ∷ xs) ys free others = (free.0, free_both xs ys free.1 others)

-- one more byte isn't 0 either
pub still_free : (none : Bool) (bytes : List ℕ) (i : ℕ) → i < length bytes → (IsTrue none → NoZero (take i bytes)) → IsTrue (none && not (nat_eq (slice_index_or bytes i 0) 0)) → NoZero (take (i + 1) bytes)
still_free true bytes i inside free is =
    rw (take_more bytes i 0 inside) (free_both (take i bytes) (slice_index_or bytes i 0 ∷ []) (free refl) (some (slice_index_or bytes i 0) is, tt))
  where
    some : (n : ℕ) → IsTrue (not (nat_eq n 0)) → 0 < n
    some n is = grind (arith, nat_tests, is)
still_free false bytes i inside free is = absurd cc

take_on : (i n : ℕ) (xs : List ℕ) → take (i + n) xs ≡ take i xs ++ take n (drop i xs)
take_on zero n xs = let e : 0 + n ≡ n = omega arith in ap (λ (m : ℕ). take m xs) e
take_on (suc i) n [] = take_all (suc i + n) [] (omega arith) ∙ sym (take_all n [] (omega arith))
take_on (suc i) n (x ∷ xs) = let e : suc i + n ≡ suc (i + n) = omega arith in ap (λ (m : ℕ). take m (x ∷ xs)) e ∙ ap (λ (ys : List ℕ). x ∷ ys) (take_on i n xs)

-- nor are so many more
pub free_step : (bytes : List ℕ) (i n : ℕ) → NoZero (take i bytes) → NoZero (take n (drop i bytes)) → NoZero (take (i + n) bytes)
free_step bytes i n free more = rw (take_on i n bytes) (free_both (take i bytes) (take n (drop i bytes)) free more)

len_on : (xs ys : List ℕ) → NoZero xs → text_len (xs ++ ys) ≡ length xs + text_len ys
len_on [] ys free = omega arith
len_on (x ∷ xs) ys free =
    let no : nat_eq x 0 ≡ false = no_zero x free.0 in
    let more = len_on xs ys free.1 in
    ap (λ t. cond t 0 (1 + text_len (xs ++ ys))) no ∙ omega arith

-- the first 0 is behind bytes without one
pub len_behind : (bytes : List ℕ) (i : ℕ) → i ≤ length bytes → NoZero (take i bytes) → text_len bytes ≡ i + text_len (drop i bytes)
len_behind bytes i inside free =
    let on = len_on (take i bytes) (drop i bytes) free in
    let all = ap text_len (take-append-drop i bytes) in
    let size = length-take-le i bytes inside in
    omega arith

pub len_fits : (bytes : List ℕ) → text_len bytes ≤ length bytes
len_fits [] = omega arith
len_fits (b ∷ bs) = by (nat_eq b 0) (len_fits bs)
  where
    by : (is : Bool) → text_len bs ≤ length bs → cond is 0 (1 + text_len bs) ≤ length (b ∷ bs)
    by true fits = omega arith
    by false fits = omega (arith, fits)

-- a string, its end, and what follows it
pub record TextRead (all bytes rest : List ℕ) : Type 0 where
  pub fits : text_len all ≤ length all
  pub front : take (text_len all) all ≡ bytes
  pub back : drop (text_len all) all ≡ 0 ∷ rest

pub text_read : (all bytes rest : List ℕ) → NoZero bytes → all ≡ text_key bytes ++ rest → TextRead all bytes rest
text_read all bytes rest h is =
    let e : all ≡ bytes ++ 0 ∷ rest = is ∙ append_assoc bytes (0 ∷ []) rest in
    let len : text_len all ≡ length bytes = ap text_len e ∙ len_is bytes rest h in
    let size : length all ≡ length bytes + suc (length rest) = ap length e ∙ length-append bytes (0 ∷ rest) in
    record {
      fits = omega arith;
      front = (λ i. take (len i) (e i)) ∙ take-append_seam bytes (0 ∷ rest);
      back = (λ i. drop (len i) (e i)) ∙ drop-append_seam bytes (0 ∷ rest);
    }

-- ---- the next point

-- there is none
pub record Ended (ps : List Point) (all rest : List ℕ) : Type 0 where
  pub none : ps ≡ []
  pub is : all ≡ 0 ∷ rest

-- there is one
pub record GoesOn (before : Point) (ps : List Point) (all rest : List ℕ) : Type 0 where
  pub point : Point
  pub points : List Point
  pub byte : ℕ
  pub bytes : List ℕ
  pub split : ps ≡ point ∷ points
  pub inside : is_grid_point point ≡ true
  pub within : AreWithin points
  pub dx : IsStep (point.x -ℤ before.x)
  pub dy : IsStep (point.y -ℤ before.y)
  pub is : all ≡ signed_key (point.x -ℤ before.x) ++ (signed_key (point.y -ℤ before.y) ++ (points_key point points ++ rest))
  pub some : 0 < byte
  pub begins : all ≡ byte ∷ bytes

pub next_is : (before : Point) (ps : List Point) (all rest : List ℕ) → is_grid_point before ≡ true → AreWithin ps → all ≡ points_key before ps ++ rest
    → Ended ps all rest ⊎ GoesOn before ps all rest
next_is before [] all rest h w is = inl (record { none = refl; is = is })
next_is before (p ∷ qs) all rest h w is =
    let b = signed_begins (p.x -ℤ before.x) in
    let a = parts before h in
    let c = parts p w.0 in
    let x : List ℕ = signed_key (p.x -ℤ before.x) in
    let y : List ℕ = signed_key (p.y -ℤ before.y) in
    let split : all ≡ x ++ (y ++ (points_key p qs ++ rest)) = is ∙ append_assoc (x ++ y) (points_key p qs) rest ∙ append_assoc x y (points_key p qs ++ rest) in
    inr (record {
      point = p;
      points = qs;
      byte = b.byte;
      bytes = b.rest ++ (y ++ (points_key p qs ++ rest));
      split = refl;
      inside = w.0;
      within = w.1;
      dx = step_within before.x p.x a.0 c.0;
      dy = step_within before.y p.y a.1 c.1;
      is = split;
      some = b.some;
      begins = split ∙ ap (λ (t : List ℕ). t ++ (y ++ (points_key p qs ++ rest))) b.is;
    })

-- where there is a 0, there is none
pub at_end : (before : Point) (ps : List Point) (all rest new : List ℕ) (b : ℕ) → is_grid_point before ≡ true → AreWithin ps → all ≡ points_key before ps ++ rest
    → all ≡ b ∷ new → b ≡ 0 → (ps ≡ []) × (new ≡ rest)
at_end before ps all rest new b h w is was null = by (next_is before ps all rest h w is)
  where
    by : Ended ps all rest ⊎ GoesOn before ps all rest → (ps ≡ []) × (new ≡ rest)
    by (inl e) = let both : b ∷ new ≡ 0 ∷ rest = sym was ∙ e.is in (e.none, cc)
    by (inr g) =
        let both : b ∷ new ≡ g.byte ∷ g.bytes = sym was ∙ g.begins in
        let same : b ≡ g.byte = cc in
        let some = g.some in
        absurd (omega arith)

-- the same for the byte that comes first
pub ended : (before : Point) (ps : List Point) (left all rest : List ℕ) → left ≡ all → get_or left 0 0 ≡ 0 → is_grid_point before ≡ true → AreWithin ps
    → all ≡ points_key before ps ++ rest → ps ≡ []
ended before ps left all rest same null h w is = by (next_is before ps all rest h w is)
  where
    by : Ended ps all rest ⊎ GoesOn before ps all rest → ps ≡ []
    by (inl e) = e.none
    by (inr g) =
        let first : get_or left 0 0 ≡ g.byte = ap (λ (xs : List ℕ). get_or xs 0 0) (same ∙ g.begins) in
        let some = g.some in
        absurd (omega arith)

-- elsewhere there is one
pub not_ended : (before : Point) (ps : List Point) (all rest : List ℕ) (b : ℕ) (bs : List ℕ) → is_grid_point before ≡ true → AreWithin ps → all ≡ points_key before ps ++ rest
    → all ≡ b ∷ bs → (b ≡ 0 → ⊥) → GoesOn before ps all rest
not_ended before ps all rest b bs h w is was some = by (next_is before ps all rest h w is)
  where
    by : Ended ps all rest ⊎ GoesOn before ps all rest → GoesOn before ps all rest
    by (inl e) = let both : b ∷ bs ≡ 0 ∷ rest = sym was ∙ e.is in let zero : b ≡ 0 = cc in absurd (some zero)
    by (inr g) = g

-- there is something
pub some_byte : (before : Point) (ps : List Point) (all rest : List ℕ) → is_grid_point before ≡ true → AreWithin ps → all ≡ points_key before ps ++ rest
    → (byte : ℕ) × (bytes : List ℕ) × (all ≡ byte ∷ bytes)
some_byte before ps all rest h w is = by (next_is before ps all rest h w is)
  where
    by : Ended ps all rest ⊎ GoesOn before ps all rest → (byte : ℕ) × (bytes : List ℕ) × (all ≡ byte ∷ bytes)
    by (inl e) = (0, rest, e.is)
    by (inr g) = (g.byte, g.bytes, g.begins)

-- so where the first byte isn't 0
pub goes_on : (before : Point) (ps : List Point) (left all rest : List ℕ) → left ≡ all → (get_or left 0 0 ≡ 0 → ⊥) → is_grid_point before ≡ true → AreWithin ps
    → all ≡ points_key before ps ++ rest → GoesOn before ps all rest
goes_on before ps left all rest same some h w is =
    let s = some_byte before ps all rest h w is in
    not_ended before ps all rest s.0 s.1 h w is s.2 (λ e. some (ap (λ (xs : List ℕ). get_or xs 0 0) (same ∙ s.2) ∙ e))

-- what is taken is shorter
pub shorter : (before : Point) (ps : List Point) (all rest new : List ℕ) (g : GoesOn before ps all rest) → new ≡ points_key g.point g.points ++ rest → length new < length all
shorter before ps all rest new g e =
    let b = signed_begins (g.point.x -ℤ before.x) in
    let x : List ℕ = signed_key (g.point.x -ℤ before.x) in
    let y : List ℕ = signed_key (g.point.y -ℤ before.y) in
    let behind : List ℕ = points_key g.point g.points ++ rest in
    let some : length x ≡ suc (length b.rest) = ap length b.is in
    let whole : length all ≡ length x + (length y + length behind) =
    ap length g.is ∙ length-append x (y ++ behind) ∙ ap (λ (n : ℕ). length x + n) (length-append y behind) in
    let same : length new ≡ length behind = ap length e in
    omega arith

-- a coordinate and the step to another
pub sum_is : (b p d : ℤ) → is_coordinate b ≡ true → is_coordinate p ≡ true → d ≡ p -ℤ b → to_z w64 (of_z w64 (to_z w64 (of_z w64 b) +ℤ to_z w64 (of_z w64 d))) ≡ p
sum_is b p d h k e =
    let u : (negsuc (2 ^ 60 - 1) ≤ℤ b) × (b ≤ℤ pos (2 ^ 60)) = coordinate_bounds b h in
    let v : (negsuc (2 ^ 60 - 1) ≤ℤ p) × (p ≤ℤ pos (2 ^ 60)) = coordinate_bounds p k in
    omega (arith, ints)

pub sum_fits : (b p d : ℤ) → is_coordinate b ≡ true → is_coordinate p ≡ true → d ≡ p -ℤ b → FitsSigned w64 (to_z w64 (of_z w64 b) +ℤ to_z w64 (of_z w64 d))
sum_fits b p d h k e =
    let u : (negsuc (2 ^ 60 - 1) ≤ℤ b) × (b ≤ℤ pos (2 ^ 60)) = coordinate_bounds b h in
    let v : (negsuc (2 ^ 60 - 1) ≤ℤ p) × (p ≤ℤ pos (2 ^ 60)) = coordinate_bounds p k in
    omega (arith, ints)
