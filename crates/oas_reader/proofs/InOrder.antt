-- Names in order: where two are equal they are neighbours.
use Rattle.std.proofs.Common.{◌≡◌, ◌==◌, ℕ, ◌+◌, ◌<◌, List, [], ◌∷◌, ◌++◌, Bool, true, false, ◌||◌, not, length, get_or, refl, sym, ◌∙◌, ap, subst, true≢false, arith}
use Rattle.std.specs.Prelude.{map}
use Rattle.std.specs.Borrow.{Bor}
use Rattle.std.specs.List.{AllByRecursion, IsDistinct, list_any, IsAllAdjacentAnswer}
use Rattle.std.specs.List.Sorted.{IsPermutation, IsSorted}
use Rattle.std.specs.Ordering.{is_lt, is_eq, ordering_reverse}
use Rattle.std.specs.Ordering.{nat_cmp}
use Rattle.std.specs.declared.cmp.Ordering.{Ordering}
use Rattle.std.specs.declared.cmp.Ordering.TheVariants.{Less, Equal, Greater}
use Rattle.std.specs.Cmp.Lexicographic.{slice_cmp, pointwise, nat_list_cmp_total, nat_list_eq_equiv, texts_ties}
use Rattle.std.proofs.lemmas.List.{length-map, get_or-map}
use Rattle.std.proofs.lemmas.List.Sorted.{IsPermutation-sym, IsPermutation-map}
use Rattle.std.proofs.lemmas.Map.Keys.{IsDistinct-IsPermutation, IsDistinct-from_sorted, apart_from_distinct, sorted_from_all_adjacent}
use Rattle.oas_reader.specs.Names.{same_string}
use Rattle.oas_reader.specs.Meaning.{has_twice}

-- a name that is lent, beside a number
abbrev pub Fronted : Type 0
Fronted = ℕ × Bor (List ℕ)

-- that name
abbrev pub fronted : Fronted → List ℕ
fronted x = x.1.now

-- the order of these names
abbrev pub fronted_cmp : Fronted → Fronted → Ordering
fronted_cmp x y = slice_cmp nat_cmp (fronted x) (fronted y)

-- ---- no two names are equal

neither : (a b : Bool) → (a || b) ≡ false → (a ≡ false) × (b ≡ false)
neither true b h = absurd (true≢false h)
neither false b h = (refl, h)

none_same : (n : List ℕ) (ns : List (List ℕ)) → list_any (same_string n) ns ≡ false → AllByRecursion (λ m. pointwise ◌==◌ n m ≡ false) ns
none_same n [] none = tt
none_same n (m ∷ ms) none = let both = neither (same_string n m) (list_any (same_string n) ms) none in (both.0, none_same n ms both.1)

same_none : (n : List ℕ) (ns : List (List ℕ)) → AllByRecursion (λ m. pointwise ◌==◌ n m ≡ false) ns → list_any (same_string n) ns ≡ false
same_none n [] all = refl
same_none n (m ∷ ms) all = λ i. all.0 i || same_none n ms all.1 i

apart : (ns : List (List ℕ)) → has_twice ns ≡ false → IsDistinct (pointwise ◌==◌) ns
unfolding IsDistinct
apart [] once = tt
apart (n ∷ ns) once = let both = neither (list_any (same_string n) ns) (has_twice ns) once in (none_same n ns both.0, apart ns both.1)

once : (ns : List (List ℕ)) → IsDistinct (pointwise ◌==◌) ns → has_twice ns ≡ false
unfolding IsDistinct
once [] all = refl
once (n ∷ ns) all = λ i. same_none n ns all.0 i || once ns all.1 i

alike : (a b : Bool) → (a ≡ false → b ≡ false) → (b ≡ false → a ≡ false) → a ≡ b
alike true true f g = refl
alike true false f g = g refl
alike false b f g = sym (f refl)

-- in another order they are the same names
twice_moved : (ns ms : List (List ℕ)) → IsPermutation ns ms → IsPermutation ms ns → has_twice ns ≡ has_twice ms
twice_moved ns ms there back =
    alike (has_twice ns) (has_twice ms)
    (λ h. once ms (IsDistinct-IsPermutation (pointwise ◌==◌) nat_list_eq_equiv.symm ns ms there (apart ns h)))
    (λ h. once ns (IsDistinct-IsPermutation (pointwise ◌==◌) nat_list_eq_equiv.symm ms ns back (apart ms h)))

-- ---- in order

is_less : (r : Ordering) → is_lt r ≡ true → r ≡ Less
is_less Less h = refl
is_less Equal h = absurd (true≢false (sym h))
is_less Greater h = absurd (true≢false (sym h))

tied : (a b : List ℕ) (r : Ordering) → slice_cmp nat_cmp a b ≡ r → is_lt r ≡ false → is_lt (slice_cmp nat_cmp b a) ≡ false → is_eq r ≡ true
tied a b Less e over back = absurd (true≢false over)
tied a b Equal e over back = refl
tied a b Greater e over back = absurd (true≢false (ap is_lt (sym (nat_list_cmp_total.antisymm b a ∙ ap ordering_reverse e)) ∙ back))

module _ (ys : List Fronted) where
  abbrev ns : List (List ℕ)
  ns = map fronted ys

  at : (k : ℕ) (d : Fronted) → k < length ys → get_or ns k (fronted d) ≡ fronted (get_or ys k d)
  at k d h = get_or-map fronted ys k d (fronted d) h

  rising : (d : Fronted) → ((k : ℕ) → k + 1 < length ys → is_lt (fronted_cmp (get_or ys k d) (get_or ys (k + 1) d)) ≡ true) → has_twice ns ≡ false
  rising d all =
      let long : length ns ≡ length ys = length-map ys fronted in
      let less : (k : ℕ) → k + 1 < length ns → slice_cmp nat_cmp (get_or ns k (fronted d)) (get_or ns (k + 1) (fronted d)) ≡ Less =
      λ k h.
      let here : k < length ys = omega (arith, h, long) in
      let next : k + 1 < length ys = omega (arith, h, long) in
      (λ i. slice_cmp nat_cmp (at k d here i) (at (k + 1) d next i)) ∙ is_less (fronted_cmp (get_or ys k d) (get_or ys (k + 1) d)) (all k next) in
      once ns (subst (λ (e : List ℕ → List ℕ → Bool). IsDistinct e ns) (λ i x y. sym (texts_ties x y) i)
      (IsDistinct-from_sorted (slice_cmp nat_cmp) ns (sorted_from_all_adjacent nat_list_cmp_total ns (fronted d) less)))

  neighbours : (k : ℕ) (d : Fronted) → k + 1 < length ys → is_lt (fronted_cmp (get_or ys k d) (get_or ys (k + 1) d)) ≡ false → IsSorted fronted_cmp ys → has_twice ns ≡ true
  neighbours k d h over up = by (has_twice ns) refl where
    here : k < length ys
    here = omega (arith, h)

    long : length ns ≡ length ys
    long = length-map ys fronted

    same : pointwise ◌==◌ (get_or ns k (fronted d)) (get_or ns (k + 1) (fronted d)) ≡ true
    same =
        (λ i. pointwise ◌==◌ (at k d here i) (at (k + 1) d h i)) ∙ texts_ties (fronted (get_or ys k d)) (fronted (get_or ys (k + 1) d))
        ∙ tied (fronted (get_or ys k d)) (fronted (get_or ys (k + 1) d)) (fronted_cmp (get_or ys k d) (get_or ys (k + 1) d)) refl over (up k d (omega arith) h)

    by : (b : Bool) → has_twice ns ≡ b → has_twice ns ≡ true
    by true e = e
    by false e = absurd (true≢false (sym same ∙ apart_from_distinct (pointwise ◌==◌) ns k (k + 1) (fronted d) (apart ns e) (omega arith) (omega (arith, h, long))))

moved : (xs ys : List Fronted) → IsPermutation xs ys → IsPermutation ys xs → has_twice (map fronted ys) ≡ has_twice (map fronted xs)
moved xs ys there back = twice_moved (map fronted ys) (map fronted xs) (IsPermutation-map fronted ys xs back) (IsPermutation-map fronted xs ys there)

-- where the names rise none is there twice, in whatever order they came
pub none_twice : (xs ys : List Fronted) → IsPermutation xs ys → IsPermutation ys xs → IsAllAdjacentAnswer (λ x y b. b ≡ is_lt (fronted_cmp x y)) ys true → false ≡ has_twice (map fronted xs)
none_twice xs ys there back h = all ys h ∙ moved xs ys there back where
  all : (ys : List Fronted) → IsAllAdjacentAnswer (λ x y b. b ≡ is_lt (fronted_cmp x y)) ys true → false ≡ has_twice (map fronted ys)
  all [] h = refl
  all (y ∷ ys) h = sym (rising (y ∷ ys) y (λ k l. sym (h k y l)))

-- and where they are sorted and don't rise, one is
pub one_twice : (xs ys : List Fronted) → IsPermutation xs ys → IsPermutation ys xs → IsSorted fronted_cmp ys → IsAllAdjacentAnswer (λ x y b. b ≡ is_lt (fronted_cmp x y)) ys false → true ≡ has_twice (map fronted xs)
one_twice xs ys there back up h = sym (neighbours ys h.0 (first ys h) h.1 (sym (h.2 (first ys h))) up) ∙ moved xs ys there back where
  first : (ys : List Fronted) → (k : ℕ) × (k + 1 < length ys) × ((d : Fronted) → false ≡ is_lt (fronted_cmp (get_or ys k d) (get_or ys (k + 1) d))) → Fronted
  first [] h = absurd (omega (arith, h.1))
  first (y ∷ ys) h = y

pub answered : (xs ys : List Fronted) (r : Bool) → IsPermutation xs ys → IsSorted fronted_cmp ys → IsAllAdjacentAnswer (λ x y b. b ≡ is_lt (fronted_cmp x y)) ys r → not r ≡ has_twice (map fronted xs)
answered xs ys true there up h = none_twice xs ys there (IsPermutation-sym xs ys there) h
answered xs ys false there up h = one_twice xs ys there (IsPermutation-sym xs ys there) up h

-- one more at the end
pub fronted_last : (xs : List Fronted) (x : Fronted) → map fronted (xs ++ x ∷ []) ≡ map fronted xs ++ fronted x ∷ []
fronted_last [] x = refl
fronted_last (y ∷ ys) x = ap (λ (ns : List (List ℕ)). fronted y ∷ ns) (fronted_last ys x)
