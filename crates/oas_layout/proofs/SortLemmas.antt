-- Entries in the order of their names.
use Rattle.std.proofs.Common.{◌≡◌, ◌==◌, ℕ, suc, Bool, true, false, ◌||◌, List, [], ◌∷◌, ◌⊎◌, inl, inr, refl, sym, ap, subst, ◌∙◌, add-one, true≢false, arith}
use Rattle.std.specs.List.{AllByRecursion, IsDistinct, list_any}
use Rattle.std.specs.List.Sorted.{IsStrictlySortedBy, IsPermutation, IsSortedByKey}
use Rattle.std.specs.Map.{keys_of}
use Rattle.std.specs.BTreeMap.{insert_entry}
use Rattle.std.specs.Ordering.{is_lt, is_eq, match_ordering, ordering_reverse}
use Rattle.std.specs.declared.cmp.Ordering.{Ordering}
use Rattle.std.specs.declared.cmp.Ordering.TheVariants.{Less, Equal, Greater}
use Rattle.std.specs.Cmp.Lexicographic.{pointwise, nat_list_cmp_total, texts_ties}
use Rattle.std.proofs.lemmas.Cmp.{tied_itself, nat_list_eq_equiv}
use Rattle.std.proofs.lemmas.List.Elements.{All-from_recursion, recursion_from_All}
use Rattle.std.proofs.lemmas.List.Sorted.{IsPermutation-refl, IsPermutation-sym, IsPermutation-trans, IsPermutation-cons, IsPermutation-middle, IsPermutation-map, All-permutation}
use Rattle.std.proofs.lemmas.Map.Keys.{IsDistinct-IsPermutation, IsDistinct-head, IsDistinct-tail, IsDistinct-from_sorted, sorted_head, sorted_tail}
use Rattle.oas_elements.proofs.Sealed.{name_cmp}
use Rattle.oas_form.specs.Names.{same_string}
use Rattle.oas_form.specs.Meaning.{has_twice}

-- no two names are equal
abbrev pub AreApart : List (List ℕ) → Type 0
AreApart ns = IsDistinct (pointwise ◌==◌) ns

-- a name is below all of these
abbrev IsBelow : List ℕ → List (List ℕ) → Type 0
IsBelow n ns = AllByRecursion (λ m. name_cmp n m ≡ Less) ns

not_below_itself : (n : List ℕ) → name_cmp n n ≡ Less → ⊥
not_below_itself n less = let no : ◌≡◌ {A = Ordering} Less Equal = sym less ∙ tied_itself nat_list_cmp_total n in true≢false (ap is_lt no)

below_more : (k n : List ℕ) (ns : List (List ℕ)) → name_cmp k n ≡ Less → IsBelow n ns → IsBelow k ns
below_more k n [] less below = tt
below_more k n (m ∷ ms) less below = (nat_list_cmp_total.trans k n m less below.0, below_more k n ms less below.1)

neither : (a b : Bool) → (a || b) ≡ false → (a ≡ false) × (b ≡ false)
neither true b h = absurd (true≢false h)
neither false b h = (refl, h)

-- names that rise differ
apart_from_strictly : (ns : List (List ℕ)) → IsStrictlySortedBy name_cmp ns → AreApart ns
apart_from_strictly ns up = subst (λ (e : List ℕ → List ℕ → Bool). IsDistinct e ns) (λ i x y. sym (texts_ties x y) i) (IsDistinct-from_sorted name_cmp ns up)

-- a name that isn't above another, and isn't equal to it, is below it
rises : (a b : List ℕ) (r : Ordering) → name_cmp a b ≡ r → is_lt (name_cmp b a) ≡ false → pointwise ◌==◌ a b ≡ false → r ≡ Less
rises a b Less is up apart = refl
rises a b Equal is up apart = absurd (true≢false (sym (ap is_eq is) ∙ sym (texts_ties a b) ∙ apart))
rises a b Greater is up apart = absurd (true≢false (ap is_lt (sym (nat_list_cmp_total.antisymm b a ∙ ap ordering_reverse is)) ∙ up))

-- where no name is there twice no two are equal
none_same : (n : List ℕ) (ns : List (List ℕ)) → list_any (same_string n) ns ≡ false → AllByRecursion (λ m. pointwise ◌==◌ n m ≡ false) ns
none_same n [] none = tt
none_same n (m ∷ ms) none = let both = neither (same_string n m) (list_any (same_string n) ms) none in (both.0, none_same n ms both.1)

pub apart_from_once : (ns : List (List ℕ)) → has_twice ns ≡ false → AreApart ns
unfolding IsDistinct
apart_from_once [] once = tt
apart_from_once (n ∷ ns) once = let both = neither (list_any (same_string n) ns) (has_twice ns) once in (none_same n ns both.0, apart_from_once ns both.1)

module _ {V : Type 0} where
  -- what differs from all of them still does in another order
  pub others_apart : (n : List ℕ) (es fs : List (List ℕ × V)) → IsPermutation es fs → AllByRecursion (λ m. pointwise ◌==◌ n m ≡ false) (keys_of es) → AllByRecursion (λ m. pointwise ◌==◌ n m ≡ false) (keys_of fs)
  others_apart n es fs same apart =
      recursion_from_All (λ m. pointwise ◌==◌ n m ≡ false) (keys_of fs) (All-permutation (λ m. pointwise ◌==◌ n m ≡ false) (keys_of es) (keys_of fs) (IsPermutation-map (λ (e : List ℕ × V). e.0) es fs same)
      (All-from_recursion (λ m. pointwise ◌==◌ n m ≡ false) (keys_of es) apart))

  -- in another order the names still differ
  pub still_apart : (es fs : List (List ℕ × V)) → IsPermutation es fs → AreApart (keys_of es) → AreApart (keys_of fs)
  still_apart es fs same =
      IsDistinct-IsPermutation (pointwise ◌==◌) nat_list_eq_equiv.symm (keys_of es) (keys_of fs) (IsPermutation-map (λ (e : List ℕ × V). e.0) es fs same)

  -- ---- names that don't fall, and of which no two are equal, rise

  sorted_rest : (e : List ℕ × V) (es : List (List ℕ × V)) → IsSortedByKey (λ r. r.0) name_cmp (e ∷ es) → IsSortedByKey (λ r. r.0) name_cmp es
  sorted_rest e es up = λ k d p q. rw add-one (rw add-one at (up (suc k) d (omega arith) (omega arith)))

  below_rest : (e : List ℕ × V) (es : List (List ℕ × V)) → IsSortedByKey (λ r. r.0) name_cmp (e ∷ es) → AllByRecursion (λ n. pointwise ◌==◌ e.0 n ≡ false) (keys_of es)
      → IsStrictlySortedBy name_cmp (keys_of es) → IsBelow e.0 (keys_of es)
  below_rest e [] up apart rest = tt
  below_rest e (f ∷ fs) up apart rest =
      let less : name_cmp e.0 f.0 ≡ Less = rises e.0 f.0 (name_cmp e.0 f.0) refl (up 0 e (omega arith) (omega arith)) apart.0 in
      (less, below_more e.0 f.0 (keys_of fs) less (sorted_head name_cmp f.0 (keys_of fs) rest))

  pub strictly : (es : List (List ℕ × V)) → IsSortedByKey (λ r. r.0) name_cmp es → AreApart (keys_of es) → IsStrictlySortedBy name_cmp (keys_of es)
  unfolding IsStrictlySortedBy
  strictly [] up apart = tt
  strictly (e ∷ es) up apart =
      let rest = strictly es (sorted_rest e es up) (IsDistinct-tail (pointwise ◌==◌) e.0 (keys_of es) apart) in
      (below_rest e es up (IsDistinct-head (pointwise ◌==◌) e.0 (keys_of es) apart) rest, rest)

  -- ---- there is one order in which names rise

  -- this entry is there
  abbrev IsThere : (List ℕ × V) → List (List ℕ × V) → Type 0
  IsThere e [] = ⊥
  IsThere e (f ∷ fs) = (e ≡ f) ⊎ IsThere e fs

  abbrev AreThere : List (List ℕ × V) → List (List ℕ × V) → Type 0
  AreThere es fs = AllByRecursion (λ f. IsThere f es) fs

  there_more : (e : List ℕ × V) (es fs : List (List ℕ × V)) → AreThere es fs → AreThere (e ∷ es) fs
  there_more e es [] h = tt
  there_more e es (f ∷ fs) h = (inr h.0, there_more e es fs h.1)

  there_itself : (es : List (List ℕ × V)) → AreThere es es
  there_itself [] = tt
  there_itself (e ∷ es) = (inl refl, there_more e es es (there_itself es))

  there_moved : (es fs : List (List ℕ × V)) → IsPermutation es fs → AreThere es fs
  there_moved es fs same = recursion_from_All (λ f. IsThere f es) fs (All-permutation (λ f. IsThere f es) es fs same (All-from_recursion (λ f. IsThere f es) es (there_itself es)))

  -- what is there is above a name that is below all
  above : (n : List ℕ) (e : List ℕ × V) (es : List (List ℕ × V)) → IsBelow n (keys_of es) → IsThere e es → name_cmp n e.0 ≡ Less
  above n e [] below h = absurd h
  above n e (f ∷ fs) below (inl is) = ap (λ (x : List ℕ × V). name_cmp n x.0) is ∙ below.0
  above n e (f ∷ fs) below (inr h) = above n e fs below.1 h

  same_first : (e f : List ℕ × V) (es fs : List (List ℕ × V)) → IsBelow e.0 (keys_of es) → IsBelow f.0 (keys_of fs) → IsThere f (e ∷ es) → IsThere e (f ∷ fs) → e ≡ f
  same_first e f es fs over_es over_fs (inl is) there = sym is
  same_first e f es fs over_es over_fs (inr h) (inl is) = is
  same_first e f es fs over_es over_fs (inr h) (inr g) = absurd (not_below_itself e.0 (nat_list_cmp_total.trans e.0 f.0 e.0 (above e.0 f es over_es h) (above f.0 e fs over_fs g)))

  -- what isn't the first is among the others
  there_rest : (e : List ℕ × V) (es fs : List (List ℕ × V)) → IsBelow e.0 (keys_of fs) → AreThere (e ∷ es) fs → AreThere es fs
  there_rest e es [] below h = tt
  there_rest e es (f ∷ fs) below h = (later h.0, there_rest e es fs below.1 h.1) where
    later : IsThere f (e ∷ es) → IsThere f es
    later (inl is) = absurd (not_below_itself e.0 (ap (λ (x : List ℕ × V). name_cmp e.0 x.0) (sym is) ∙ below.0))
    later (inr g) = g

  one_order : (es fs : List (List ℕ × V)) → IsStrictlySortedBy name_cmp (keys_of es) → IsStrictlySortedBy name_cmp (keys_of fs) → AreThere es fs → AreThere fs es → es ≡ fs
  one_order [] [] up also there back = refl
  one_order [] (f ∷ fs) up also there back = absurd there.0
  one_order (e ∷ es) [] up also there back = absurd back.0
  one_order (e ∷ es) (f ∷ fs) up also there back =
      let over_es = sorted_head name_cmp e.0 (keys_of es) up in
      let over_fs = sorted_head name_cmp f.0 (keys_of fs) also in
      let first : e ≡ f = same_first e f es fs over_es over_fs there.0 back.0 in
      let rest : es ≡ fs = one_order es fs (sorted_tail name_cmp e.0 (keys_of es) up) (sorted_tail name_cmp f.0 (keys_of fs) also)
      (there_rest e es fs (subst (λ (x : List ℕ × V). IsBelow x.0 (keys_of fs)) (sym first) over_fs) there.1)
      (there_rest f fs es (subst (λ (x : List ℕ × V). IsBelow x.0 (keys_of es)) first over_es) back.1) in
      λ i. first i ∷ rest i

  -- so that a sort has one result
  pub sorted_is : (es fs : List (List ℕ × V)) → IsStrictlySortedBy name_cmp (keys_of es) → IsPermutation es fs → IsSortedByKey (λ r. r.0) name_cmp fs → fs ≡ es
  sorted_is es fs up same sorted =
      let apart = still_apart es fs same (apart_from_strictly (keys_of es) up) in
      sym (one_order es fs up (strictly fs sorted apart) (there_moved es fs same) (there_moved fs es (IsPermutation-sym es fs same)))

  -- ---- an entry in its place

  -- a name that is not there goes among the others
  pub put_among : (es : List (List ℕ × V)) (n : List ℕ) (v : V) → AllByRecursion (λ m. pointwise ◌==◌ n m ≡ false) (keys_of es) → IsPermutation ((n, v) ∷ es) (insert_entry name_cmp es n v)
  put_among [] n v h = IsPermutation-refl _
  put_among (e ∷ es) n v h =
      elim (name_cmp n e.0) as (λ r. is_eq r ≡ false → IsPermutation ((n, v) ∷ e ∷ es) (match_ordering r ((n, v) ∷ e ∷ es) ((e.0, v) ∷ es) (e ∷ insert_entry name_cmp es n v))) [
        | Less ↦ λ r. IsPermutation-refl _
        | Equal ↦ λ r. absurd (true≢false r)
        | Greater ↦ λ r. IsPermutation-trans _ _ _ (IsPermutation-sym _ _ (IsPermutation-middle (e ∷ []) (n, v) es)) (IsPermutation-cons e _ _ (put_among es n v h.1))
      ] (sym (texts_ties n e.0) ∙ h.0)
