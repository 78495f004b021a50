-- Layouts that are the same have as many elements. Under profile one they weigh as much, and one in order weighs no more than
-- any that is the same.
use Rattle.std.proofs.Common.{◌≡◌, ℕ, ◌+◌, ◌<◌, ◌≤◌, List, [], ◌∷◌, Bool, true, false, cond, Option, None, Some, is_some, unwrap_or, length, refl, sym, ◌∙◌, ap, T, ◌&&◌, ◌||◌, arith}
use Rattle.std.specs.Prelude.{sum_by, ◌==◌}
use Rattle.std.specs.List.{AllByRecursion, list_any}
use Rattle.std.specs.List.Sorted.{IsStrictlySortedBy}
use Rattle.std.specs.Map.{keys_of}
use Rattle.std.specs.Ordering.{is_lt, is_eq, match_ordering, ordering_reverse}
use Rattle.std.specs.declared.cmp.Ordering.{Ordering}
use Rattle.std.specs.declared.cmp.Ordering.TheVariants.{Less, Equal, Greater}
use Rattle.std.specs.FinMap.Entries.{by_order, put, find, below_all, is_sorted, is_sorted-put, find-put}
use Rattle.std.proofs.lemmas.Map.Keys.{sorted_head, sorted_tail}
use Rattle.std.proofs.lemmas.List.Sums.{sum_by-cons}
use Rattle.std.specs.Cmp.Lexicographic.{pointwise, nat_list_cmp_total, texts_ties}
use Rattle.oas_elements.specs.declared.profile.Profile.{Profile}
use Rattle.oas_elements.specs.declared.profile.Profile.TheVariants.{One}
use Rattle.oas_elements.specs.declared.element.Element.{Element}
use Rattle.oas_elements.specs.Element.{element_cmp}
use Rattle.oas_elements.specs.Laws.ElementLaws.{element_total}
use Rattle.oas_elements.specs.Ascending.{Ascends}
use Rattle.oas_elements.specs.Bag.{items, put_more, with_more, IsBag}
use Rattle.oas_elements.specs.Laws.BagLaws.{adding}
use Rattle.oas_elements.specs.Same.{same_element, normal, IsNormal}
use Rattle.oas_elements.specs.Laws.SameLaws.{normal-normal, weight_of-normal, weight_of-normal-le}
use Rattle.oas_elements.specs.Weight.{weight_of}
use Rattle.oas_elements.specs.Meaning.{Meaning, SameLayout, count_of, elements_of, cells_sum, element_count, cells_weight}
use Rattle.oas_elements.specs.Laws.ContentsLaws.{length-items-with_more, weight-with_more}
use Rattle.oas_elements.proofs.LawProofs.{symmetric, transitive}
use Rattle.oas_elements.proofs.Order.{IsBag-empty, IsBag-put_more}
use Rattle.oas_elements.proofs.Sealed.{name_cmp}
use Rattle.oas_file.specs.Names.{same_string}
use Rattle.oas_file.specs.Meaning.{has_twice}
use Rattle.oas_form.specs.Records.{Cells}
use Rattle.oas_form.specs.Canonical.{IsOrdered}
use Rattle.oas_form.specs.Layouts.{SameCount, SameWeight, LeastWeight}
use Rattle.oas_form.proofs.OrderedLayouts.{find_is, same_cells, items_ascend, items_normal}

-- ---- more of an element leaves a bag

above_put_more : (x k : Element) (n : ℕ) (es : List (Element × ℕ)) → element_cmp x k ≡ Less → AllByRecursion (λ y. element_cmp x y ≡ Less) (keys_of es) →
    AllByRecursion (λ y. element_cmp x y ≡ Less) (keys_of (put_more element_cmp es k n))
above_put_more x k n [] l h = (l, tt)
above_put_more x k n (p ∷ ps) l h =
    elim (element_cmp k p.0) as (λ r. AllByRecursion (λ y. element_cmp x y ≡ Less) (keys_of (match_ordering r ((k, n) ∷ p ∷ ps) ((p.0, p.1 + n) ∷ ps) (p ∷ put_more element_cmp ps k n)))) [
      | Less ↦ (l, h)
      | Equal ↦ h
      | Greater ↦ (h.0, above_put_more x k n ps l h.1)
    ]

below_more : (k x : Element) (ks : List Element) → element_cmp k x ≡ Less → AllByRecursion (λ y. element_cmp x y ≡ Less) ks → AllByRecursion (λ y. element_cmp k y ≡ Less) ks
below_more k x [] l h = tt
below_more k x (y ∷ ys) l h = (element_total.trans k x y l h.0, below_more k x ys l h.1)

sorted_cons : (k : Element) (ks : List Element) → AllByRecursion (λ y. element_cmp k y ≡ Less) ks → IsStrictlySortedBy element_cmp ks → IsStrictlySortedBy element_cmp (k ∷ ks)
unfolding IsStrictlySortedBy
sorted_cons k ks h s = (h, s)

sorted_put_more : (es : List (Element × ℕ)) (k : Element) (n : ℕ) → IsStrictlySortedBy element_cmp (keys_of es) → IsStrictlySortedBy element_cmp (keys_of (put_more element_cmp es k n))
sorted_put_more [] k n s = sorted_cons k [] tt s
sorted_put_more (p ∷ ps) k n s =
    let head = sorted_head element_cmp p.0 (keys_of ps) s in
    let tail = sorted_tail element_cmp p.0 (keys_of ps) s in
    elim (element_cmp k p.0) as (λ r. element_cmp k p.0 ≡ r → IsStrictlySortedBy element_cmp (keys_of (match_ordering r ((k, n) ∷ p ∷ ps) ((p.0, p.1 + n) ∷ ps) (p ∷ put_more element_cmp ps k n)))) [
      | Less ↦ λ l. sorted_cons k (p.0 ∷ keys_of ps) (l, below_more k p.0 (keys_of ps) l head) s
      | Equal ↦ λ e. s
      | Greater ↦ λ g. sorted_cons p.0 (keys_of (put_more element_cmp ps k n)) (above_put_more p.0 k n ps (element_total.antisymm p.0 k ∙ ap ordering_reverse g) head) (sorted_put_more ps k n tail)
    ] refl

positive_put_more : (es : List (Element × ℕ)) (k : Element) (n : ℕ) → 0 < n → AllByRecursion (λ p. 0 < p.1) es → AllByRecursion (λ p. 0 < p.1) (put_more element_cmp es k n)
positive_put_more [] k n h all = (h, tt)
positive_put_more (p ∷ ps) k n h all =
    elim (element_cmp k p.0) as (λ r. AllByRecursion (λ p. 0 < p.1) (match_ordering r ((k, n) ∷ p ∷ ps) ((p.0, p.1 + n) ∷ ps) (p ∷ put_more element_cmp ps k n))) [
      | Less ↦ (h, all)
      | Equal ↦ (omega arith, all.1)
      | Greater ↦ (all.0, positive_put_more ps k n h all.1)
    ]

-- ---- the elements of a cell, in order

module _ (profile : Profile) where
  -- the elements in their kept forms, counted
  abbrev pub tally : List Element → List (Element × ℕ)
  tally [] = []
  tally (x ∷ xs) = with_more (tally xs) (normal profile x) 1

  pub tally_is_bag : (xs : List Element) → IsBag profile (tally xs)
  tally_is_bag [] = IsBag-empty profile [] refl
  tally_is_bag (x ∷ xs) =
      let b = tally_is_bag xs in
      IsBag-put_more profile (tally xs) (tally (x ∷ xs)) (normal profile x) 1 (normal-normal profile x) b
      (record { ascending = sorted_put_more (tally xs) (normal profile x) 1 b.tally.ascending; positive = positive_put_more (tally xs) (normal profile x) 1 (omega arith) b.tally.positive }) refl

  pub tally_count : (q : Element) (xs : List Element) → count_of profile q (items (tally xs)) ≡ count_of profile q xs
  tally_count q [] = refl
  tally_count q (x ∷ xs) =
      let more = adding profile (tally xs) x q 1 in
      let there = sum_by-cons (λ y. cond (same_element profile q y) 1 0) x xs in
      omega (arith, more, there, tally_count q xs)

  tally_length : (xs : List Element) → length (items (tally xs)) ≡ length xs
  tally_length [] = refl
  tally_length (x ∷ xs) = omega (arith, length-items-with_more (normal profile x) 1 (tally xs), tally_length xs)

  tally_weight : (xs : List Element) → sum_by weight_of (items (tally xs)) ≤ sum_by weight_of xs
  tally_weight [] = omega arith
  tally_weight (x ∷ xs) = omega (arith, weight-with_more (normal profile x) 1 (tally xs), sum_by-cons weight_of x xs, weight_of-normal-le profile x, tally_weight xs)

tally_weighs : (xs : List Element) → sum_by weight_of (items (tally One xs)) ≡ sum_by weight_of xs
tally_weighs [] = refl
tally_weighs (x ∷ xs) = omega (arith, weight-with_more (normal One x) 1 (tally One xs), sum_by-cons weight_of x xs, weight_of-normal x, tally_weighs xs)

-- ---- the cells, in order

split : (a b : Bool) → T (a && b) → T a × T b
split true b h = (tt, h)
split false b h = absurd h

is_less : (r : Ordering) → T (is_lt r) → r ≡ Less
is_less Less h = refl
is_less Equal h = absurd h
is_less Greater h = absurd h

above_all : (x : List ℕ) (cs : Cells) → T (below_all name_cmp x cs) → AllByRecursion (λ k. name_cmp x k ≡ Less) (keys_of cs)
above_all x [] h = tt
above_all x (c ∷ cs) h = let both = split _ _ h in (is_less _ both.0, above_all x cs both.1)

strictly : (cs : Cells) → T (is_sorted name_cmp cs) → IsStrictlySortedBy name_cmp (keys_of cs)
unfolding IsStrictlySortedBy
strictly [] h = tt
strictly (c ∷ cs) h = let both = split _ _ h in (above_all c.0 cs both.0, strictly cs both.1)

pub all_put : (P : List Element → Type 0) (k : List ℕ) (v : List Element) (cs : Cells) → P v → AllByRecursion (λ c. P c.1) cs → AllByRecursion (λ c. P c.1) (put name_cmp k v cs)
all_put P k v [] h all = (h, tt)
all_put P k v (c ∷ cs) h all =
    elim (name_cmp k c.0) as (λ r. AllByRecursion (λ c. P c.1) (by_order r ((k, v) ∷ c ∷ cs) ((c.0, v) ∷ cs) (c ∷ put name_cmp k v cs))) [
      | Less ↦ (h, all)
      | Equal ↦ (h, all.1)
      | Greater ↦ (all.0, all_put P k v cs h all.1)
    ]

-- a cell with a new name adds what it has itself
sum_put : (f : List ℕ × List Element → ℕ) (k : List ℕ) (v : List Element) (cs : Cells) → find name_cmp k cs ≡ None → cells_sum f (put name_cmp k v cs) ≡ f (k, v) + cells_sum f cs
sum_put f k v [] none = refl
sum_put f k v (c ∷ cs) none =
    elim (name_cmp k c.0) as (λ r. cond (is_eq r) (Some c.1) (find name_cmp k cs) ≡ None →
    cells_sum f (by_order r ((k, v) ∷ c ∷ cs) ((c.0, v) ∷ cs) (c ∷ put name_cmp k v cs)) ≡ f (k, v) + (f c + cells_sum f cs)) [
      | Less ↦ λ e. refl
      | Equal ↦ λ e. cc
      | Greater ↦ λ e. omega (arith, sum_put f k v cs e)
    ] none

-- a name that isn't among those of the cells
absent : (k : List ℕ) (cs : Cells) → list_any (same_string k) (keys_of cs) ≡ false → is_some (elements_of k cs) ≡ false
absent k [] h = refl
absent k (c ∷ cs) h =
    elim (same_string k c.0) as (λ b. (b || list_any (same_string k) (keys_of cs)) ≡ false → is_some (cond b (Some c.1) (elements_of k cs)) ≡ false) [
      | true ↦ λ e. e
      | false ↦ λ e. absent k cs e
    ] h

neither : (a b : Bool) → (a || b) ≡ false → (a ≡ false) × (b ≡ false)
neither true b h = let no : ⊥ = cc in absurd no
neither false b h = (refl, h)

nothing_found : (o : Option (List Element)) → is_some o ≡ false → o ≡ None
nothing_found None h = refl
nothing_found (Some x) h = cc

module _ (profile : Profile) where
  -- the cells by ascending names, and the elements of each in order
  abbrev pub ordered : Cells → Cells
  ordered [] = []
  ordered (c ∷ cs) = put name_cmp c.0 (items (tally profile c.1)) (ordered cs)

  names_sorted : (cs : Cells) → T (is_sorted name_cmp (ordered cs))
  names_sorted [] = tt
  names_sorted (c ∷ cs) = is_sorted-put name_cmp nat_list_cmp_total c.0 (items (tally profile c.1)) (ordered cs) (names_sorted cs)

  cells_ascend : (cs : Cells) → AllByRecursion (λ c. Ascends element_cmp c.1) (ordered cs)
  cells_ascend [] = tt
  cells_ascend (c ∷ cs) = all_put (Ascends element_cmp) c.0 (items (tally profile c.1)) (ordered cs) (items_ascend (tally profile c.1) (tally_is_bag profile c.1).tally.ascending) (cells_ascend cs)

  cells_normal : (cs : Cells) → AllByRecursion (λ c. AllByRecursion (IsNormal profile) c.1) (ordered cs)
  cells_normal [] = tt
  cells_normal (c ∷ cs) = all_put (AllByRecursion (IsNormal profile)) c.0 (items (tally profile c.1)) (ordered cs)
      (items_normal profile (tally profile c.1) (tally_is_bag profile c.1).normal) (cells_normal cs)

  pub is_ordered : (cs : Cells) → IsOrdered profile (ordered cs)
  is_ordered cs = record { names = strictly (ordered cs) (names_sorted cs); ascending = cells_ascend cs; normal = cells_normal cs }

  found : (name : List ℕ) (c : List ℕ × List Element) (cs : Cells) →
      elements_of name (ordered (c ∷ cs)) ≡ cond (pointwise ◌==◌ name c.0) (Some (items (tally profile c.1))) (elements_of name (ordered cs))
  found name c cs =
      sym (find_is name (ordered (c ∷ cs))) ∙ find-put name_cmp nat_list_cmp_total name c.0 (items (tally profile c.1)) (ordered cs)
      ∙ (λ i. cond (sym (texts_ties name c.0) i) (Some (items (tally profile c.1))) (find_is name (ordered cs) i))

  there : (name : List ℕ) (cs : Cells) → is_some (elements_of name (ordered cs)) ≡ is_some (elements_of name cs)
  there name [] = refl
  there name (c ∷ cs) =
      ap is_some (found name c cs)
      ∙ elim (pointwise ◌==◌ name c.0) as (λ b. is_some (cond b (Some (items (tally profile c.1))) (elements_of name (ordered cs))) ≡ is_some
      (cond b (Some c.1) (elements_of name cs))) [ true ↦ refl | false ↦ there name cs ]

  as_often : (name : List ℕ) (q : Element) (cs : Cells) → count_of profile q (unwrap_or (elements_of name (ordered cs)) []) ≡ count_of profile q (unwrap_or (elements_of name cs) [])
  as_often name q [] = refl
  as_often name q (c ∷ cs) =
      ap (λ o. count_of profile q (unwrap_or o [])) (found name c cs)
      ∙ elim (pointwise ◌==◌ name c.0) as (λ b. count_of profile q (unwrap_or (cond b (Some (items (tally profile c.1))) (elements_of name (ordered cs))) []) ≡ count_of profile q
      (unwrap_or (cond b (Some c.1) (elements_of name cs)) [])) [
        | true ↦ tally_count profile q c.1
        | false ↦ as_often name q cs
      ]

  -- the layout, put in order
  abbrev pub in_order : Meaning → Meaning
  in_order m = record { unit = m.unit; cells = ordered m.cells }

  pub in_order_same : (m : Meaning) → SameLayout profile (in_order m) m
  in_order_same m = record { unit = refl; cells = λ name. there name m.cells; counts = λ name q. as_often name q m.cells }

  new_name : (c : List ℕ × List Element) (cs : Cells) → has_twice (keys_of (c ∷ cs)) ≡ false → (find name_cmp c.0 (ordered cs) ≡ None) × (has_twice (keys_of cs) ≡ false)
  new_name c cs h =
      let apart = neither (list_any (same_string c.0) (keys_of cs)) (has_twice (keys_of cs)) h in
      (find_is c.0 (ordered cs) ∙ nothing_found (elements_of c.0 (ordered cs)) (there c.0 cs ∙ absent c.0 cs apart.0), apart.1)

  pub ordered_count : (cs : Cells) → has_twice (keys_of cs) ≡ false → element_count (ordered cs) ≡ element_count cs
  ordered_count [] h = refl
  ordered_count (c ∷ cs) h =
      let new = new_name c cs h in
      omega (arith, sum_put (λ c. length c.1) c.0 (items (tally profile c.1)) (ordered cs) new.0, tally_length profile c.1, ordered_count cs new.1)

  pub ordered_weight : (cs : Cells) → has_twice (keys_of cs) ≡ false → cells_weight (ordered cs) ≤ cells_weight cs
  ordered_weight [] h = omega arith
  ordered_weight (c ∷ cs) h =
      let new = new_name c cs h in
      omega (arith, sum_put (λ c. (1 + length c.0) + sum_by weight_of c.1) c.0 (items (tally profile c.1)) (ordered cs) new.0, tally_weight profile c.1, ordered_weight cs new.1)

  -- layouts that are the same have one order
  one_order : (m n : Meaning) → SameLayout profile m n → ordered m.cells ≡ ordered n.cells
  one_order m n s =
      same_cells profile (in_order m) (in_order n) (is_ordered m.cells) (is_ordered n.cells)
      (transitive profile (in_order m) m (in_order n) (in_order_same m) (transitive profile m n (in_order n) s (symmetric profile (in_order n) n (in_order_same n))))

ordered_weighs : (cs : Cells) → has_twice (keys_of cs) ≡ false → cells_weight (ordered One cs) ≡ cells_weight cs
ordered_weighs [] h = refl
ordered_weighs (c ∷ cs) h =
    let new = new_name One c cs h in
    omega (arith, sum_put (λ c. (1 + length c.0) + sum_by weight_of c.1) c.0 (items (tally One c.1)) (ordered One cs) new.0, tally_weighs c.1, ordered_weighs cs new.1)

-- ---- as many, as heavy

pub same_count : SameCount
same_count profile m n p q s = sym (ordered_count profile n.cells q) ∙ ap element_count (sym (one_order profile m n s)) ∙ ordered_count profile m.cells p

pub same_weight : SameWeight
same_weight m n p q s = sym (ordered_weighs n.cells q) ∙ ap cells_weight (sym (one_order One m n s)) ∙ ordered_weighs m.cells p

pub least_weight : LeastWeight
least_weight profile m n p o s =
    let e : ordered profile m.cells ≡ n.cells = same_cells profile (in_order profile m) n (is_ordered profile m.cells) o (transitive profile (in_order profile m) m n (in_order_same profile m) s) in
    omega (arith, ap cells_weight e, ordered_weight profile m.cells p)
