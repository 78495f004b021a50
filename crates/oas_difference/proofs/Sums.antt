-- Sums over keys that ascend, and over the numbers beside them.
use Rattle.std.proofs.Common.{◌≡◌, ℕ, ◌+◌, ◌≤◌, List, [], ◌∷◌, length, flat_map, sum_by, cond, Bool, true, false, Option, None, Some}
use Rattle.std.proofs.Common.{length-append, refl, ◌∙◌, ap, subst, arith}
use Rattle.std.specs.Ordering.{is_eq, match_ordering, ordering_reverse}
use Rattle.std.specs.Cmp.{IsTotalOrder}
use Rattle.std.specs.declared.cmp.Ordering.{Ordering}
use Rattle.std.specs.declared.cmp.Ordering.TheVariants.{Less, Equal, Greater}
use Rattle.std.specs.List.Sorted.{IsStrictlySortedBy}
use Rattle.std.proofs.lemmas.Map.Keys.{sorted_head, sorted_tail}
use Rattle.std.specs.BTreeSet.{insert_key}
use Rattle.std.proofs.lemmas.List.Sums.{sum_by-cons}
use Rattle.std.proofs.lemmas.Map.Lookups.{CmpEqualImpliesEq}
use Rattle.oas_difference.specs.Ascending.{ascending}
use Rattle.oas_difference.specs.Pairs.{found}
use Rattle.oas_difference.proofs.Ascending.{Below, below_chain, above, all_insert}

-- ---- sums over what is ascending

module _ {K : Type 0} (R : K → K → Ordering) where
  pub sum_insert : (g : K → ℕ) (ks : List K) (k : K) → sum_by g (insert_key R ks k) ≤ g k + sum_by g ks
  sum_insert g [] k = omega (arith, sum_by-cons g k [])
  sum_insert g (x ∷ xs) k =
      elim (R k x) as (λ r. sum_by g (match_ordering r (k ∷ x ∷ xs) (x ∷ xs) (x ∷ insert_key R xs k)) ≤ g k + sum_by g (x ∷ xs)) [
        | Less ↦ omega (arith, sum_by-cons g k (x ∷ xs))
        | Equal ↦ omega arith
        | Greater ↦ omega (arith, sum_by-cons g x (insert_key R xs k), sum_by-cons g x xs, sum_insert g xs k)
      ]

  -- each once is no more than each as often as it is there
  pub sum_ascending : (g : K → ℕ) (xs : List K) → sum_by g (ascending R xs) ≤ sum_by g xs
  sum_ascending g [] = omega arith
  sum_ascending g (x ∷ xs) = omega (arith, sum_insert g (ascending R xs) x, sum_ascending g xs, sum_by-cons g x xs)

  module _ (o : IsTotalOrder R) where
    pub sorted_insert : (ks : List K) (k : K) → IsStrictlySortedBy R ks → IsStrictlySortedBy R (insert_key R ks k)
    unfolding IsStrictlySortedBy
    sorted_insert [] k s = (tt, tt)
    sorted_insert (x ∷ xs) k s =
        elim (R k x) as (λ r. R k x ≡ r → IsStrictlySortedBy R (match_ordering r (k ∷ x ∷ xs) (x ∷ xs) (x ∷ insert_key R xs k))) [
          | Less ↦ λ h. ((h, below_chain o k x xs h (sorted_head R x xs s)), s)
          | Equal ↦ λ h. s
          | Greater ↦ λ h. (all_insert (λ y. R x y ≡ Less) R xs k (sorted_head R x xs s) (o.antisymm x k ∙ ap ordering_reverse h), sorted_insert xs k (sorted_tail R x xs s))
        ] refl

    pub sorted_ascending : (xs : List K) → IsStrictlySortedBy R (ascending R xs)
    unfolding IsStrictlySortedBy
    sorted_ascending [] = tt
    sorted_ascending (x ∷ xs) = sorted_insert (ascending R xs) x (sorted_ascending xs)

    module _ (exact : CmpEqualImpliesEq R) (F : K → ℕ) (j : K) where
      -- what a key that ties with j gives
      pub at_tie : K → ℕ
      at_tie k = cond (is_eq (R k j)) (F k) 0

      -- none of those that are above j
      pub sum_above : (ks : List K) → Below o j ks → sum_by at_tie ks ≡ 0
      unfolding at_tie
      sum_above [] b = refl
      sum_above (k ∷ ks) b =
          let none : cond (is_eq (R k j)) (F k) 0 ≡ 0 = ap (λ r. cond (is_eq r) (F k) 0) (above o j k b.0) in
          omega (arith, sum_by-cons at_tie k ks, none, sum_above ks b.1)

      -- at most one of those that strictly ascend ties with j
      pub sum_once : (ks : List K) → IsStrictlySortedBy R ks → sum_by at_tie ks ≤ F j
      unfolding at_tie
      sum_once [] s = omega arith
      sum_once (k ∷ ks) s = by_order (R k j) refl (sum_once ks (sorted_tail R k ks s)) where
        by_order : (r : Ordering) → R k j ≡ r → sum_by at_tie ks ≤ F j → sum_by at_tie (k ∷ ks) ≤ F j
        by_order Less h later =
            let none : cond (is_eq (R k j)) (F k) 0 ≡ 0 = ap (λ r. cond (is_eq r) (F k) 0) h in
            omega (arith, sum_by-cons at_tie k ks, none, later)
        by_order Greater h later =
            let none : cond (is_eq (R k j)) (F k) 0 ≡ 0 = ap (λ r. cond (is_eq r) (F k) 0) h in
            omega (arith, sum_by-cons at_tie k ks, none, later)
        by_order Equal h later =
            let is : k ≡ j = exact k j h in
            let one : cond (is_eq (R k j)) (F k) 0 ≡ F j = ap (λ r. cond (is_eq r) (F k) 0) h ∙ ap F is in
            let none : sum_by at_tie ks ≡ 0 = sum_above ks (subst (λ (x : K). Below o x ks) is (sorted_head R k ks s)) in
            omega (arith, sum_by-cons at_tie k ks, one, none)

module _ {A : Type 0} where
  pub sum_le : (f g : A → ℕ) → ((x : A) → f x ≤ g x) → (xs : List A) → sum_by f xs ≤ sum_by g xs
  sum_le f g h [] = omega arith
  sum_le f g h (x ∷ xs) = omega (arith, sum_by-cons f x xs, sum_by-cons g x xs, h x, sum_le f g h xs)

  pub two_sums : (f g h : A → ℕ) → ((x : A) → f x ≤ g x + h x) → (xs : List A) → sum_by f xs ≤ sum_by g xs + sum_by h xs
  two_sums f g h p [] = omega arith
  two_sums f g h p (x ∷ xs) = omega (arith, sum_by-cons f x xs, sum_by-cons g x xs, sum_by-cons h x xs, p x, two_sums f g h p xs)

  pub length-texts : (f : A → List ℕ) (xs : List A) → length (flat_map f xs) ≡ sum_by (λ x. length (f x)) xs
  length-texts f [] = refl
  length-texts f (x ∷ xs) = omega (arith, length-append (f x) (flat_map f xs), sum_by-cons (λ x. length (f x)) x xs, length-texts f xs)

-- ---- sums over the numbers beside keys

module _ {K V : Type 0} (R : K → K → Ordering) (o : IsTotalOrder R) (exact : CmpEqualImpliesEq R) (w : K → V → ℕ) where
  -- the weight of an entry, if there is one
  unfoldable pub weight_if : K → Option V → ℕ
  weight_if k None = 0
  weight_if k (Some v) = w k v

  unfoldable pub entries_sum : List (K × V) → ℕ
  entries_sum [] = 0
  entries_sum (e ∷ es) = w e.0 e.1 + entries_sum es

  pub sum_nothing : (ks : List K) → sum_by (λ k. weight_if k None) ks ≡ 0
  unfolding weight_if
  sum_nothing [] = refl
  sum_nothing (k ∷ ks) = omega (arith, sum_by-cons (λ k. weight_if k None) k ks, sum_nothing ks)

  pub one_more : (b : Bool) (k : K) (v : V) (x : Option V) → weight_if k (cond b (Some v) x) ≤ cond b (w k v) 0 + weight_if k x
  unfolding weight_if
  one_more true k v x = omega arith
  one_more false k v x = omega arith

  -- found by keys that strictly ascend, no entry is weighed twice
  pub sum_found : (ks : List K) → IsStrictlySortedBy R ks → (es : List (K × V)) → sum_by (λ k. weight_if k (found R es k)) ks ≤ entries_sum es
  unfolding weight_if entries_sum
  sum_found ks s [] = omega (arith, sum_nothing ks)
  sum_found ks s (e ∷ es) =
      omega (
        arith,
        two_sums (λ k. weight_if k (found R (e ∷ es) k)) (at_tie R o exact (λ k. w k e.1) e.0) (λ k. weight_if k (found R es k))
            (λ k. unfold at_tie in one_more (is_eq (R k e.0)) k e.1 (found R es k)) ks,
        sum_once R o exact (λ k. w k e.1) e.0 ks s,
        sum_found ks s es,
      )
