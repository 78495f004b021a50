-- What two ascending lists have, in order, by their first keys.
use Rattle.std.proofs.Common.{◌≡◌, ℕ, zero, suc, ◌<◌, List, [], ◌∷◌, ◌++◌, replicate, refl, ◌∙◌, ap, append_assoc, arith}
use Rattle.std.specs.Cmp.{IsTotalOrder, tied_itself}
use Rattle.std.specs.Ordering.{match_ordering, ordering_reverse}
use Rattle.std.specs.declared.cmp.Ordering.{Ordering}
use Rattle.std.specs.declared.cmp.Ordering.TheVariants.{Less, Equal, Greater}
use Rattle.std.specs.List.{AllByRecursion}
use Rattle.std.specs.Map.{keys_of}
use Rattle.std.specs.BTreeSet.{insert_key}
use Rattle.oas_elements.specs.Bag.{items}
use Rattle.oas_difference.specs.Ascending.{ascending}

-- ---- what holds for each key

module _ {K : Type 0} (P : K → Type 0) where
  pub all_append : (xs ys : List K) → AllByRecursion P xs → AllByRecursion P ys → AllByRecursion P (xs ++ ys)
  all_append [] ys p q = q
  all_append (x ∷ xs) ys p q = (p.0, all_append xs ys p.1 q)

  pub all_insert : (R : K → K → Ordering) (ks : List K) (k : K) → AllByRecursion P ks → P k → AllByRecursion P (insert_key R ks k)
  all_insert R [] k p h = (h, tt)
  all_insert R (x ∷ xs) k p h =
      elim (R k x) as (λ r. AllByRecursion P (match_ordering r (k ∷ x ∷ xs) (x ∷ xs) (x ∷ insert_key R xs k))) [
        | Less ↦ (h, p)
        | Equal ↦ p
        | Greater ↦ (p.0, all_insert R xs k p.1 h)
      ]

  pub all_ascending : (R : K → K → Ordering) (xs : List K) → AllByRecursion P xs → AllByRecursion P (ascending R xs)
  all_ascending R [] p = tt
  all_ascending R (x ∷ xs) p = all_insert R (ascending R xs) x (all_ascending R xs p.1) p.0

module _ {K : Type 0} {R : K → K → Ordering} (o : IsTotalOrder R) where
  -- a key is below all of these
  abbrev pub Below : K → List K → Type 0
  Below k ks = AllByRecursion (λ y. R k y ≡ Less) ks

  pub below_chain : (j k : K) (ks : List K) → R j k ≡ Less → Below k ks → Below j ks
  below_chain j k [] h b = tt
  below_chain j k (y ∷ ys) h b = (o.trans j k y h b.0, below_chain j k ys h b.1)

  pub above : (j k : K) → R j k ≡ Less → R k j ≡ Greater
  above j k h = o.antisymm k j ∙ ap ordering_reverse h

  -- ---- putting a key in its place

  insert_below : (ks : List K) (k : K) → Below k ks → insert_key R ks k ≡ k ∷ ks
  insert_below [] k b = refl
  insert_below (x ∷ xs) k b = ap (λ r. match_ordering r (k ∷ x ∷ xs) (x ∷ xs) (x ∷ insert_key R xs k)) b.0

  insert_past : (p : K) (ks : List K) (k : K) → R p k ≡ Less → insert_key R (p ∷ ks) k ≡ p ∷ insert_key R ks k
  insert_past p ks k h = ap (λ r. match_ordering r (k ∷ p ∷ ks) (p ∷ ks) (p ∷ insert_key R ks k)) (above p k h)

  insert_tied : (p : K) (ks : List K) (k : K) → R k p ≡ Equal → insert_key R (p ∷ ks) k ≡ p ∷ ks
  insert_tied p ks k h = ap (λ r. match_ordering r (k ∷ p ∷ ks) (p ∷ ks) (p ∷ insert_key R ks k)) h

  insert_twice : (ks : List K) (k : K) → insert_key R (insert_key R ks k) k ≡ insert_key R ks k
  insert_twice [] k = insert_tied k [] k (tied_itself o k)
  insert_twice (x ∷ xs) k =
      elim (R k x) as (λ r. R k x ≡ r → insert_key R (match_ordering r (k ∷ x ∷ xs) (x ∷ xs) (x ∷ insert_key R xs k)) k ≡ match_ordering r (k ∷ x ∷ xs) (x ∷ xs) (x ∷ insert_key R xs k)) [
        | Less ↦ λ e. insert_tied k (x ∷ xs) k (tied_itself o k)
        | Equal ↦ λ e. insert_tied x xs k e
        | Greater ↦ λ e. ap (λ r. match_ordering r (k ∷ x ∷ insert_key R xs k) (x ∷ insert_key R xs k) (x ∷ insert_key R (insert_key R xs k) k)) e ∙ ap (λ (l : List K). x ∷ l) (insert_twice xs k)
      ] refl

  -- ---- the first key of two lists

  pub first_ascending : (k : K) (ks : List K) → Below k ks → ascending R (k ∷ ks) ≡ k ∷ ascending R ks
  first_ascending k ks b = insert_below (ascending R ks) k (all_ascending (λ y. R k y ≡ Less) R ks b)

  -- the first key of the first list is below that of the second
  pub first_before : (k : K) (ks ls : List K) → Below k ks → Below k ls → ascending R ((k ∷ ks) ++ ls) ≡ k ∷ ascending R (ks ++ ls)
  first_before k ks ls b c = first_ascending k (ks ++ ls) (all_append (λ y. R k y ≡ Less) ks ls b c)

  -- the first key of the second list is below that of the first
  pub first_after : (k : K) (ks ls : List K) → Below k ks → Below k ls → ascending R (ks ++ k ∷ ls) ≡ k ∷ ascending R (ks ++ ls)
  first_after k [] ls b c = first_ascending k ls c
  first_after k (x ∷ xs) ls b c =
      ap (λ (l : List K). insert_key R l x) (first_after k xs ls b.1 c) ∙ insert_past k (ascending R (xs ++ ls)) x b.0

  -- both have it
  pub first_both : (k : K) (ks ls : List K) → Below k ks → Below k ls → ascending R ((k ∷ ks) ++ k ∷ ls) ≡ k ∷ ascending R (ks ++ ls)
  first_both k ks ls b c =
      ap (λ (l : List K). insert_key R l k) (first_after k ks ls b c) ∙ insert_tied k (ascending R (ks ++ ls)) k (tied_itself o k)

  -- ---- the keys of counted lists

  copies_ascending : (n : ℕ) (k : K) (xs : List K) → 0 < n → ascending R (replicate n k ++ xs) ≡ insert_key R (ascending R xs) k
  copies_ascending zero k xs h = absurd (omega (arith, h))
  copies_ascending (suc zero) k xs h = refl
  copies_ascending (suc (suc n)) k xs h =
      ap (λ (l : List K). insert_key R l k) (copies_ascending (suc n) k xs (omega arith)) ∙ insert_twice (ascending R xs) k

  items_front : (es : List (K × ℕ)) (ys : List K) → AllByRecursion (λ p. 0 < p.1) es → ascending R (items es ++ ys) ≡ ascending R (keys_of es ++ ys)
  items_front [] ys h = refl
  items_front (p ∷ ps) ys h =
      ap (ascending R) (append_assoc (replicate p.1 p.0) (items ps) ys) ∙ copies_ascending p.1 p.0 (items ps ++ ys) h.0 ∙ ap (λ (l : List K). insert_key R l p.0) (items_front ps ys h.1)

  items_back : (xs : List K) (fs : List (K × ℕ)) → AllByRecursion (λ p. 0 < p.1) fs → ascending R (xs ++ items fs) ≡ ascending R (xs ++ keys_of fs)
  items_back [] [] h = refl
  items_back [] (p ∷ ps) h = copies_ascending p.1 p.0 (items ps) h.0 ∙ ap (λ (l : List K). insert_key R l p.0) (items_back [] ps h.1)
  items_back (x ∷ xs) fs h = ap (λ (l : List K). insert_key R l x) (items_back xs fs h)

  -- they are the items of both, each once
  pub items_keys : (es fs : List (K × ℕ)) → AllByRecursion (λ p. 0 < p.1) es → AllByRecursion (λ p. 0 < p.1) fs → ascending R (items es ++ items fs) ≡ ascending R (keys_of es ++ keys_of fs)
  items_keys es fs h k = items_front es (items fs) h ∙ items_back (keys_of es) fs k
