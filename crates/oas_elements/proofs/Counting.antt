-- Counts in lists of keys with counts.
use Rattle.std.proofs.Common.{◌≡◌, ℕ, ◌+◌, ◌*◌, ◌<◌, List, [], ◌∷◌, Bool, true, false, cond, Some, unwrap_or, refl, sym, ◌∙◌, ap, subst, arith}
use Rattle.std.specs.Prelude.{count_by}
use Rattle.std.specs.Cmp.{IsTotalOrder, tied_itself, alike_right}
use Rattle.std.specs.Ordering.{is_eq, is_gt, eq_by_cmp, ordering_reverse}
use Rattle.std.specs.declared.cmp.Ordering.{Ordering}
use Rattle.std.specs.declared.cmp.Ordering.TheVariants.{Less, Equal, Greater}
use Rattle.std.specs.List.{AllByRecursion}
use Rattle.std.specs.List.Sorted.{IsStrictlySortedBy}
use Rattle.std.specs.Map.{lookup, keys_of}
use Rattle.std.specs.BTreeMap.{is_at}
use Rattle.std.proofs.lemmas.Map.{lookup-none}
use Rattle.std.proofs.lemmas.Map.Entries.{none_below_head}
use Rattle.std.proofs.lemmas.Map.Keys.{sorted_head, sorted_tail}
use Rattle.std.proofs.lemmas.Map.Lookups.{CmpEqualImpliesEq}
use Rattle.std.proofs.lemmas.List.Sums.{sum_by-cons}
use Rattle.oas_elements.specs.Laws.BagLaws.{total}
use Rattle.oas_elements.specs.Ascending.{Ascends}

-- E is the test of equivalence; on keys in normal form it agrees with ties in the order
module _ {K : Type 0} {R : K → K → Ordering} (o : IsTotalOrder R) (exact : CmpEqualImpliesEq R) (E : K → K → Bool) (N : K → Type 0) (agrees : (x y : K) → N x → N y → E x y ≡ eq_by_cmp R x y) where
  -- all keys are normal
  abbrev pub AllNormal : List (K × ℕ) → Type 0
  AllNormal es = AllByRecursion (λ p. N p.0) es

  -- each key is there at least once
  abbrev pub Positive : List (K × ℕ) → Type 0
  Positive es = AllByRecursion (λ p. 0 < p.1) es

  -- how many are equivalent to q
  abbrev pub share : K → List (K × ℕ) → ℕ
  share q es = total (λ x. cond (E q x) 1 0) es

  -- none is equivalent to a key that is below all
  share-below : (q : K) (es : List (K × ℕ)) → N q → AllNormal es → AllByRecursion (λ y. R q y ≡ Less) (keys_of es) → share q es ≡ 0
  share-below q [] m n h = refl
  share-below q (p ∷ ps) m n h =
      let apart : E q p.0 ≡ false = agrees q p.0 m n.0 ∙ ap is_eq h.0 in
      let rest = share-below q ps m n.1 h.1 in
      rw apart (omega (arith, rest))

  -- those that are equivalent to the first key, which ties with q, are its count and those of the rest
  share-same : (q : K) (p : K × ℕ) (ps : List (K × ℕ)) → N q → N p.0 → R q p.0 ≡ Equal → share q (p ∷ ps) ≡ p.1 + share q ps
  share-same q p ps m n e =
      let yes : E q p.0 ≡ true = agrees q p.0 m n ∙ ap is_eq e in
      rw yes (omega arith)

  -- none is equivalent to a key that is below the first
  share-less : (q : K) (p : K × ℕ) (ps : List (K × ℕ)) → N q → AllNormal (p ∷ ps) → IsStrictlySortedBy R (keys_of (p ∷ ps)) → R q p.0 ≡ Less → share q (p ∷ ps) ≡ 0
  share-less q p ps m n s e = share-below q (p ∷ ps) m n (e, chain (keys_of ps) (sorted_head R p.0 (keys_of ps) s)) where
    chain : (ks : List K) → AllByRecursion (λ y. R p.0 y ≡ Less) ks → AllByRecursion (λ y. R q y ≡ Less) ks
    chain [] h = tt
    chain (k ∷ ks) h = (o.trans q p.0 k e h.0, chain ks h.1)

  -- bags with equal counts are equal
  pub same_bags : (es fs : List (K × ℕ)) → AllNormal es → AllNormal fs → Positive es → Positive fs → IsStrictlySortedBy R (keys_of es) → IsStrictlySortedBy R (keys_of fs) →
      ((q : K) → N q → share q es ≡ share q fs) → es ≡ fs
  same_bags [] [] n m p q s t h = refl
  same_bags [] (f ∷ fs) n m p q s t h =
      let e = h f.0 m.0 in
      let one = share-same f.0 f fs m.0 m.0 (tied_itself o f.0) in
      absurd (omega (arith, e, one, q.0))
  same_bags (e ∷ es) [] n m p q s t h =
      let same = h e.0 n.0 in
      let one = share-same e.0 e es n.0 n.0 (tied_itself o e.0) in
      absurd (omega (arith, same, one, p.0))
  same_bags (e ∷ es) (f ∷ fs) n m p q s t h =
      elim (R e.0 f.0) as (λ r. R e.0 f.0 ≡ r → e ∷ es ≡ f ∷ fs) [
        | Less ↦ λ l. absurd (omega (arith, h e.0 n.0, share-same e.0 e es n.0 n.0 (tied_itself o e.0), share-less e.0 f fs n.0 m t l, p.0))
        | Greater ↦ λ g. absurd (omega (arith, h f.0 m.0, share-same f.0 f fs m.0 m.0 (tied_itself o f.0), share-less f.0 e es m.0 n s (o.antisymm f.0 e.0 ∙ ap ordering_reverse g), q.0))
        | Equal ↦ λ l.
            let key : e.0 ≡ f.0 = exact e.0 f.0 l in
            let left = share-same e.0 e es n.0 n.0 (tied_itself o e.0) in
            let right = share-same e.0 f fs n.0 m.0 l in
            let left_rest = share-below e.0 es n.0 n.1 (sorted_head R e.0 (keys_of es) s) in
            let right_rest : share e.0 fs ≡ 0 = subst (λ k. share k fs ≡ 0) (sym key) (share-below f.0 fs m.0 m.1 (sorted_head R f.0 (keys_of fs) t)) in
            let count : e.1 ≡ f.1 = omega (arith, h e.0 n.0, left, right, left_rest, right_rest) in
            let head : e ≡ f = λ i. (key i, count i) in
            let rest : (q : K) → N q → share q es ≡ share q fs = λ k norm. cancel e f (share k es) (share k fs) k head (h k norm) in
            λ i. head i ∷ same_bags es fs n.1 m.1 p.1 q.1 (sorted_tail R e.0 (keys_of es) s) (sorted_tail R f.0 (keys_of fs) t) rest i
      ] refl where
        cancel : (e f : K × ℕ) (x y : ℕ) (k : K) → e ≡ f → e.1 * cond (E k e.0) 1 0 + x ≡ f.1 * cond (E k f.0) 1 0 + y → x ≡ y
        cancel e f x y k same h = let w = ap (λ (p : K × ℕ). p.1 * cond (E k p.0) 1 0) same in omega (arith, w, h)

  -- how many are equivalent to a normal key is the count beside it
  pub share-is : (q : K) (es : List (K × ℕ)) → N q → AllNormal es → IsStrictlySortedBy R (keys_of es) → share q es ≡ unwrap_or (lookup (is_at (R q)) es) 0
  share-is q [] m n s = refl
  share-is q (p ∷ ps) m n s =
      let rest = share-is q ps m n.1 (sorted_tail R p.0 (keys_of ps) s) in
      elim (R q p.0) as (λ r. R q p.0 ≡ r → share q (p ∷ ps) ≡ unwrap_or (cond (is_eq r) (Some p.1) (lookup (is_at (R q)) ps)) 0) [
        | Less ↦ λ l. share-less q p ps m n s l ∙ sym (ap (λ o. unwrap_or o 0) (lookup-none (is_at (R q)) ps (none_below_head o q p ps s l).1))
        | Equal ↦ λ e.
            let one = share-same q p ps m n.0 e in
            let zero_rest = share-below q ps m n.1 (later q p.0 (keys_of ps) e (sorted_head R p.0 (keys_of ps) s)) in
            omega (arith, one, zero_rest)
        | Greater ↦ λ g. let apart : E q p.0 ≡ false = agrees q p.0 m n.0 ∙ ap is_eq g in rw apart (omega (arith, rest))
      ] refl where
        later : (x y : K) (ks : List K) → R x y ≡ Equal → AllByRecursion (λ k. R y k ≡ Less) ks → AllByRecursion (λ k. R x k ≡ Less) ks
        later x y [] e h = tt
        later x y (k ∷ ks) e h = (o.congr x y k e ∙ h.0, later x y ks e h.1)

  -- ---- lists of keys, each as often as it is there

  -- how many are equivalent to q
  abbrev pub count : K → List K → ℕ
  count q xs = count_by (E q) xs

  -- one more key
  pub count-cons : (q x : K) (xs : List K) → count q (x ∷ xs) ≡ cond (E q x) 1 0 + count q xs
  count-cons q x xs = sum_by-cons (λ y. cond (E q y) 1 0) x xs

  -- none is equivalent to a key that is below all
  count-above : (q : K) (xs : List K) → N q → AllByRecursion N xs → AllByRecursion (λ y. R q y ≡ Less) xs → count q xs ≡ 0
  count-above q [] m n h = refl
  count-above q (x ∷ xs) m n h =
      let apart : E q x ≡ false = agrees q x m n.0 ∙ ap is_eq h.0 in
      count-cons q x xs ∙ rw apart (omega (arith, count-above q xs m n.1 h.1))

  -- none is equivalent to a key that is below the first of an ascending list
  count-less : (q x : K) (xs : List K) → N q → AllByRecursion N (x ∷ xs) → Ascends R (x ∷ xs) → R q x ≡ Less → count q (x ∷ xs) ≡ 0
  count-less q x xs m n a l = count-above q (x ∷ xs) m n (l, chain xs a.0) where
    chain : (ks : List K) → AllByRecursion (λ y. is_gt (R x y) ≡ false) ks → AllByRecursion (λ y. R q y ≡ Less) ks
    chain [] h = tt
    chain (k ∷ ks) h = (up (R x k) refl h.0, chain ks h.1) where
      up : (r : Ordering) → R x k ≡ r → is_gt r ≡ false → R q k ≡ Less
      up Less e g = o.trans q x k l e
      up Equal e g = sym (alike_right o x k q e) ∙ l
      up Greater e g = cc

  -- a key is equivalent to itself
  count-self : (x : K) (xs : List K) → N x → count x (x ∷ xs) ≡ 1 + count x xs
  count-self x xs n = count-cons x x xs ∙ ap (λ b. cond b 1 0 + count x xs) (agrees x x n n ∙ ap is_eq (tied_itself o x))

  -- ascending lists with equal counts are equal
  pub same_lists : (xs ys : List K) → AllByRecursion N xs → AllByRecursion N ys → Ascends R xs → Ascends R ys → ((q : K) → N q → count q xs ≡ count q ys) → xs ≡ ys
  same_lists [] [] n m a b h = refl
  same_lists [] (y ∷ ys) n m a b h = absurd (omega (arith, h y m.0, count-self y ys m.0))
  same_lists (x ∷ xs) [] n m a b h = absurd (omega (arith, h x n.0, count-self x xs n.0))
  same_lists (x ∷ xs) (y ∷ ys) n m a b h =
      elim (R x y) as (λ r. R x y ≡ r → x ∷ xs ≡ y ∷ ys) [
        | Less ↦ λ l. absurd (omega (arith, h x n.0, count-self x xs n.0, count-less x y ys n.0 m b l))
        | Greater ↦ λ g. absurd (omega (arith, h y m.0, count-self y ys m.0, count-less y x xs m.0 n a (o.antisymm y x ∙ ap ordering_reverse g)))
        | Equal ↦ λ e.
            let head : x ≡ y = exact x y e in
            let rest : (q : K) → N q → count q xs ≡ count q ys = λ q k. cancel x y (count q xs) (count q ys) q head (sym (count-cons q x xs) ∙ h q k ∙ count-cons q y ys) in
            λ i. head i ∷ same_lists xs ys n.1 m.1 a.1 b.1 rest i
      ] refl where
        cancel : (x y : K) (u v : ℕ) (q : K) → x ≡ y → cond (E q x) 1 0 + u ≡ cond (E q y) 1 0 + v → u ≡ v
        cancel x y u v q same h = let w = ap {B = ℕ} (λ k. cond (E q k) 1 0) same in omega (arith, w, h)
