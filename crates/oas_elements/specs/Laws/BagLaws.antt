-- Sums over counted elements, and what more of one adds to them.
use Rattle.std.specs.Prelude.{◌≡◌, ℕ, ◌+◌, ◌*◌, List, [], ◌∷◌, Bool, true, false, cond, Some, unwrap_or, replicate, sum_by, refl}
use Rattle.std.proofs.Common.{sym, ◌∙◌, ap, arith}
use Rattle.std.specs.Cmp.{IsTotalOrder}
use Rattle.std.specs.Ordering.{match_ordering, is_eq}
use Rattle.std.specs.declared.cmp.Ordering.{Ordering}
use Rattle.std.specs.declared.cmp.Ordering.TheVariants.{Less, Equal, Greater}
use Rattle.std.specs.List.Sorted.{IsStrictlySortedBy}
use Rattle.std.specs.Map.{lookup, keys_of}
use Rattle.std.specs.BTreeMap.{is_at, insert_entry}
use Rattle.std.proofs.lemmas.Map.{lookup-none}
use Rattle.std.proofs.lemmas.Map.Entries.{none_below_head}
use Rattle.std.proofs.lemmas.Map.Keys.{sorted_tail}
use Rattle.std.proofs.lemmas.List.Folds.{sum_by-replicate}
use Rattle.std.proofs.lemmas.List.Sums.{sum_by-append}
use Rattle.oas_elements.specs.declared.profile.Profile.{Profile}
use Rattle.oas_elements.specs.Element.{element_cmp}
use Rattle.oas_elements.specs.Laws.ElementLaws.{exact_elements}
use Rattle.oas_elements.specs.Same.{same_element, normal}
use Rattle.oas_elements.specs.Laws.SameLaws.{same_with-normal}
use Rattle.oas_elements.specs.Bag.{items, put_more, with_more}
use Rattle.oas_elements.specs.Meaning.{count_of}
use Rattle.oas_elements.specs.Laws.LayoutLaws.{AddingCounts}

module _ {K : Type 0} where
  -- the sum of what each weighs
  abbrev pub total : (K → ℕ) → List (K × ℕ) → ℕ
  total g [] = 0
  total g (p ∷ ps) = p.1 * g p.0 + total g ps

  -- a sum over the keys, each as often as it is there, is the sum of what each weighs
  pub sum_by-items : (g : K → ℕ) (es : List (K × ℕ)) → sum_by g (items es) ≡ total g es
  sum_by-items g [] = refl
  sum_by-items g (p ∷ ps) = sum_by-append g (replicate p.1 p.0) (items ps) ∙ (λ i. sum_by-replicate g p.1 p.0 i + sum_by-items g ps i)

  -- more of one key adds what it weighs
  pub total-put_more : (R : K → K → Ordering) (g : K → ℕ) (es : List (K × ℕ)) (k : K) (n : ℕ) → ((x : K) → R k x ≡ Equal → g x ≡ g k) → total g (put_more R es k n) ≡ total g es + n * g k
  total-put_more R g [] k n alike = omega arith
  total-put_more R g (p ∷ ps) k n alike =
      elim (R k p.0) as (λ r. R k p.0 ≡ r → total g (match_ordering r ((k, n) ∷ p ∷ ps) ((p.0, p.1 + n) ∷ ps) (p ∷ put_more R ps k n)) ≡ total g (p ∷ ps) + n * g k) [
        | Less ↦ λ e. omega arith
        | Equal ↦ λ e. let same : g p.0 ≡ g k = alike p.0 e in rw same (omega arith)
        | Greater ↦ λ e. omega (arith, total-put_more R g ps k n alike)
      ] refl

  -- in order, an insertion of the count and n is n more
  pub insert_entry-count : {R : K → K → Ordering} → IsTotalOrder R → (es : List (K × ℕ)) (k : K) (n : ℕ) → IsStrictlySortedBy R (keys_of es) →
      insert_entry R es k (unwrap_or (lookup (is_at (R k)) es) 0 + n) ≡ put_more R es k n
  insert_entry-count o [] k n s = ap (λ (m : ℕ). (k, m) ∷ []) (omega arith)
  insert_entry-count {R} o (p ∷ ps) k n s =
      elim (R k p.0) as (λ r. R k p.0 ≡ r → match_ordering r ((k, unwrap_or (cond (is_eq r) (Some p.1) (lookup (is_at (R k)) ps)) 0 + n) ∷ p ∷ ps)
      ((p.0, unwrap_or (cond (is_eq r) (Some p.1) (lookup (is_at (R k)) ps)) 0 + n) ∷ ps)
      (p ∷ insert_entry R ps k (unwrap_or (cond (is_eq r) (Some p.1) (lookup (is_at (R k)) ps)) 0 + n)) ≡ match_ordering r ((k, n) ∷ p ∷ ps) ((p.0, p.1 + n) ∷ ps) (p ∷ put_more R ps k n)) [
        | Less ↦ λ e. ap (λ o. (k, unwrap_or o 0 + n) ∷ p ∷ ps) (lookup-none (is_at (R k)) ps (none_below_head o k p ps s e).1) ∙ ap (λ (m : ℕ). (k, m) ∷ p ∷ ps) (omega arith)
        | Equal ↦ λ e. refl
        | Greater ↦ λ e. ap (λ (es : List (K × ℕ)). p ∷ es) (insert_entry-count o ps k n (sorted_tail R p.0 (keys_of ps) s))
      ] refl

-- this often, or not at all
pub times : (b : Bool) (n : ℕ) → n * cond b 1 0 ≡ cond b n 0
times true n = omega arith
times false n = omega arith

-- what more of an element adds to each count
pub adding : (profile : Profile) → AddingCounts profile
adding profile es e q n =
    sum_by-items _ (with_more es (normal profile e) n)
    ∙ total-put_more element_cmp (λ x. cond (same_element profile q x) 1 0) es (normal profile e) n
    (λ x h. ap (λ y. cond (same_element profile q y) 1 0) (sym (exact_elements (normal profile e) x h)))
    ∙ (λ i. sym (sum_by-items (λ x. cond (same_element profile q x) 1 0) es) i + n * cond (same_with-normal profile q e i) 1 0)
    ∙ ap (λ (k : ℕ). count_of profile q (items es) + k) (times (same_element profile q e) n)
