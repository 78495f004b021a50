-- How often numbers are used after one is used once more.
use Rattle.std.proofs.Common.{◌≡◌, ℕ, ◌+◌, ◌*◌, ◌<◌, ◌≤◌, List, [], ◌∷◌, true, false, Some, unwrap_or, cond, sym, ◌∙◌, ap, subst, arith}
use Rattle.std.proofs.lemmas.Map.Lookups.{exact_unsigned}
use Rattle.std.specs.Cmp.{nat_cmp_total}
use Rattle.std.specs.Ordering.{match_ordering, nat_cmp}
use Rattle.std.specs.declared.cmp.Ordering.TheVariants.{Less, Equal, Greater}
use Rattle.std.specs.List.Sorted.{IsStrictlySortedBy}
use Rattle.std.specs.Map.{lookup, keys_of}
use Rattle.std.specs.BTreeMap.{is_at, insert_entry}
use Rattle.oas_elements.specs.Bag.{put_more}
use Rattle.oas_elements.specs.Laws.BagLaws.{total, total-put_more, insert_entry-count}
use Rattle.oas_reader.specs.Weights.{AllUsed}

-- numbers that compare as equal are equal
pub exact_nat : (k x : ℕ) → nat_cmp k x ≡ Equal → x ≡ k
exact_nat k x e = sym (exact_unsigned k x e)

-- how often one number is used is no more than how often all are
pub used_few : (ps : List (ℕ × ℕ)) (k : ℕ) → unwrap_or (lookup (is_at (nat_cmp k)) ps) 0 ≤ total (λ _. 1) ps
used_few [] k = omega arith
used_few (p ∷ ps) k =
    elim (is_at (nat_cmp k) p.0) as (λ b. unwrap_or (cond b (Some p.1) (lookup (is_at (nat_cmp k)) ps)) 0 ≤ p.1 * 1 + total (λ _. 1) ps) [
      | true ↦ omega arith
      | false ↦ omega (arith, used_few ps k)
    ]

-- more of one number adds what it counts for
pub total_more : (f : ℕ → ℕ) (ps : List (ℕ × ℕ)) (k n : ℕ) → total f (put_more nat_cmp ps k n) ≡ total f ps + n * f k
total_more f ps k n = total-put_more nat_cmp f ps k n (λ x h. ap f (exact_nat k x h))

-- and no number is used more often than there are elements
pub few_more : (ps : List (ℕ × ℕ)) (k n c : ℕ) → total (λ _. 1) ps ≤ c → total (λ _. 1) (put_more nat_cmp ps k n) ≤ c + n
few_more ps k n c h = omega (arith, h, total_more (λ _. 1) ps k n)

-- and each is still used
pub used_more : (ps : List (ℕ × ℕ)) (k n : ℕ) → 0 < n → AllUsed ps → AllUsed (put_more nat_cmp ps k n)
used_more [] k n h a = (h, tt)
used_more (p ∷ ps) k n h a =
    elim (nat_cmp k p.0) as (λ r. AllUsed (match_ordering r ((k, n) ∷ p ∷ ps) ((p.0, p.1 + n) ∷ ps) (p ∷ put_more nat_cmp ps k n))) [
      | Less ↦ (h, a)
      | Equal ↦ (omega (arith, h), a.1)
      | Greater ↦ (a.0, used_more ps k n h a.1)
    ]

-- what an insertion leaves
pub put_inserted : (inside now qs : List (ℕ × ℕ)) (k n t : ℕ) → inside ≡ now → IsStrictlySortedBy nat_cmp (keys_of inside) → t
    ≡ unwrap_or (lookup (is_at (nat_cmp k)) now) 0 → qs ≡ insert_entry nat_cmp inside k (t + n) → qs ≡ put_more nat_cmp now k n
put_inserted inside now qs k n t view s had is =
    is ∙ ((λ i. insert_entry nat_cmp (view i) k (had i + n)) ∙ insert_entry-count nat_cmp_total now k n (subst (λ (ps : List (ℕ × ℕ)). IsStrictlySortedBy nat_cmp (keys_of ps)) view s))
