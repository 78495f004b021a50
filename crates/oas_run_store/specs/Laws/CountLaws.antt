-- Counts grow by what is added.
use Rattle.std.specs.Prelude.{ℕ, ◌+◌, ◌≤◌, List, [], ◌∷◌, cond, Some, unwrap_or, Bool, true, false}
use Rattle.std.proofs.Common.{arith}
use Rattle.std.specs.Ordering.{match_ordering, is_eq}
use Rattle.std.specs.declared.cmp.Ordering.{Ordering}
use Rattle.std.specs.declared.cmp.Ordering.TheVariants.{Less, Equal, Greater}
use Rattle.std.specs.Map.{lookup}
use Rattle.std.specs.BTreeMap.{is_at}
use Rattle.oas_elements.specs.Bag.{put_more}
use Rattle.oas_run_store.specs.Tally.{count_at}

module _ {K : Type 0} where
  hit : (b : Bool) (n m : ℕ) (ps : List (K × ℕ)) (t : K → Bool) → unwrap_or (cond b (Some n) (lookup t ps)) 0 ≤ unwrap_or (lookup t ps) 0 + n
  hit true n m ps t = omega arith
  hit false n m ps t = omega arith

  under : (b : Bool) (n m : ℕ) (ps : List (K × ℕ)) (t : K → Bool) → unwrap_or (cond b (Some (m + n)) (lookup t ps)) 0 ≤ unwrap_or (cond b (Some m) (lookup t ps)) 0 + n
  under true n m ps t = omega arith
  under false n m ps t = omega arith

  over : (b : Bool) (n m : ℕ) (ps qs : List (K × ℕ)) (t : K → Bool) → unwrap_or (lookup t qs) 0 ≤ unwrap_or (lookup t ps) 0 + n →
      unwrap_or (cond b (Some m) (lookup t qs)) 0 ≤ unwrap_or (cond b (Some m) (lookup t ps)) 0 + n
  over true n m ps qs t h = omega arith
  over false n m ps qs t h = h

  -- at most this many more
  pub count_at-more : (R : K → K → Ordering) (es : List (K × ℕ)) (k : K) (n : ℕ) (q : K) → count_at R (put_more R es k n) q ≤ count_at R es q + n
  count_at-more R [] k n q = hit (is_eq (R q k)) n n [] (is_at (R q))
  count_at-more R (p ∷ ps) k n q =
      elim (R k p.0) as (λ r. count_at R (match_ordering r ((k, n) ∷ p ∷ ps) ((p.0, p.1 + n) ∷ ps) (p ∷ put_more R ps k n)) q ≤ count_at R (p ∷ ps) q + n) [
        | Less ↦ hit (is_eq (R q k)) n n (p ∷ ps) (is_at (R q))
        | Equal ↦ under (is_eq (R q p.0)) n p.1 ps (is_at (R q))
        | Greater ↦ over (is_eq (R q p.0)) n p.1 ps (put_more R ps k n) (is_at (R q)) (count_at-more R ps k n q)
      ]
