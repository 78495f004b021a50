-- The tally of a list of keys and counts is determined by its sums alone.
use Rattle.std.specs.Prelude.{◌≡◌, ℕ, ◌+◌, ◌*◌, ◌<◌, List, [], ◌∷◌, true, false, cond, Some, unwrap_or, refl}
use Rattle.std.proofs.Common.{sym, ◌∙◌, ap, arith, subst}
use Rattle.std.specs.Cmp.{IsTotalOrder, tied_itself}
use Rattle.std.specs.Ordering.{match_ordering, is_eq, ordering_reverse}
use Rattle.std.specs.declared.cmp.Ordering.{Ordering}
use Rattle.std.specs.declared.cmp.Ordering.TheVariants.{Less, Equal, Greater}
use Rattle.std.specs.List.Sorted.{IsStrictlySortedBy}
use Rattle.std.specs.Map.{keys_of, lookup}
use Rattle.std.specs.BTreeMap.{is_at, insert_entry}
use Rattle.std.proofs.lemmas.Map.{lookup-none}
use Rattle.std.proofs.lemmas.Map.Entries.{none_below_head}
use Rattle.std.proofs.lemmas.Map.Keys.{sorted_head, sorted_tail}
use Rattle.std.proofs.lemmas.Map.Lookups.{CmpEqualImpliesEq}
use Rattle.oas_elements.specs.Bag.{put_more}
use Rattle.oas_runs.specs.Laws.RunLaws.{AllAbove, above_lower}
use Rattle.oas_runs.specs.Runs.{total, copies, Positive, IsRun, SameTotals}
use Rattle.oas_run_store.specs.Tally.{count_at, tally}

module _ {K : Type 0} where
  -- more of one key adds what it weighs
  pub total-put_more : {R : K → K → Ordering} → CmpEqualImpliesEq R → (g : K → ℕ) (es : List (K × ℕ)) (k : K) (n : ℕ) → total g (put_more R es k n) ≡ n * g k + total g es
  total-put_more exact g [] k n = omega arith
  total-put_more {R} exact g (p ∷ ps) k n =
      elim (R k p.0) as (λ r. R k p.0 ≡ r → total g (match_ordering r ((k, n) ∷ p ∷ ps) ((p.0, p.1 + n) ∷ ps) (p ∷ put_more R ps k n)) ≡ n * g k + total g (p ∷ ps)) [
        | Less ↦ λ e. omega arith
        | Equal ↦ λ e. let same : g k ≡ g p.0 = ap g (exact k p.0 e) in rw same (omega arith)
        | Greater ↦ λ e. omega (arith, total-put_more exact g ps k n)
      ] refl

  -- in order, an insertion of the count and n is n more
  pub insert_entry-count : {R : K → K → Ordering} → IsTotalOrder R → (es : List (K × ℕ)) (k : K) (n : ℕ) → IsStrictlySortedBy R (keys_of es) →
      insert_entry R es k (count_at R es k + n) ≡ put_more R es k n
  insert_entry-count o [] k n s = ap (λ (m : ℕ). (k, m) ∷ []) (omega arith)
  insert_entry-count {R} o (p ∷ ps) k n s =
      elim (R k p.0) as (λ r. R k p.0 ≡ r → match_ordering r ((k, unwrap_or (cond (is_eq r) (Some p.1) (lookup (is_at (R k)) ps)) 0 + n) ∷ p ∷ ps)
      ((p.0, unwrap_or (cond (is_eq r) (Some p.1) (lookup (is_at (R k)) ps)) 0 + n) ∷ ps)
      (p ∷ insert_entry R ps k (unwrap_or (cond (is_eq r) (Some p.1) (lookup (is_at (R k)) ps)) 0 + n))
      ≡ match_ordering r ((k, n) ∷ p ∷ ps) ((p.0, p.1 + n) ∷ ps) (p ∷ put_more R ps k n)) [
        | Less ↦ λ e. ap (λ o. (k, unwrap_or o 0 + n) ∷ p ∷ ps) (lookup-none (is_at (R k)) ps (none_below_head o k p ps s e).1) ∙ ap (λ (m : ℕ). (k, m) ∷ p ∷ ps) (omega arith)
        | Equal ↦ λ e. refl
        | Greater ↦ λ e. ap (λ (es : List (K × ℕ)). p ∷ es) (insert_entry-count o ps k n (sorted_tail R p.0 (keys_of ps) s))
      ] refl

  -- a tally weighs what the list weighs
  pub total-tally : {R : K → K → Ordering} → CmpEqualImpliesEq R → (g : K → ℕ) (ps : List (K × ℕ)) → total g (tally R ps) ≡ total g ps
  total-tally exact g [] = refl
  total-tally {R} exact g (p ∷ ps) = omega (arith, total-put_more exact g (tally R ps) p.0 p.1, total-tally exact g ps)

  above-put_more : (R : K → K → Ordering) (x : K) (es : List (K × ℕ)) (k : K) (n : ℕ) → R x k ≡ Less → AllAbove R x es → AllAbove R x (put_more R es k n)
  above-put_more R x [] k n h a = (h, tt)
  above-put_more R x (p ∷ ps) k n h a =
      elim (R k p.0) as (λ r. AllAbove R x (match_ordering r ((k, n) ∷ p ∷ ps) ((p.0, p.1 + n) ∷ ps) (p ∷ put_more R ps k n))) [
        | Less ↦ (h, a)
        | Equal ↦ a
        | Greater ↦ (a.0, above-put_more R x ps k n h a.1)
      ]

  flip : {R : K → K → Ordering} → IsTotalOrder R → (x y : K) → R x y ≡ Greater → R y x ≡ Less
  flip o x y g = o.antisymm y x ∙ ap ordering_reverse g

  -- what was in order stays in order
  pub sorted-put_more : {R : K → K → Ordering} → IsTotalOrder R → (es : List (K × ℕ)) (k : K) (n : ℕ) → IsStrictlySortedBy R (keys_of es) → IsStrictlySortedBy R (keys_of (put_more R es k n))
  unfolding IsStrictlySortedBy
  sorted-put_more o [] k n s = (tt, tt)
  sorted-put_more {R} o (p ∷ ps) k n s =
      elim (R k p.0) as (λ r. R k p.0 ≡ r → IsStrictlySortedBy R (keys_of (match_ordering r ((k, n) ∷ p ∷ ps) ((p.0, p.1 + n) ∷ ps) (p ∷ put_more R ps k n)))) [
        | Less ↦ λ e. ((e, above_lower o k p.0 ps e s.0), s)
        | Equal ↦ λ e. s
        | Greater ↦ λ e. (above-put_more R p.0 ps k n (flip o k p.0 e) s.0, sorted-put_more o ps k n s.1)
      ] refl

  pub positive-put_more : (R : K → K → Ordering) (es : List (K × ℕ)) (k : K) (n : ℕ) → 0 < n → Positive es → Positive (put_more R es k n)
  positive-put_more R [] k n h p = (h, tt)
  positive-put_more R (x ∷ xs) k n h p =
      elim (R k x.0) as (λ r. Positive (match_ordering r ((k, n) ∷ x ∷ xs) ((x.0, x.1 + n) ∷ xs) (x ∷ put_more R xs k n))) [
        | Less ↦ (h, p)
        | Equal ↦ (omega (arith, h), p.1)
        | Greater ↦ (p.0, positive-put_more R xs k n h p.1)
      ]

  pub IsRun-put_more : {R : K → K → Ordering} → IsTotalOrder R → (es : List (K × ℕ)) (k : K) (n : ℕ) → 0 < n → IsRun R es → IsRun R (put_more R es k n)
  IsRun-put_more {R} o es k n h r = record { ascending = sorted-put_more o es k n r.ascending; positive = positive-put_more R es k n h r.positive }

  -- a tally is a run
  pub IsRun-tally : {R : K → K → Ordering} → IsTotalOrder R → (ps : List (K × ℕ)) → Positive ps → IsRun R (tally R ps)
  unfolding IsStrictlySortedBy
  IsRun-tally o [] h = record { ascending = tt; positive = tt }
  IsRun-tally {R} o (p ∷ ps) h = IsRun-put_more o (tally R ps) p.0 p.1 h.0 (IsRun-tally o ps h.1)

  -- ---- runs with the same sums are equal

  copies-above : (R : K → K → Ordering) (q : K) (es : List (K × ℕ)) → AllAbove R q es → copies R q es ≡ 0
  copies-above R q [] h = refl
  copies-above R q (p ∷ ps) h =
      let apart : is_eq (R q p.0) ≡ false = ap is_eq h.0 in
      let rest = copies-above R q ps h.1 in
      rw apart (omega (arith, rest))

  copies-same : (R : K → K → Ordering) (q : K) (p : K × ℕ) (ps : List (K × ℕ)) → R q p.0 ≡ Equal → copies R q (p ∷ ps) ≡ p.1 + copies R q ps
  copies-same R q p ps e = let yes : is_eq (R q p.0) ≡ true = ap is_eq e in rw yes (omega arith)

  copies-less : {R : K → K → Ordering} → IsTotalOrder R → (q : K) (p : K × ℕ) (ps : List (K × ℕ)) → IsStrictlySortedBy R (keys_of (p ∷ ps)) → R q p.0 ≡ Less → copies R q (p ∷ ps) ≡ 0
  copies-less {R} o q p ps s e = copies-above R q (p ∷ ps) (e, above_lower o q p.0 ps e (sorted_head R p.0 (keys_of ps) s))

  pub same_runs : {R : K → K → Ordering} → IsTotalOrder R → CmpEqualImpliesEq R → (es fs : List (K × ℕ)) → Positive es → Positive fs →
      IsStrictlySortedBy R (keys_of es) → IsStrictlySortedBy R (keys_of fs) → ((q : K) → copies R q es ≡ copies R q fs) → es ≡ fs
  same_runs o exact [] [] p q s t h = refl
  same_runs {R} o exact [] (f ∷ fs) p q s t h = absurd (omega (arith, h f.0, copies-same R f.0 f fs (tied_itself o f.0), q.0))
  same_runs {R} o exact (e ∷ es) [] p q s t h = absurd (omega (arith, h e.0, copies-same R e.0 e es (tied_itself o e.0), p.0))
  same_runs {R} o exact (e ∷ es) (f ∷ fs) p q s t h =
      elim (R e.0 f.0) as (λ r. R e.0 f.0 ≡ r → e ∷ es ≡ f ∷ fs) [
        | Less ↦ λ l. absurd (omega (arith, h e.0, copies-same R e.0 e es (tied_itself o e.0), copies-less o e.0 f fs t l, p.0))
        | Greater ↦ λ g. absurd (omega (arith, h f.0, copies-same R f.0 f fs (tied_itself o f.0), copies-less o f.0 e es s (flip o e.0 f.0 g), q.0))
        | Equal ↦ λ l.
            let key : e.0 ≡ f.0 = exact e.0 f.0 l in
            let left = copies-same R e.0 e es (tied_itself o e.0) in
            let right = copies-same R e.0 f fs l in
            let left_rest = copies-above R e.0 es (sorted_head R e.0 (keys_of es) s) in
            let right_rest : copies R e.0 fs ≡ 0 = subst (λ k. copies R k fs ≡ 0) (sym key) (copies-above R f.0 fs (sorted_head R f.0 (keys_of fs) t)) in
            let count : e.1 ≡ f.1 = omega (arith, h e.0, left, right, left_rest, right_rest) in
            let head : e ≡ f = λ i. (key i, count i) in
            let rest : (k : K) → copies R k es ≡ copies R k fs = λ k. cancel e f (copies R k es) (copies R k fs) k head (h k) in
            λ i. head i ∷ same_runs o exact es fs p.1 q.1 (sorted_tail R e.0 (keys_of es) s) (sorted_tail R f.0 (keys_of fs) t) rest i
      ] refl where
        cancel : (e f : K × ℕ) (x y : ℕ) (k : K) → e ≡ f → e.1 * cond (is_eq (R k e.0)) 1 0 + x ≡ f.1 * cond (is_eq (R k f.0)) 1 0 + y → x ≡ y
        cancel e f x y k same h = let w = ap (λ (p : K × ℕ). p.1 * cond (is_eq (R k p.0)) 1 0) same in omega (arith, w, h)

  -- a run is the tally of each list with its sums
  pub run_is_tally : {R : K → K → Ordering} → IsTotalOrder R → CmpEqualImpliesEq R → (es ps : List (K × ℕ)) → IsRun R es → Positive ps → SameTotals es ps → es ≡ tally R ps
  run_is_tally {R} o exact es ps r p h =
      let t = IsRun-tally {R = R} o ps p in
      same_runs o exact es (tally R ps) r.positive t.positive r.ascending t.ascending (λ q. h _ ∙ sym (total-tally exact _ ps))

  -- lists with the same sums have the same tally
  pub same_tally : {R : K → K → Ordering} → IsTotalOrder R → CmpEqualImpliesEq R → (ps qs : List (K × ℕ)) → Positive ps → Positive qs → SameTotals ps qs → tally R ps ≡ tally R qs
  same_tally {R} o exact ps qs p q h = run_is_tally o exact (tally R ps) qs (IsRun-tally o ps p) q (λ g. total-tally exact g ps ∙ h g)

  -- in a run, the count beside a key is how often it is there
  pub count_at-is : {R : K → K → Ordering} → IsTotalOrder R → (q : K) (es : List (K × ℕ)) → IsStrictlySortedBy R (keys_of es) → copies R q es ≡ count_at R es q
  count_at-is o q [] s = refl
  count_at-is {R} o q (p ∷ ps) s =
      let rest = count_at-is o q ps (sorted_tail R p.0 (keys_of ps) s) in
      elim (R q p.0) as (λ r. R q p.0 ≡ r → copies R q (p ∷ ps) ≡ unwrap_or (cond (is_eq r) (Some p.1) (lookup (is_at (R q)) ps)) 0) [
        | Less ↦ λ l. copies-less o q p ps s l ∙ sym (ap (λ o. unwrap_or o 0) (lookup-none (is_at (R q)) ps (none_below_head o q p ps s l).1))
        | Equal ↦ λ e.
            let one = copies-same R q p ps e in
            let zero_rest = copies-above R q ps (later q p.0 ps e (sorted_head R p.0 (keys_of ps) s)) in
            omega (arith, one, zero_rest)
        | Greater ↦ λ g. let apart : is_eq (R q p.0) ≡ false = ap is_eq g in rw apart (omega (arith, rest))
      ] refl where
        later : (x y : K) (es : List (K × ℕ)) → R x y ≡ Equal → AllAbove R y es → AllAbove R x es
        later x y [] e h = tt
        later x y (p ∷ ps) e h = (o.congr x y p.0 e ∙ h.0, later x y ps e h.1)

  -- how often a key is there, in a tally
  pub count_at-tally : {R : K → K → Ordering} → IsTotalOrder R → CmpEqualImpliesEq R → (q : K) (ps : List (K × ℕ)) → Positive ps → count_at R (tally R ps) q ≡ copies R q ps
  count_at-tally {R} o exact q ps p = sym (count_at-is o q (tally R ps) (IsRun-tally {R = R} o ps p).ascending) ∙ total-tally exact _ ps
