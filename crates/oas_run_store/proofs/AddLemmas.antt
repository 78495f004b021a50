-- What one more key does to the parts of a store.
use Rattle.std.proofs.Common.{◌≡◌, ℕ, ◌+◌, ◌*◌, ◌<◌, ◌^◌, true, false, List, [], ◌∷◌, ◌++◌, cond, length, refl, sym, ◌∙◌, ap, arith, subst, append_assoc}
use Rattle.std.specs.Cmp.{IsTotalOrder, tied_itself}
use Rattle.std.specs.Ordering.{is_eq}
use Rattle.std.specs.List.Sorted.{IsStrictlySortedBy}
use Rattle.std.specs.Map.{keys_of}
use Rattle.std.specs.declared.cmp.Ordering.{Ordering}
use Rattle.std.specs.declared.cmp.Ordering.TheVariants.{Less, Equal, Greater}
use Rattle.std.proofs.lemmas.Map.Lookups.{CmpEqualImpliesEq}
use Rattle.oas_runs.specs.Runs.{total, copies, Positive, IsRun, SameTotals}
use Rattle.oas_run_store.specs.Tally.{count_at, tally}
use Rattle.oas_runs.specs.Laws.RunLaws.{total-append, AllAbove}
use Rattle.oas_run_store.specs.Laws.TallyLaws.{count_at-tally, same_tally}
use Rattle.oas_elements.specs.Bag.{put_more}
use Rattle.oas_runs.specs.Blocks.{joined}
use Rattle.oas_run_store.specs.Parts.{contents, AreParts, AreRuns, CountsFit, IsBelow, EndsWith}
use Rattle.oas_run_store.proofs.PartLemmas.{split_last, found_last, total_contents}

module _ {K : Type 0} where
  pub positive_append : (xs ys : List (K × ℕ)) → Positive xs → Positive ys → Positive (xs ++ ys)
  positive_append [] ys h k = k
  positive_append (x ∷ xs) ys h k = (h.0, positive_append xs ys h.1 k)

  positive_joined : (R : K → K → Ordering) (rs : List (List (K × ℕ))) → AreRuns R rs → Positive (joined rs)
  positive_joined R [] h = tt
  positive_joined R (r ∷ rs) h = positive_append r (joined rs) h.0.positive (positive_joined R rs h.1)

  pub positive_contents : (R : K → K → Ordering) (r l : List (K × ℕ)) (rs : List (List (K × ℕ))) → AreParts R r l rs → Positive (contents r l rs)
  positive_contents R r l rs h = positive_append (r ++ l) (joined rs) (positive_append r l h.ascends.positive h.waits) (positive_joined R rs h.runs)

  -- counts still fit
  pub fits_more : {R : K → K → Ordering} → IsTotalOrder R → CmpEqualImpliesEq R → (es fs : List (K × ℕ)) (k : K) (n : ℕ) → SameTotals fs ((k, n) ∷ es)
      → CountsFit R es → copies R k es + n < 2 ^ 64 → CountsFit R fs
  fits_more {R} o exact es fs k n h c room q =
      elim (R q k) as (λ r. R q k ≡ r → copies R q fs < 2 ^ 64) [
        | Less ↦ λ e. apart (ap is_eq e)
        | Equal ↦ λ e. let room' : copies R q es + n < 2 ^ 64 = subst (λ x. copies R x es + n < 2 ^ 64) (sym (exact q k e)) room in let yes : n * cond (is_eq (R q k)) 1 0 ≡ n =
            (let y : is_eq (R q k) ≡ true = ap is_eq e in rw y (omega arith)) in omega (arith, h (λ x. cond (is_eq (R q x)) 1 0), yes, room')
        | Greater ↦ λ e. apart (ap is_eq e)
      ] refl where
        apart : is_eq (R q k) ≡ false → copies R q fs < 2 ^ 64
        apart a = let none : n * cond (is_eq (R q k)) 1 0 ≡ 0 = rw a (omega arith) in omega (arith, h (λ x. cond (is_eq (R q x)) 1 0), none, c q)

  -- r became r', with n more of k
  abbrev pub More : List (K × ℕ) → List (K × ℕ) → K → ℕ → Type 0
  More r r' k n = SameTotals r' ((k, n) ∷ r)

  pub more_rising : (r r' l : List (K × ℕ)) (rs : List (List (K × ℕ))) (k : K) (n : ℕ) → More r r' k n → SameTotals (contents r' l rs) ((k, n) ∷ contents r l rs)
  more_rising r r' l rs k n h g = omega (arith, h g, total_contents g r l rs, total_contents g r' l rs)

  pub more_loose : (r l l' : List (K × ℕ)) (rs : List (List (K × ℕ))) (k : K) (n : ℕ) → More l l' k n → SameTotals (contents r l' rs) ((k, n) ∷ contents r l rs)
  more_loose r l l' rs k n h g = omega (arith, h g, total_contents g r l rs, total_contents g r l' rs)

  pub parts_rising : {R : K → K → Ordering} → IsTotalOrder R → CmpEqualImpliesEq R → (r r' l : List (K × ℕ)) (rs : List (List (K × ℕ))) (k : K) (n : ℕ)
      → AreParts R r l rs → IsRun R r' → More r r' k n → copies R k (contents r l rs) + n < 2 ^ 64 → AreParts R r' l rs
  parts_rising o exact r r' l rs k n p run h room =
      record { ascends = run; waits = p.waits; runs = p.runs; fits = fits_more o exact (contents r l rs) (contents r' l rs) k n (more_rising r r' l rs k n h) p.fits room }

  pub parts_loose : {R : K → K → Ordering} → IsTotalOrder R → CmpEqualImpliesEq R → (r l l' : List (K × ℕ)) (rs : List (List (K × ℕ))) (k : K) (n : ℕ)
      → AreParts R r l rs → Positive l' → More l l' k n → copies R k (contents r l rs) + n < 2 ^ 64 → AreParts R r l' rs
  parts_loose o exact r l l' rs k n p run h room =
      record { ascends = p.ascends; waits = run; runs = p.runs; fits = fits_more o exact (contents r l rs) (contents r l' rs) k n (more_loose r l l' rs k n h) p.fits room }

  -- ---- the run that rises

  above_push : {R : K → K → Ordering} → IsTotalOrder R → (x : K) (ps : List (K × ℕ)) (p : K × ℕ) (k : K) (n : ℕ) → R p.0 k ≡ Less → AllAbove R x (ps ++ p ∷ [])
      → AllAbove R x (ps ++ p ∷ (k, n) ∷ [])
  above_push o x [] p k n l h = (h.0, (o.trans x p.0 k h.0 l, tt))
  above_push o x (y ∷ ys) p k n l h = (h.0, above_push o x ys p k n l h.1)

  sorted_push : {R : K → K → Ordering} → IsTotalOrder R → (ps : List (K × ℕ)) (p : K × ℕ) (k : K) (n : ℕ) → R p.0 k ≡ Less
      → IsStrictlySortedBy R (keys_of (ps ++ p ∷ [])) → IsStrictlySortedBy R (keys_of (ps ++ p ∷ (k, n) ∷ []))
  unfolding IsStrictlySortedBy
  sorted_push o [] p k n l s = ((l, tt), (tt, tt))
  sorted_push o (x ∷ xs) p k n l s = (above_push o x.0 xs p k n l s.0, sorted_push o xs p k n l s.1)

  sorted_one : (R : K → K → Ordering) (k : K) (n : ℕ) → IsStrictlySortedBy R (keys_of ((k, n) ∷ []))
  unfolding IsStrictlySortedBy
  sorted_one R k n = (tt, tt)

  pub run_push : {R : K → K → Ordering} → IsTotalOrder R → (es fs : List (K × ℕ)) (k : K) (n : ℕ) → 0 < n → IsBelow R es k → IsRun R es → fs ≡ es ++ (k, n) ∷ [] → IsRun R fs
  run_push {R} o es fs k n h b s e = subst (IsRun R) (sym e) (record { ascending = sorted es b s.ascending; positive = positive_append es ((k, n) ∷ []) s.positive (h, tt) }) where
    sorted : (es : List (K × ℕ)) → IsBelow R es k → IsStrictlySortedBy R (keys_of es) → IsStrictlySortedBy R (keys_of (es ++ (k, n) ∷ []))
    sorted [] b s = sorted_one R k n
    sorted (x ∷ xs) b s =
        let w = split_last x xs in
        subst (λ (ys : List (K × ℕ)). IsStrictlySortedBy R (keys_of (ys ++ (k, n) ∷ []))) (sym w.2)
        (subst (λ (ys : List (K × ℕ)). IsStrictlySortedBy R (keys_of ys)) (sym (append_assoc w.0 (w.1 ∷ []) ((k, n) ∷ [])))
        (sorted_push o w.0 w.1 k n (b w.0 w.1 w.2) (subst (λ (ys : List (K × ℕ)). IsStrictlySortedBy R (keys_of ys)) w.2 s)))

  pub more_push : (es fs : List (K × ℕ)) (k : K) (n : ℕ) → fs ≡ es ++ (k, n) ∷ [] → More es fs k n
  more_push es fs k n e g = omega (arith, ap (total g) e, total-append g es ((k, n) ∷ []))

  -- a count may grow
  above-recount : (R : K → K → Ordering) (x : K) (os : List (K × ℕ)) (k : K) (n m : ℕ) (us : List (K × ℕ)) → AllAbove R x (os ++ (k, n) ∷ us) → AllAbove R x (os ++ (k, m) ∷ us)
  above-recount R x [] k n m us h = h
  above-recount R x (y ∷ ys) k n m us h = (h.0, above-recount R x ys k n m us h.1)

  sorted-recount : (R : K → K → Ordering) (os : List (K × ℕ)) (k : K) (n m : ℕ) (us : List (K × ℕ)) → IsStrictlySortedBy R (keys_of (os ++ (k, n) ∷ us)) → IsStrictlySortedBy R (keys_of (os ++ (k, m) ∷ us))
  unfolding IsStrictlySortedBy
  sorted-recount R [] k n m us s = s
  sorted-recount R (x ∷ xs) k n m us s = (above-recount R x.0 xs k n m us s.0, sorted-recount R xs k n m us s.1)

  positive-recount : (os : List (K × ℕ)) (k : K) (n m : ℕ) (us : List (K × ℕ)) → 0 < m → Positive (os ++ (k, n) ∷ us) → Positive (os ++ (k, m) ∷ us)
  positive-recount [] k n m us h s = (h, s.1)
  positive-recount (x ∷ xs) k n m us h s = (s.0, positive-recount xs k n m us h s.1)

  IsRun-recount : (R : K → K → Ordering) (os : List (K × ℕ)) (k : K) (n m : ℕ) (us : List (K × ℕ)) → 0 < m → IsRun R (os ++ (k, n) ∷ us) → IsRun R (os ++ (k, m) ∷ us)
  IsRun-recount R os k n m us h s = record { ascending = sorted-recount R os k n m us s.ascending; positive = positive-recount os k n m us h s.positive }

  pub run_count : {R : K → K → Ordering} → IsTotalOrder R → (es fs : List (K × ℕ)) (k : K) (n : ℕ) → EndsWith R es k
      → ((ps : List (K × ℕ)) (p : K × ℕ) → es ≡ ps ++ p ∷ [] → fs ≡ ps ++ (p.0, p.1 + n) ∷ []) → 0 < n → IsRun R es → IsRun R fs
  run_count {R} o es fs k n w new h s = subst (IsRun R) (sym (new w.0 w.1 w.2)) (IsRun-recount R w.0 w.1.0 w.1.1 (w.1.1 + n) [] (omega (arith, h)) (subst (IsRun R) w.2 s))

  pub more_count : {R : K → K → Ordering} → CmpEqualImpliesEq R → (es fs : List (K × ℕ)) (k : K) (n : ℕ) → EndsWith R es k
      → ((ps : List (K × ℕ)) (p : K × ℕ) → es ≡ ps ++ p ∷ [] → fs ≡ ps ++ (p.0, p.1 + n) ∷ []) → More es fs k n
  more_count exact es fs k n w new g =
      let key : g w.1.0 ≡ g k = ap g (exact w.1.0 k w.3) in
      let more : (w.1.1 + n) * g w.1.0 ≡ w.1.1 * g w.1.0 + n * g k = rw key (omega arith) in
      omega (arith, more, ap (total g) w.2, ap (total g) (new w.0 w.1 w.2), total-append g w.0 (w.1 ∷ []), total-append g w.0 ((w.1.0, w.1.1 + n) ∷ []))

  -- the last count has room
  pub last_fits : {R : K → K → Ordering} → IsTotalOrder R → CmpEqualImpliesEq R → (es l : List (K × ℕ)) (rs : List (List (K × ℕ))) (k : K) (n : ℕ) → EndsWith R es k
      → copies R k (contents es l rs) + n < 2 ^ 64 → (ps : List (K × ℕ)) (p : K × ℕ) → es ≡ ps ++ p ∷ [] → p.1 + n < 2 ^ 64
  last_fits {R} o exact es l rs k n w room ps p e =
      let g : K → ℕ = λ x. cond (is_eq (R k x)) 1 0 in
      let here : p ≡ w.1 = sym (found_last es ps p p (length es) e refl) ∙ found_last es w.0 w.1 p (length es) w.2 refl in
      let key : p.0 ≡ k = exact p.0 k (ap (λ (q : K × ℕ). R q.0 k) here ∙ w.3) in
      let yes : is_eq (R k p.0) ≡ true = ap (λ x. is_eq (R k x)) key ∙ ap is_eq (tied_itself o k) in
      let one : p.1 * g p.0 ≡ p.1 = rw yes (omega arith) in
      omega (arith, room, total_contents g es l rs, ap (total g) e, total-append g ps (p ∷ []), one)

  -- where nothing waits beside it
  pub alone_room : (R : K → K → Ordering) (es : List (K × ℕ)) (k : K) (n : ℕ) → copies R k es + n < 2 ^ 64 → copies R k (contents es [] []) + n < 2 ^ 64
  alone_room R es k n h = omega (arith, h, total_contents (λ x. cond (is_eq (R k x)) 1 0) es [] [])

  -- in the rising run it has room too
  pub rising_room : (R : K → K → Ordering) (r l : List (K × ℕ)) (rs : List (List (K × ℕ))) (k : K) (n : ℕ) → copies R k (contents r l rs) + n < 2 ^ 64
      → copies R k r + n < 2 ^ 64
  rising_room R r l rs k n h = omega (arith, h, total_contents (λ x. cond (is_eq (R k x)) 1 0) r l rs)

  -- ---- what waits loose

  pub positive_push : (es fs : List (K × ℕ)) (k : K) (n : ℕ) → 0 < n → fs ≡ es ++ (k, n) ∷ [] → Positive es → Positive fs
  positive_push es fs k n h e p = subst Positive (sym e) (positive_append es ((k, n) ∷ []) p (h, tt))

  -- ---- the whole

  pub view_added : {R : K → K → Ordering} → IsTotalOrder R → CmpEqualImpliesEq R → (es fs : List (K × ℕ)) (k : K) (n : ℕ) → 0 < n → Positive es → Positive fs
      → SameTotals fs ((k, n) ∷ es) → tally R fs ≡ put_more R (tally R es) k n
  view_added o exact es fs k n h p q s = same_tally o exact fs ((k, n) ∷ es) q (h, p) s

  pub room_in : {R : K → K → Ordering} → IsTotalOrder R → CmpEqualImpliesEq R → (es : List (K × ℕ)) (k : K) (n : ℕ) → Positive es
      → count_at R (tally R es) k + n < 2 ^ 64 → copies R k es + n < 2 ^ 64
  room_in o exact es k n p h = omega (arith, h, count_at-tally o exact k es p)

  pub kept_room : (R : K → K → Ordering) (es fs : List (K × ℕ)) (k : K) (n : ℕ) → SameTotals fs es → copies R k es + n < 2 ^ 64 → copies R k fs + n < 2 ^ 64
  kept_room R es fs k n h room = omega (arith, h (λ x. cond (is_eq (R k x)) 1 0), room)
