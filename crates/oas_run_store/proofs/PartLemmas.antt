-- Lists of runs, and runs at their ends.
use Rattle.std.proofs.Common.{◌≡◌, ℕ, ◌+◌, ◌-◌, List, [], ◌∷◌, ◌++◌, length, cond, get_or, refl, sym, ◌∙◌, ap, arith, subst, length-append, append_assoc, append-nil}
use Rattle.std.proofs.Math.Seq.{get_or-append_seam}
use Rattle.std.specs.Ordering.{is_eq}
use Rattle.std.specs.List.Sorted.{IsStrictlySortedBy}
use Rattle.std.specs.declared.cmp.Ordering.{Ordering}
use Rattle.oas_runs.specs.Runs.{total, copies, IsRun, SameTotals}
use Rattle.oas_runs.specs.Laws.RunLaws.{total-append}
use Rattle.oas_runs.specs.Blocks.{joined}
use Rattle.oas_run_store.specs.Parts.{contents, AreParts, AreRuns, CountsFit}

-- a list that is not empty has a last item
pub split_last : {X : Type 0} (x : X) (xs : List X) → (ps : List X) × (p : X) × (x ∷ xs ≡ ps ++ p ∷ [])
split_last x [] = ([], x, refl)
split_last x (y ∷ ys) = let r = split_last y ys in (x ∷ r.0, r.1, ap (λ zs. x ∷ zs) r.2)

-- which is what is found there
pub found_last : {X : Type 0} (es ps : List X) (p d : X) (n : ℕ) → es ≡ ps ++ p ∷ [] → n ≡ length es → get_or es (n - 1) d ≡ p
found_last es ps p d n e m =
    let long : length es ≡ length ps + 1 = ap length e ∙ length-append ps (p ∷ []) ∙ omega arith in
    let at : n - 1 ≡ length ps = omega (arith, long, m) in
    (λ i. get_or (e i) (at i) d) ∙ get_or-append_seam ps p [] d

module _ {K : Type 0} where
  -- the runs at the end of a list of runs
  are_runs : (R : K → K → Ordering) (rs : List (List (K × ℕ))) (r : List (K × ℕ)) → AreRuns R (rs ++ r ∷ []) → AreRuns R rs × IsRun R r
  are_runs R [] r h = (tt, h.0)
  are_runs R (x ∷ xs) r h = let w = are_runs R xs r h.1 in ((h.0, w.0), w.1)

  pub split_runs : (R : K → K → Ordering) (olds rs : List (List (K × ℕ))) (r : List (K × ℕ)) → olds ≡ rs ++ r ∷ [] → AreRuns R olds → AreRuns R rs × IsRun R r
  split_runs R olds rs r e h = are_runs R rs r (subst (λ (xs : List (List (K × ℕ))). AreRuns R xs) e h)

  are_more : (R : K → K → Ordering) (rs : List (List (K × ℕ))) (r : List (K × ℕ)) → AreRuns R rs → IsRun R r → AreRuns R (rs ++ r ∷ [])
  are_more R [] r h k = (k, tt)
  are_more R (x ∷ xs) r h k = (h.0, are_more R xs r h.1 k)

  pub more_runs : (R : K → K → Ordering) (news rs : List (List (K × ℕ))) (r : List (K × ℕ)) → news ≡ rs ++ r ∷ [] → AreRuns R rs → IsRun R r → AreRuns R news
  more_runs R news rs r e h k = subst (λ (xs : List (List (K × ℕ))). AreRuns R xs) (sym e) (are_more R rs r h k)

  total_more : (g : K → ℕ) (rs : List (List (K × ℕ))) (r : List (K × ℕ)) → total g (joined (rs ++ r ∷ [])) ≡ total g (joined rs) + total g r
  total_more g [] r = omega (arith, total-append g r [])
  total_more g (x ∷ xs) r = omega (arith, total_more g xs r, total-append g x (joined (xs ++ r ∷ [])), total-append g x (joined xs))

  -- what they hold together, with one more
  pub total_runs : (g : K → ℕ) (news rs : List (List (K × ℕ))) (r : List (K × ℕ)) → news ≡ rs ++ r ∷ [] → total g (joined news) ≡ total g (joined rs) + total g r
  total_runs g news rs r e = ap (λ (xs : List (List (K × ℕ))). total g (joined xs)) e ∙ total_more g rs r

  pub fit_same : (R : K → K → Ordering) (es fs : List (K × ℕ)) → SameTotals fs es → CountsFit R es → CountsFit R fs
  fit_same R es fs h c k = omega (arith, h (λ x. cond (is_eq (R k x)) 1 0), c k)

  pub total_contents : (g : K → ℕ) (rising loose : List (K × ℕ)) (rs : List (List (K × ℕ)))
      → total g (contents rising loose rs) ≡ total g rising + total g loose + total g (joined rs)
  total_contents g rising loose rs = omega (arith, total-append g (rising ++ loose) (joined rs), total-append g rising loose)

  pub IsRun-empty : (R : K → K → Ordering) (es : List (K × ℕ)) → es ≡ [] → IsRun R es
  unfolding IsStrictlySortedBy
  IsRun-empty R es e = subst (IsRun R) (sym e) (record { ascending = tt; positive = tt })

  -- ---- one more run

  pub added_same : (olds news : List (List (K × ℕ))) (run : List (K × ℕ)) → news ≡ olds ++ run ∷ [] → SameTotals (joined news) (run ++ joined olds)
  added_same olds news run e g = omega (arith, total_runs g news olds run e, total-append g run (joined olds))

  -- what waited is one more run
  pub settled_same : (old new run : List (K × ℕ)) (olds mids news : List (List (K × ℕ))) → run ≡ old → new ≡ [] → mids ≡ olds
      → SameTotals (joined news) (run ++ joined mids) → SameTotals (new ++ joined news) (old ++ joined olds)
  settled_same old new run olds mids news a b c h g =
      omega (
        arith,
        h g,
        ap (total g) a,
        ap (total g) b,
        ap (λ (rs : List (List (K × ℕ))). total g (joined rs)) c,
        total-append g run (joined mids),
        total-append g new (joined news),
        total-append g old (joined olds),
      )

  pub settled_fit : (R : K → K → Ordering) (old run : List (K × ℕ)) (olds mids : List (List (K × ℕ))) → run ≡ old → mids ≡ olds → CountsFit R (old ++ joined olds)
      → CountsFit R (run ++ joined mids)
  settled_fit R old run olds mids a c h k = (let e : copies R k (run ++ joined mids) ≡ copies R k (old ++ joined olds) = (λ i. copies R k (a i ++ joined (c i))) in omega (arith, e, h k))

  -- ---- the parts of a store, of which one is settled

  pub rising_same : (r l r' : List (K × ℕ)) (rs rs' : List (List (K × ℕ))) → SameTotals (r' ++ joined rs') (r ++ joined rs) → SameTotals (contents r' l rs') (contents r l rs)
  rising_same r l r' rs rs' h g = omega (arith, h g, total-append g r (joined rs), total-append g r' (joined rs'), total_contents g r l rs, total_contents g r' l rs')

  pub rising_fit : (R : K → K → Ordering) (r l : List (K × ℕ)) (rs : List (List (K × ℕ))) → CountsFit R (contents r l rs) → CountsFit R (r ++ joined rs)
  rising_fit R r l rs h k = omega (arith, h k, total_contents (λ x. cond (is_eq (R k x)) 1 0) r l rs, total-append (λ x. cond (is_eq (R k x)) 1 0) r (joined rs))

  pub rising_parts : (R : K → K → Ordering) (r l r' : List (K × ℕ)) (rs rs' : List (List (K × ℕ))) → AreParts R r l rs → IsRun R r' → AreRuns R rs'
      → SameTotals (r' ++ joined rs') (r ++ joined rs) → AreParts R r' l rs'
  rising_parts R r l r' rs rs' p run runs h = record { ascends = run; waits = p.waits; runs = runs; fits = fit_same R (contents r l rs) (contents r' l rs') (rising_same r l r' rs rs' h) p.fits }

  -- one entry of many was put
  pub one_put : (done left rest done' whole : List (K × ℕ)) (p : K × ℕ) → left ≡ p ∷ rest → done' ≡ done ++ p ∷ [] → done ++ left ≡ whole → done' ++ rest ≡ whole
  one_put done left rest done' whole p e f w = ap (λ (xs : List (K × ℕ)). xs ++ rest) f ∙ append_assoc done (p ∷ []) rest ∙ ap (λ (xs : List (K × ℕ)). done ++ xs) (sym e) ∙ w

  pub all_put : (run done left whole : List (K × ℕ)) → run ≡ done → left ≡ [] → done ++ left ≡ whole → run ≡ whole
  all_put run done left whole a b w = a ∙ sym (append-nil done) ∙ ap (λ (xs : List (K × ℕ)). done ++ xs) (sym b) ∙ w
