-- The parts of a store, and the list that contracts see.
use Rattle.std.proofs.Common.{◌≡◌, ℕ, ◌<◌, ◌^◌, List, [], ◌∷◌, ◌++◌, cond, length, refl, sym, ap, arith, subst}
use Rattle.std.specs.Cmp.{IsTotalOrder}
use Rattle.std.specs.Ordering.{is_eq}
use Rattle.std.specs.declared.cmp.Ordering.{Ordering}
use Rattle.std.proofs.lemmas.Map.Lookups.{CmpEqualImpliesEq}
use Rattle.oas_elements.specs.Bag.{put_more}
use Rattle.oas_runs.specs.Runs.{total, Positive, IsRun, SameTotals}
use Rattle.oas_run_store.specs.Tally.{tally, count_at}
use Rattle.oas_run_store.specs.Laws.TallyLaws.{same_tally, run_is_tally, count_at-is}
use Rattle.oas_runs.specs.Blocks.{joined}
use Rattle.oas_run_store.specs.Parts.{contents, AreParts, AreRuns, CountsFit}
use Rattle.oas_run_store.proofs.PartLemmas.{total_contents, total_runs, IsRun-empty}
use Rattle.oas_run_store.proofs.AddLemmas.{positive_contents, view_added}

module _ {K : Type 0} where
  -- no parts
  pub no_parts : (R : K → K → Ordering) (r l : List (K × ℕ)) (rs : List (List (K × ℕ))) → r ≡ [] → l ≡ [] → rs ≡ [] → AreParts R r l rs
  no_parts R r l rs a b c = record {
    ascends = IsRun-empty R r a;
    waits = subst (λ (es : List (K × ℕ)). Positive es) (sym b) tt;
    runs = subst (λ (xs : List (List (K × ℕ))). AreRuns R xs) (sym c) tt;
    fits = λ k. let g : K → ℕ = λ x. cond (is_eq (R k x)) 1 0 in omega (arith, total_contents g r l rs, ap (total g) a, ap (total g) b, ap (λ (xs : List (List (K × ℕ))). total g (joined xs)) c);
  }

  -- parts that weigh the same are seen as the same
  pub same_view : {R : K → K → Ordering} → IsTotalOrder R → CmpEqualImpliesEq R → (r l r' l' : List (K × ℕ)) (rs rs' : List (List (K × ℕ))) → AreParts R r l rs
      → AreParts R r' l' rs' → SameTotals (contents r' l' rs') (contents r l rs) → tally R (contents r' l' rs') ≡ tally R (contents r l rs)
  same_view {R} o exact r l r' l' rs rs' p q h = same_tally o exact (contents r' l' rs') (contents r l rs) (positive_contents R r' l' rs' q) (positive_contents R r l rs p) h

  -- one more key is seen as one more key
  pub more_view : {R : K → K → Ordering} → IsTotalOrder R → CmpEqualImpliesEq R → (r l r' l' : List (K × ℕ)) (rs rs' : List (List (K × ℕ))) (k : K) (n : ℕ) → 0 < n
      → AreParts R r l rs → AreParts R r' l' rs' → SameTotals (contents r' l' rs') ((k, n) ∷ contents r l rs)
      → tally R (contents r' l' rs') ≡ put_more R (tally R (contents r l rs)) k n
  more_view {R} o exact r l r' l' rs rs' k n h p q s = view_added o exact (contents r l rs) (contents r' l' rs') k n h (positive_contents R r l rs p) (positive_contents R r' l' rs' q) s

  pub joined_fit : (R : K → K → Ordering) (r l : List (K × ℕ)) (rs : List (List (K × ℕ))) → CountsFit R (contents r l rs) → CountsFit R (joined rs)
  joined_fit R r l rs h k = omega (arith, h k, total_contents (λ x. cond (is_eq (R k x)) 1 0) r l rs)

  pub same_joined : (r l : List (K × ℕ)) (rs rs' : List (List (K × ℕ))) → SameTotals (joined rs') (joined rs) → SameTotals (contents r l rs') (contents r l rs)
  same_joined r l rs rs' h g = omega (arith, h g, total_contents g r l rs, total_contents g r l rs')

  pub parts_joined : (R : K → K → Ordering) (r l : List (K × ℕ)) (rs rs' : List (List (K × ℕ))) → AreParts R r l rs → AreRuns R rs'
      → SameTotals (joined rs') (joined rs) → AreParts R r l rs'
  parts_joined R r l rs rs' p runs h = record { ascends = p.ascends; waits = p.waits; runs = runs; fits = λ k. omega (arith, p.fits k, same_joined r l rs rs' h (λ x. cond (is_eq (R k x)) 1 0)) }

  none_held : (g : K → ℕ) (rs : List (List (K × ℕ))) → length rs ≡ 0 → total g (joined rs) ≡ 0
  none_held g [] h = refl
  none_held g (x ∷ xs) h = absurd (omega (arith, h))

  -- a run that is all there is weighs what all does
  pub only_run : (olds rs : List (List (K × ℕ))) (run : List (K × ℕ)) → olds ≡ rs ++ run ∷ [] → length rs ≡ 0 → SameTotals run (joined olds)
  only_run olds rs run e h g = omega (arith, total_runs g olds rs run e, none_held g rs h)

  pub no_run : (olds : List (List (K × ℕ))) (es : List (K × ℕ)) → length olds ≡ 0 → es ≡ [] → SameTotals es (joined olds)
  no_run olds es h e g = omega (arith, none_held g olds h, ap (total g) e)

  -- so it is what the store was seen as
  pub run_is_view : {R : K → K → Ordering} → IsTotalOrder R → CmpEqualImpliesEq R → (es r l r' l' : List (K × ℕ)) (rs rs' : List (List (K × ℕ))) → IsRun R es
      → AreParts R r l rs → r' ≡ [] → l' ≡ [] → SameTotals (contents r' l' rs') (contents r l rs)
      → SameTotals es (joined rs') → es ≡ tally R (contents r l rs)
  run_is_view {R} o exact es r l r' l' rs rs' run p a b h i =
      run_is_tally o exact es (contents r l rs) run (positive_contents R r l rs p) (λ g. omega (arith, i g, h g, total_contents g r' l' rs', ap (total g) a, ap (total g) b))

  -- ---- a run among what waits, and nothing else

  alone : (g : K → ℕ) (r es : List (K × ℕ)) (rs : List (List (K × ℕ))) → r ≡ [] → rs ≡ [] → total g (contents r es rs) ≡ total g es
  alone g r es rs a b = omega (arith, total_contents g r es rs, ap (total g) a, ap (λ (xs : List (List (K × ℕ))). total g (joined xs)) b)

  pub block_parts : {R : K → K → Ordering} → IsTotalOrder R → (r es : List (K × ℕ)) (rs : List (List (K × ℕ))) → r ≡ [] → rs ≡ [] → IsRun R es
      → ((k : K) → count_at R es k < 2 ^ 64) → AreParts R r es rs
  block_parts {R} o r es rs a b run h = record {
    ascends = IsRun-empty R r a;
    waits = run.positive;
    runs = subst (λ (xs : List (List (K × ℕ))). AreRuns R xs) (sym b) tt;
    fits = λ k. omega (arith, alone (λ x. cond (is_eq (R k x)) 1 0) r es rs a b, count_at-is o k es run.ascending, h k);
  }

  pub block_is_view : {R : K → K → Ordering} → IsTotalOrder R → CmpEqualImpliesEq R → (r es : List (K × ℕ)) (rs : List (List (K × ℕ))) → r ≡ [] → rs ≡ []
      → IsRun R es → AreParts R r es rs → tally R (contents r es rs) ≡ es
  block_is_view {R} o exact r es rs a b run p =
      sym (run_is_tally o exact es (contents r es rs) run (positive_contents R r es rs p) (λ g. sym (alone g r es rs a b)))
