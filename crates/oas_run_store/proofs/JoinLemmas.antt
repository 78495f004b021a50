-- Entries that move from runs to the end of another.
use Rattle.std.proofs.Common.{◌≡◌, ℕ, zero, suc, ◌+◌, ◌*◌, ◌<◌, ◌≤◌, ◌^◌, true, List, [], ◌∷◌, ◌++◌, cond, length, get_or, take, drop, refl, sym, ◌∙◌, ap, arith, subst, length-append}
use Rattle.std.specs.List.{All}
use Rattle.std.proofs.lemmas.List.Elements.{All-head, All-tail}
use Rattle.std.proofs.Common.{slice_set}
use Rattle.std.specs.Cmp.{IsTotalOrder, tied_itself}
use Rattle.std.specs.Ordering.{is_eq}
use Rattle.std.specs.Map.{keys_of}
use Rattle.std.specs.declared.cmp.Ordering.{Ordering}
use Rattle.std.proofs.lemmas.Map.Keys.{sorted_tail}
use Rattle.oas_runs.specs.Runs.{total, copies, IsRun, SameTotals}
use Rattle.oas_runs.specs.Laws.RunLaws.{total-append}
use Rattle.oas_runs.specs.Blocks.{joined}
use Rattle.oas_run_store.specs.Parts.{CountsFit}
use Rattle.oas_run_store.proofs.PartLemmas.{total_runs}

module _ {K : Type 0} where
  abbrev tail_of : List (K × ℕ) → List (K × ℕ)
  tail_of [] = []
  tail_of (x ∷ xs) = xs

  -- what was taken is the first that was read
  abbrev pub Taken : List (K × ℕ) → List (K × ℕ) → Type 0
  Taken us us' = (q : K × ℕ) × (us ≡ q ∷ us')

  taken : (us us' es : List (K × ℕ)) (p : K × ℕ) → us ≡ p ∷ es → Taken us us' → us ≡ p ∷ us'
  taken us us' es p e t = e ∙ ap (λ (xs : List (K × ℕ)). p ∷ tail_of xs) (sym e ∙ t.1)

  run_tail : (R : K → K → Ordering) (p : K × ℕ) (es : List (K × ℕ)) → IsRun R (p ∷ es) → IsRun R es
  run_tail R p es h = record { ascending = sorted_tail R p.0 (keys_of es) h.ascending; positive = h.positive.1 }

  -- what is left is a run
  pub taken_run : (R : K → K → Ordering) (us us' : List (K × ℕ)) → Taken us us' → IsRun R us → IsRun R us'
  taken_run R us us' t h = run_tail R t.0 us' (subst (IsRun R) t.1 h)

  -- the first is there at least once
  pub first_some : (R : K → K → Ordering) (us es : List (K × ℕ)) (p : K × ℕ) → us ≡ p ∷ es → IsRun R us → 0 < p.1
  first_some R us es p e h = (subst (IsRun R) e h).positive.0

  -- and not too often to be counted with what is there
  pub first_room : {R : K → K → Ordering} → IsTotalOrder R → (to us es : List (K × ℕ)) (p : K × ℕ) → us ≡ p ∷ es → CountsFit R (to ++ us)
      → copies R p.0 to + p.1 < 2 ^ 64
  first_room {R} o to us es p e h =
      let g : K → ℕ = λ x. cond (is_eq (R p.0 x)) 1 0 in
      let yes : is_eq (R p.0 p.0) ≡ true = ap is_eq (tied_itself o p.0) in
      let one : p.1 * g p.0 ≡ p.1 = rw yes (omega arith) in
      omega (arith, h p.0, one, total-append g to us, ap (total g) e)

  pub moved_same : (to to' us us' es : List (K × ℕ)) (p : K × ℕ) → us ≡ p ∷ es → Taken us us' → SameTotals to' (p ∷ to) → SameTotals (to' ++ us') (to ++ us)
  moved_same to to' us us' es p e t h g =
      omega (arith, h g, ap (total g) (taken us us' es p e t), total-append g to us, total-append g to' us')

  pub moved_fewer : (us us' : List (K × ℕ)) → Taken us us' → length us' < length us
  moved_fewer us us' t = omega (arith, ap length t.1)

  -- ---- one of many runs is replaced

  -- a sum over all
  abbrev Adds : (List (K × ℕ) → ℕ) → Type 0
  Adds f = (xs ys : List (K × ℕ)) → f (xs ++ ys) ≡ f xs + f ys

  replaced : (f : List (K × ℕ) → ℕ) → Adds f → (rs : List (List (K × ℕ))) (i : ℕ) (r d : List (K × ℕ)) → i < length rs
      → f (joined (slice_set rs i r)) + f (get_or rs i d) ≡ f (joined rs) + f r
  replaced f a [] i r d h = absurd (omega (arith, h))
  replaced f a (x ∷ xs) zero r d h = omega (arith, a r (joined xs), a x (joined xs))
  replaced f a (x ∷ xs) (suc i) r d h = omega (arith, replaced f a xs i r d (omega (arith, h)), a x (joined (slice_set xs i r)), a x (joined xs))

  within : (f : List (K × ℕ) → ℕ) → Adds f → (rs : List (List (K × ℕ))) (i : ℕ) (d : List (K × ℕ)) → i < length rs → f (get_or rs i d) ≤ f (joined rs)
  within f a [] i d h = absurd (omega (arith, h))
  within f a (x ∷ xs) zero d h = omega (arith, a x (joined xs))
  within f a (x ∷ xs) (suc i) d h = omega (arith, within f a xs i d (omega (arith, h)), a x (joined xs))

  pub one_fits : (R : K → K → Ordering) (to r d : List (K × ℕ)) (rs : List (List (K × ℕ))) (i : ℕ) → i < length rs → r ≡ get_or rs i d → CountsFit R (to ++ joined rs)
      → CountsFit R (to ++ r)
  one_fits R to r d rs i h e c k =
      let g : K → ℕ = λ x. cond (is_eq (R k x)) 1 0 in
      omega (arith, c k, within (total g) (total-append g) rs i d h, ap (total g) e, total-append g to (joined rs), total-append g to r)

  pub one_moved : (to to' r r' d : List (K × ℕ)) (rs : List (List (K × ℕ))) (i : ℕ) → i < length rs → r ≡ get_or rs i d → SameTotals (to' ++ r') (to ++ r)
      → SameTotals (to' ++ joined (slice_set rs i r')) (to ++ joined rs)
  one_moved to to' r r' d rs i h e s g =
      omega (
        arith,
        s g,
        replaced (total g) (total-append g) rs i r' d h,
        ap (total g) e,
        total-append g to r,
        total-append g to' r',
        total-append g to (joined rs),
        total-append g to' (joined (slice_set rs i r')),
      )

  pub one_fewer : (r r' d : List (K × ℕ)) (rs : List (List (K × ℕ))) (i : ℕ) → i < length rs → r ≡ get_or rs i d → length r' < length r
      → length (joined (slice_set rs i r')) < length (joined rs)
  one_fewer r r' d rs i h e l = omega (arith, l, replaced length length-append rs i r' d h, ap length e)

  -- ---- all of the runs at the end

  over : (g : K → ℕ) (rs : List (List (K × ℕ))) → All (λ (r : List (K × ℕ)). r ≡ []) rs → total g (joined rs) ≡ 0
  over g [] h = refl
  over g (r ∷ rs) h = omega (
    arith,
    over g rs (All-tail (λ (r : List (K × ℕ)). r ≡ []) r rs h),
    ap (total g) (All-head (λ (r : List (K × ℕ)). r ≡ []) r rs h),
    total-append g r (joined rs),
  )

  -- where nothing is left of those that are cut off, nothing is lost
  pub cut_same : (rs : List (List (K × ℕ))) (n : ℕ) → All (λ (r : List (K × ℕ)). r ≡ []) (drop n rs) → SameTotals (joined (take n rs)) (joined rs)
  cut_same [] zero h g = refl
  cut_same [] (suc n) h g = refl
  cut_same (r ∷ rs) zero h g = sym (over g (r ∷ rs) h)
  cut_same (r ∷ rs) (suc n) h g = omega (arith, cut_same rs n h g, total-append g r (joined (take n rs)), total-append g r (joined rs))

  -- what was merged is put after what is left
  pub closed_same : (olds mids lefts keeps news : List (List (K × ℕ))) (whole to run : List (K × ℕ)) → mids ≡ olds → whole ≡ []
      → SameTotals (to ++ joined lefts) (whole ++ joined mids) → SameTotals (joined keeps) (joined lefts) → run ≡ to → news ≡ keeps ++ run ∷ []
      → SameTotals (joined news) (joined olds)
  closed_same olds mids lefts keeps news whole to run m w s k r n g =
      omega (
        arith,
        s g,
        k g,
        ap (λ (rs : List (List (K × ℕ))). total g (joined rs)) m,
        ap (total g) w,
        ap (total g) r,
        total_runs g news keeps run n,
        total-append g to (joined lefts),
        total-append g whole (joined mids),
      )
