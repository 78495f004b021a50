-- What is held after more was drawn.
use Rattle.std.proofs.Common.{◌≡◌, ℕ, zero, suc, ◌+◌, ◌*◌, ◌<◌, ◌≤◌, ◌^◌, List, [], ◌∷◌, ◌++◌, Bool, true, false, true≢false, Some, replicate, unwrap_or, cond, refl, sym, ◌∙◌, ap, subst, arith, length-append}
use Rattle.std.proofs.lemmas.List.{length-replicate}
use Rattle.std.proofs.lemmas.List.Folds.{sum_by-replicate}
use Rattle.std.proofs.lemmas.List.Sums.{sum_by-append}
use Rattle.std.proofs.lemmas.Map.Lookups.{exact_bytes}
use Rattle.std.specs.Prelude.{sum_by, length}
use Rattle.std.specs.Ordering.{match_ordering, nat_cmp}
use Rattle.std.specs.Cmp.Lexicographic.{slice_cmp}
use Rattle.std.specs.declared.cmp.Ordering.{Ordering}
use Rattle.std.specs.declared.cmp.Ordering.TheVariants.{Less, Equal, Greater}
use Rattle.std.specs.List.{AllByRecursion}
use Rattle.std.specs.Map.{lookup}
use Rattle.oas_record.specs.declared.references.CellRef.{CellRef}
use Rattle.oas_elements.specs.declared.profile.Profile.{Profile}
use Rattle.oas_elements.specs.declared.element.Element.{Element}
use Rattle.oas_elements.specs.Bag.{put_more}
use Rattle.oas_elements.specs.Laws.BagLaws.{total, total-put_more}
use Rattle.oas_elements.specs.Laws.SameLaws.{normal-normal}
use Rattle.oas_elements.specs.Same.{normal}
use Rattle.oas_elements.specs.Sound.{IsSound}
use Rattle.oas_elements.specs.Weight.{weight_of}
use Rattle.oas_keys.specs.Keys.{key_of}
use Rattle.oas_runs.specs.Entries.{Entry}
use Rattle.oas_reader.specs.Drawn.{Drawn}
use Rattle.oas_reader.specs.Drawn.TheVariants.{Named, PlacementBy, TextBy}
use Rattle.oas_reader.specs.DrawingDrawn.{drawn_cmp, weight_so_far}
use Rattle.oas_reader.specs.DrawnLaws.{exact_drawn}
use Rattle.oas_reader.specs.Weights.{capped}
use Rattle.oas_reader.specs.Finish.{IsFit}
use Rattle.oas_reader.specs.Stores.{Draws, IsBegun}
use Rattle.oas_reader.proofs.StoreLemmas.{draws_none}
use Rattle.oas_reader.proofs.TakeLemmas.{all_append}
use Rattle.oas_reader.proofs.WeightLemmas.{capped_more}
use Rattle.oas_cells.specs.Compact.{Compact, number_drawn, is_named, by_key, by_number, IsKey, IsSoundNamed, Keeps, WaitsMore, compact_store}
use Rattle.oas_cells.proofs.KeptLemmas.{normal_sound}

-- ---- counted lists

module _ {K : Type 0} where
  -- how often one is there is no more than how often all are
  pub one_few : (test : K → Bool) (ps : List (K × ℕ)) → unwrap_or (lookup test ps) 0 ≤ total (λ _. 1) ps
  one_few test [] = omega arith
  one_few test (p ∷ ps) =
      elim (test p.0) as (λ b. unwrap_or (cond b (Some p.1) (lookup test ps)) 0 ≤ p.1 * 1 + total (λ _. 1) ps) [
        | true ↦ omega arith
        | false ↦ omega (arith, one_few test ps)
      ]

  -- n more are n more
  pub few_is : (R : K → K → Ordering) (ps : List (K × ℕ)) (k : K) (n : ℕ) → total (λ _. 1) (put_more R ps k n) ≡ total (λ _. 1) ps + n
  few_is R ps k n = omega (arith, total-put_more R (λ _. 1) ps k n (λ x e. refl))

  -- what holds for what is there, and for what is added, holds for all
  pub all-put_more : (P : K × ℕ → Type 0) (R : K → K → Ordering) (ps : List (K × ℕ)) (k : K) (n : ℕ) → ((p : K × ℕ) → P p → P (p.0, p.1 + n)) → P (k, n) → AllByRecursion P ps
      → AllByRecursion P (put_more R ps k n)
  all-put_more P R [] k n more one a = (one, tt)
  all-put_more P R (p ∷ ps) k n more one a =
      elim (R k p.0) as (λ r. AllByRecursion P (match_ordering r ((k, n) ∷ p ∷ ps) ((p.0, p.1 + n) ∷ ps) (p ∷ put_more R ps k n))) [
        | Less ↦ (one, a)
        | Equal ↦ (more p a.0, a.1)
        | Greater ↦ (a.0, all-put_more P R ps k n more one a.1)
      ]

-- n times what holds for d
all_times : (P : Drawn → Type 0) (d : Drawn) (n : ℕ) → P d → AllByRecursion P (replicate n d)
all_times P d zero h = tt
all_times P d (suc n) h = (h, all_times P d n h)

sum_more : (d : Drawn) (n : ℕ) (g : Drawn → ℕ) (before : List Drawn) → sum_by g (before ++ replicate n d) ≡ sum_by g before + n * g d
sum_more d n g before = sum_by-append g before (replicate n d) ∙ ap (λ (k : ℕ). sum_by g before + k) (sum_by-replicate g n d)

number_more : (d : Drawn) (n was now : ℕ) (before : List Drawn) → was ≡ length before → now ≡ was + n → now ≡ length (before ++ replicate n d)
number_more d n was now before is more = omega (arith, is, more, length-append before (replicate n d), length-replicate n d)

weight_more : (d : Drawn) (n was now : ℕ) (before : List Drawn) → was ≡ capped (sum_by weight_so_far before) → now ≡ capped (was + capped (weight_so_far d * n))
    → now ≡ capped (sum_by weight_so_far (before ++ replicate n d))
weight_more d n was now before is e =
    let turned : weight_so_far d * n ≡ n * weight_so_far d = omega arith in
    e ∙ ap (λ (w : ℕ). capped (w + capped (weight_so_far d * n))) is
    ∙ (capped_more (sum_by weight_so_far before) (weight_so_far d * n)
    ∙ ap capped (ap (λ (w : ℕ). sum_by weight_so_far before + w) turned ∙ sym (sum_more d n weight_so_far before)))

-- more of one key adds what it counts for
pub keys_more : (g : List ℕ → ℕ) (ps : List Entry) (k : List ℕ) (n : ℕ) → total g (put_more (slice_cmp nat_cmp) ps k n) ≡ total g ps + n * g k
keys_more g ps k n = total-put_more (slice_cmp nat_cmp) g ps k n (λ x h. ap g (sym (exact_bytes k x h)))

-- so does more of what waits
pub waiting_more : (g : Drawn → ℕ) (ps : List (Drawn × ℕ)) (d : Drawn) (n : ℕ) → total g (put_more drawn_cmp ps d n) ≡ total g ps + n * g d
waiting_more g ps d n = total-put_more drawn_cmp g ps d n (λ x h. ap g (sym (exact_drawn d x h)))

-- ---- what is held of a cell

module _ (profile : Profile) (n : ℕ) where
  -- an element is kept
  pub kept : (old new : Compact) (e : Element) → IsSound e → new
      ≡ record { cell = old.cell; weight = capped (old.weight + capped (weight_of e * n)); keys = put_more (slice_cmp nat_cmp) old.keys (key_of (normal profile e)) n; waiting = old.waiting }
      → Draws (compact_store profile) old (replicate n (Named e)) new
  kept old new e sound is =
      subst (Draws (compact_store profile) old (replicate n (Named e))) (sym is) (record {
        cell = refl;
        count = omega (arith, number, length-replicate n (Named e));
        sound = λ s. record {
          drawn = s.drawn ++ replicate n (Named e);
          keeps = holds s.drawn s.keeps;
          keys =
              all-put_more (λ p. IsKey profile p.0) (slice_cmp nat_cmp) old.keys (key_of (normal profile e)) n (λ p h. h)
              (record { element = normal profile e; sound = normal_sound profile e sound; normal = normal-normal profile e; is = refl }) s.keys;
          waiting = s.waiting;
        };
        holds = holds;
      })
    where
      none : (k : ℕ) → k + n * 0 ≡ k
      none k = omega arith

      more : Compact
      more = record { cell = old.cell; weight = capped (old.weight + capped (weight_of e * n)); keys = put_more (slice_cmp nat_cmp) old.keys (key_of (normal profile e)) n; waiting = old.waiting }

      number : number_drawn more.keys more.waiting ≡ number_drawn old.keys old.waiting + n
      number = omega (arith, few_is (slice_cmp nat_cmp) old.keys (key_of (normal profile e)) n)

      holds : (before : List Drawn) → Keeps profile old before → Keeps profile more (before ++ replicate n (Named e))
      holds before b = record {
        count = number_more (Named e) n (number_drawn old.keys old.waiting) _ before b.count number;
        sound = all_append IsSoundNamed before (replicate n (Named e)) b.sound (all_times IsSoundNamed (Named e) n sound);
        weight = weight_more (Named e) n old.weight _ before b.weight refl;
        keys = λ g. keys_more g old.keys (key_of (normal profile e)) n ∙ (ap (λ (k : ℕ). k + n * g (key_of (normal profile e))) (b.keys g) ∙ sym (sum_more (Named e) n (by_key profile g) before));
        waiting = λ g. b.waiting g ∙ sym (sum_more (Named e) n (by_number g) before ∙ none (sum_by (by_number g) before));
      }

  -- what is drawn by a number
  by_key_none : (d : Drawn) → is_named d ≡ false → (g : List ℕ → ℕ) → by_key profile g d ≡ 0
  by_key_none (Named e) h g = absurd (true≢false h)
  by_key_none (PlacementBy number x y turns flip) h g = refl
  by_key_none (TextBy number textlayer texttype x y) h g = refl

  by_number_all : (d : Drawn) → is_named d ≡ false → (g : Drawn → ℕ) → by_number g d ≡ g d
  by_number_all (Named e) h g = absurd (true≢false h)
  by_number_all (PlacementBy number x y turns flip) h g = refl
  by_number_all (TextBy number textlayer texttype x y) h g = refl

  sound_numbered : (d : Drawn) → is_named d ≡ false → IsSoundNamed d
  sound_numbered (Named e) h = absurd (true≢false h)
  sound_numbered (PlacementBy number x y turns flip) h = tt
  sound_numbered (TextBy number textlayer texttype x y) h = tt

  weighs_one : (d : Drawn) → is_named d ≡ false → weight_so_far d ≡ 1
  weighs_one (Named e) h = absurd (true≢false h)
  weighs_one (PlacementBy number x y turns flip) h = refl
  weighs_one (TextBy number textlayer texttype x y) h = refl

  -- something waits
  pub waits : (old new : Compact) (d : Drawn) (ws : List (Drawn × ℕ)) → 0 < n → n < 2 ^ 64 → IsFit d → is_named d ≡ false → WaitsMore old.waiting d n ws → new
      ≡ record { cell = old.cell; weight = capped (old.weight + n); keys = old.keys; waiting = ws }
      → Draws (compact_store profile) old (replicate n d) new
  waits old new d ws some small fit numbered more is =
      subst (Draws (compact_store profile) old (replicate n d)) (sym is) (record {
        cell = refl;
        count = omega (arith, number, length-replicate n d);
        sound = λ s. record {
          drawn = s.drawn ++ replicate n d;
          keeps = holds s.drawn s.keeps;
          keys = s.keys;
          waiting = more.waits s.waiting (record { fit = fit; numbered = numbered; some = some });
        };
        holds = holds;
      })
    where
      none : (k : ℕ) → k + n * 0 ≡ k
      none k = omega arith

      exact : (k : ℕ) → k < 2 ^ 64 → capped k ≡ k
      exact k h = grind arith

      one : weight_so_far d * n ≡ n
      one = ap (λ (k : ℕ). k * n) (weighs_one d numbered) ∙ omega arith

      same : n ≡ capped (weight_so_far d * n)
      same = sym (ap capped one ∙ exact n small)

      now : Compact
      now = record { cell = old.cell; weight = capped (old.weight + n); keys = old.keys; waiting = ws }

      number : number_drawn old.keys ws ≡ number_drawn old.keys old.waiting + n
      number = omega (arith, more.sums (λ _. 1))

      holds : (before : List Drawn) → Keeps profile old before → Keeps profile now (before ++ replicate n d)
      holds before b = record {
        count = number_more d n (number_drawn old.keys old.waiting) _ before b.count number;
        sound = all_append IsSoundNamed before (replicate n d) b.sound (all_times IsSoundNamed d n (sound_numbered d numbered));
        weight = weight_more d n old.weight _ before b.weight (ap (λ (k : ℕ). capped (old.weight + k)) same);
        keys = λ g. b.keys g ∙ sym (sum_more d n (by_key profile g) before ∙ ap (λ (k : ℕ). sum_by (by_key profile g) before + n * k) (by_key_none d numbered g) ∙ none (sum_by (by_key profile g) before));
        waiting = λ g. more.sums g
            ∙ (ap (λ (k : ℕ). k + n * g d) (b.waiting g) ∙ sym (sum_more d n (by_number g) before ∙ ap (λ (k : ℕ). sum_by (by_number g) before + n * k) (by_number_all d numbered g)));
      }

-- the same for a cell whose parts are known
module _ (profile : Profile) (n : ℕ) (old : Compact) (a : CellRef) (v w : ℕ) (ks : List Entry) (ws : List (Drawn × ℕ))
    (view : ◌≡◌ {A = Compact} (record { cell = a; weight = v; keys = ks; waiting = ws }) old) where
  pub kept_up : (e : Element) (qs : List Entry) (us : List (Drawn × ℕ)) → IsSound e → w ≡ capped (v + capped (weight_of e * n)) → qs ≡ put_more (slice_cmp nat_cmp) ks (key_of (normal profile e)) n → us ≡ ws
      → Draws (compact_store profile) old (replicate n (Named e)) (record { cell = a; weight = w; keys = qs; waiting = us })
  kept_up e qs us sound weighs is same =
      subst (λ (o : Compact). Draws (compact_store profile) o (replicate n (Named e)) (record { cell = a; weight = w; keys = qs; waiting = us })) view
      (kept profile n (record { cell = a; weight = v; keys = ks; waiting = ws }) _ e sound (λ i. record { cell = a; weight = weighs i; keys = is i; waiting = same i }))

  pub waits_up : (d : Drawn) (qs : List Entry) (xs : List (Drawn × ℕ)) → 0 < n → n < 2 ^ 64 → IsFit d → is_named d ≡ false → w ≡ capped (v + n) → qs ≡ ks → WaitsMore ws d n xs
      → Draws (compact_store profile) old (replicate n d) (record { cell = a; weight = w; keys = qs; waiting = xs })
  waits_up d qs xs some small fit numbered weighs same more =
      subst (λ (o : Compact). Draws (compact_store profile) o (replicate n d) (record { cell = a; weight = w; keys = qs; waiting = xs })) view
      (waits profile n (record { cell = a; weight = v; keys = ks; waiting = ws }) _ d xs some small fit numbered more (λ i. record { cell = a; weight = weighs i; keys = same i; waiting = xs }))

-- nothing changes
pub unchanged : (profile : Profile) (old new : Compact) → new ≡ old → Draws (compact_store profile) old [] new
unchanged profile old new is = subst (Draws (compact_store profile) old []) (sym is) (draws_none (compact_store profile) old)

-- nothing is drawn yet
pub begun : (profile : Profile) (c : CellRef) (s : Compact) → s ≡ record { cell = c; weight = 0; keys = []; waiting = [] } → IsBegun (compact_store profile) c s
begun profile c s is =
    subst (IsBegun (compact_store profile) c) (sym is)
    (record { cell = refl; count = refl; sound = record { keys = tt; waiting = tt; drawn = []; keeps = none }; holds = none })
  where
    none : Keeps profile (record { cell = c; weight = 0; keys = []; waiting = [] }) []
    none = record { count = refl; sound = tt; weight = refl; keys = λ g. refl; waiting = λ g. refl }
