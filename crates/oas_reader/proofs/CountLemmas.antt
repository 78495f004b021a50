-- What is counted after more was drawn.
use Rattle.std.proofs.Common.{◌≡◌, ℕ, ◌+◌, ◌*◌, ◌<◌, List, [], ◌++◌, replicate, refl, sym, ◌∙◌, ap, subst, arith}
use Rattle.std.proofs.lemmas.List.{length-replicate}
use Rattle.std.proofs.lemmas.List.Folds.{sum_by-replicate}
use Rattle.std.proofs.lemmas.List.Sums.{sum_by-append}
use Rattle.std.specs.Prelude.{sum_by, Option, None, Some, Result, Ok, Err, OnOk, OnErr}
use Rattle.oas_record.specs.declared.references.CellRef.{CellRef}
use Rattle.oas_elements.specs.Laws.BagLaws.{total}
use Rattle.oas_drawing.specs.declared.drawn.Drawn.{Drawn}
use Rattle.oas_drawing.specs.declared.tally.Tally.{Tally}
use Rattle.oas_drawing.specs.Reasons.{fault_of}
use Rattle.oas_reader.specs.Copying.{drawn_times}
use Rattle.oas_drawing.specs.declared.drawn.Drawn.TheVariants.{Named, PlacementBy, TextBy}
use Rattle.oas_drawing.specs.Drawn.{weight_so_far}
use Rattle.oas_drawing.specs.Tallies.{used_by, tally_of, IsTallied}
use Rattle.oas_reader.specs.Weights.{capped, AllUsed}
use Rattle.oas_reader.proofs.WeightLemmas.{capped_more}
use Rattle.oas_reader.proofs.UsedLemmas.{total_more, used_more}
use Rattle.oas_reader.specs.Stores.{Draws, IsBegun}
use Rattle.oas_reader.specs.Counted.{Counted, placed_by, written_by, counted_store, placed_more, written_more, counted_more}
use Rattle.oas_reader.proofs.StoreLemmas.{draws_none}

module _ (d : Drawn) (n : ℕ) where
  -- each number is still used
  placed_used : 0 < n → (ps : List (ℕ × ℕ)) → AllUsed ps → AllUsed (placed_more (used_by d) n ps)
  placed_used h ps a = elim d as (λ x. AllUsed (placed_more (used_by x) n ps)) [ Named e ↦ a | PlacementBy number x y turns flip ↦ used_more ps number n h a | TextBy number textlayer texttype x y ↦ a ]

  written_used : 0 < n → (ps : List (ℕ × ℕ)) → AllUsed ps → AllUsed (written_more (used_by d) n ps)
  written_used h ps a = elim d as (λ x. AllUsed (written_more (used_by x) n ps)) [ Named e ↦ a | PlacementBy number x y turns flip ↦ a | TextBy number textlayer texttype x y ↦ used_more ps number n h a ]

  -- and counts for as much more
  placed_total : (f : ℕ → ℕ) (ps : List (ℕ × ℕ)) → total f (placed_more (used_by d) n ps) ≡ total f ps + n * placed_by f d
  placed_total f ps =
      elim d as (λ x. total f (placed_more (used_by x) n ps) ≡ total f ps + n * placed_by f x) [
        | Named e ↦ omega arith
        | PlacementBy number x y turns flip ↦ total_more f ps number n
        | TextBy number textlayer texttype x y ↦ omega arith
      ]

  written_total : (f : ℕ → ℕ) (ps : List (ℕ × ℕ)) → total f (written_more (used_by d) n ps) ≡ total f ps + n * written_by f d
  written_total f ps =
      elim d as (λ x. total f (written_more (used_by x) n ps) ≡ total f ps + n * written_by f x) [
        | Named e ↦ omega arith
        | PlacementBy number x y turns flip ↦ omega arith
        | TextBy number textlayer texttype x y ↦ total_more f ps number n
      ]

  sum_more : (g : Drawn → ℕ) (before : List Drawn) → sum_by g (before ++ replicate n d) ≡ sum_by g before + n * g d
  sum_more g before = sum_by-append g before (replicate n d) ∙ ap (λ (k : ℕ). sum_by g before + k) (sum_by-replicate g n d)

  weight_more : (c : Counted) (before : List Drawn) → c.weight ≡ capped (sum_by weight_so_far before) → capped (c.weight + capped (weight_so_far d * n))
      ≡ capped (sum_by weight_so_far (before ++ replicate n d))
  weight_more c before is =
      let turned : weight_so_far d * n ≡ n * weight_so_far d = omega arith in
      ap (λ (w : ℕ). capped (w + capped (weight_so_far d * n))) is
      ∙ (capped_more (sum_by weight_so_far before) (weight_so_far d * n)
      ∙ ap capped (ap (λ (w : ℕ). sum_by weight_so_far before + w) turned ∙ sym (sum_more weight_so_far before)))

  pub counted_draws : (old new : Counted) → 0 < n → new ≡ counted_more old (tally_of d) n → Draws counted_store old (replicate n d) new
  counted_draws old new h is =
      subst (Draws counted_store old (replicate n d)) (sym is) (record {
        cell = refl;
        count = omega (arith, length-replicate n d);
        sound = λ s. (placed_used h old.placed s.0, written_used h old.written s.1);
        holds = λ before b. record {
          weight = weight_more old before b.weight;
          placed = λ f. placed_total f old.placed ∙ (ap (λ (k : ℕ). k + n * placed_by f d) (b.placed f) ∙ sym (sum_more (placed_by f) before));
          written = λ f. written_total f old.written ∙ (ap (λ (k : ℕ). k + n * written_by f d) (b.written f) ∙ sym (sum_more (written_by f) before));
        };
      })

-- a cell that has counted it, and its weight with it
pub counted_up : (old : Counted) (d : Drawn) (n : ℕ) (a : CellRef) (k v w : ℕ) (ps qs : List (ℕ × ℕ)) → 0 < n
    → ◌≡◌ {A = Counted} (record { cell = a; count = k; weight = v; placed = ps; written = qs })
    (record { cell = old.cell; count = old.count + n; weight = old.weight; placed = placed_more (used_by d) n old.placed; written = written_more (used_by d) n old.written })
    → w ≡ capped (v + capped (weight_so_far d * n)) → Draws counted_store old (replicate n d) (record { cell = a; count = k; weight = w; placed = ps; written = qs })
counted_up old d n a k v w ps qs h is weighs =
    let weight : w ≡ capped (old.weight + capped (weight_so_far d * n)) = weighs ∙ ap (λ (c : Counted). capped (c.weight + capped (weight_so_far d * n))) is in
    counted_draws d n old (record { cell = a; count = k; weight = w; placed = ps; written = qs }) h
    (λ i. record { cell = (is i).cell; count = (is i).count; weight = weight i; placed = (is i).placed; written = (is i).written })

-- a cell that has counted it by what it counts for
pub counted_as : (old new : Counted) (d : Drawn) (t : Tally) (n : ℕ) → 0 < n → new ≡ counted_more old t n → t.weight ≡ weight_so_far d → t.used ≡ used_by d → Draws counted_store old (replicate n d) new
counted_as old new d t n h is weight used = counted_draws d n old new h (is ∙ (λ i. counted_more old (record { weight = weight i; used = used i }) n))

-- the same where it is known by the variables
pub counted_copy : (old new : Counted) (o : Option Drawn) (t : Tally) (n : ℕ) → 0 < n → new ≡ counted_more old t n → IsTallied o t → Draws counted_store old (drawn_times n o) new
counted_copy old new None t n h is tallied = absurd (none_drawn tallied.drawn) where
  none_drawn : fault_of None ≡ None → ⊥
  none_drawn e = cc
counted_copy old new (Some d) t n h is tallied = counted_as old new d t n h is tallied.weight tallied.used

pub counted_same : (old new : Counted) → new ≡ old → Draws counted_store old [] new
counted_same old new is = subst (Draws counted_store old []) (sym is) (draws_none counted_store old)

pub counted_begun : (c : CellRef) (s : Counted) → s ≡ record { cell = c; count = 0; weight = 0; placed = []; written = [] } → IsBegun counted_store c s
counted_begun c s is =
    subst (IsBegun counted_store c) (sym is) (record { cell = refl; count = refl; sound = (tt, tt); holds = record { weight = refl; placed = λ f. refl; written = λ f. refl } })

-- counting may be out of memory
pub counted_or : {A E : Type 0} (r : Result A E) (old new : Counted) (d : Drawn) (t : Tally) (n : ℕ) → 0 < n → OnOk r (new ≡ counted_more old t n) → t.weight ≡ weight_so_far d → t.used ≡ used_by d
    → OnOk r (Draws counted_store old (replicate n d) new)
counted_or (Ok a) old new d t n h is weight used = counted_as old new d t n h is weight used
counted_or (Err e) old new d t n h is weight used = tt

pub counted_none : {A E : Type 0} (r : Result A E) (old new : Counted) → OnErr r (new ≡ old) → OnErr r (Draws counted_store old [] new)
counted_none (Ok a) old new is = tt
counted_none (Err e) old new is = counted_same old new is
