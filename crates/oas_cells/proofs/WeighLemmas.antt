-- The weight of what is held as keys is that of what was drawn.
use Rattle.std.proofs.Common.{◌≡◌, ℕ, zero, suc, ◌+◌, ◌*◌, ◌<◌, List, [], ◌∷◌, true, false, cond, Option, None, Some, length, unwrap_or, refl, sym, ◌∙◌, ap, arith}
use Rattle.std.specs.Prelude.{sum_by, nat_lt, is_none, ◌^◌, ◌-◌, ◌++◌, min}
use Rattle.std.specs.Option.{option_map}
use Rattle.std.specs.List.{AllByRecursion}
use Rattle.std.proofs.lemmas.Bool.Decides.{nat_tests}
use Rattle.oas_elements.specs.declared.element.Element.TheVariants.{Placement, Text}
use Rattle.oas_elements.specs.declared.profile.Profile.{Profile}
use Rattle.oas_elements.specs.Weight.{weight_of}
use Rattle.oas_elements.specs.Laws.BagLaws.{total}
use Rattle.oas_runs.specs.Blocks as parts
use Rattle.oas_reader.specs.Drawn.{Drawn}
use Rattle.oas_reader.specs.Drawn.TheVariants.{Named, PlacementBy, TextBy}
use Rattle.oas_reader.specs.DrawingDrawn.{weight_so_far}
use Rattle.oas_reader.specs.Names.{name_of}
use Rattle.oas_reader.specs.References.{cell_by}
use Rattle.oas_reader.specs.Meaning.{element_by, elements_by_name, is_unnamed}
use Rattle.oas_reader.specs.Weights.{capped, joined, head_weight, drawn_weight, known_weight}
use Rattle.oas_reader.proofs.Alike.{any-sum, weighed, sum-meant}
use Rattle.oas_reader.proofs.WeightLemmas.{known, some_lack, joined_known, joined_none, Adding}
use Rattle.oas_reader.proofs.WeighLemmas.{sum_two}
use Rattle.oas_cells.specs.Compact.{Compact, by_number, Keeps, Waits, IsCompact}
use Rattle.oas_cells.specs.Weighing.{behind, name_bytes_times, waiting_weight, full_weight, cell_weight}

-- names of numbers, this many times
one_known : (o : Option ℕ) (n : ℕ) → 0 < n → name_bytes_times o n ≡ known (n * cond (is_none o) 1 0) (n * unwrap_or o 0)
one_known None n h = let more : nat_lt 0 (n * 1) ≡ true = grind (arith, nat_tests) in ap (λ t. cond t None (Some (capped (n * 0)))) (sym more)
one_known (Some len) n h = let none : nat_lt 0 (n * 0) ≡ false = grind (arith, nat_tests) in ap (λ t. cond t None (Some (capped (n * len)))) (sym none)

module _ (names strings : List (ℕ × List ℕ)) where
  -- what counts for lacking a name, and the bytes of one
  abbrev lacks : Drawn → ℕ
  lacks d = cond (is_none (behind names strings d)) 1 0

  abbrev bytes : Drawn → ℕ
  bytes d = unwrap_or (behind names strings d) 0

  waiting_known : (ps : List (Drawn × ℕ)) → AllByRecursion Waits ps → waiting_weight names strings ps ≡ known (total lacks ps) (total bytes ps)
  waiting_known [] h = refl
  waiting_known (p ∷ ps) h =
      (λ i. joined (one_known (behind names strings p.0) p.1 h.0.some i) (waiting_known ps h.1 i))
      ∙ joined_known (p.1 * lacks p.0) (total lacks ps) (p.1 * bytes p.0) (total bytes ps)

  abbrev lacking : List Drawn → ℕ
  lacking ds = sum_by (λ d. cond (is_unnamed names strings d) 1 0) ds

  -- what lacks a name does so by a number
  lacking_by : (d : Drawn) → cond (is_unnamed names strings d) 1 0 ≡ by_number lacks d
  lacking_by (Named e) = refl
  lacking_by (PlacementBy number x y turns flip) =
      elim (name_of names number) as (λ o. ◌≡◌ {A = ℕ} (cond (is_none (option_map (λ (c : List ℕ). Placement c x y turns flip) o)) 1 0) (cond (is_none (option_map length o)) 1 0))
      [ None ↦ refl | Some c ↦ refl ]
  lacking_by (TextBy number textlayer texttype x y) =
      elim (name_of strings number) as (λ o. ◌≡◌ {A = ℕ} (cond (is_none (option_map (λ (c : List ℕ). Text c textlayer texttype x y) o)) 1 0) (cond (is_none (option_map length o)) 1 0))
      [ None ↦ refl | Some c ↦ refl ]

  -- the weight of the meaning
  weighed_by : (d : Drawn) → weighed weight_of (element_by names strings d) + cond (is_unnamed names strings d) 1 0 ≡ weight_so_far d + by_number bytes d
  weighed_by (Named e) = omega arith
  weighed_by (PlacementBy number x y turns flip) =
      elim (name_of names number) as (λ o. weighed weight_of (option_map (λ (c : List ℕ). Placement c x y turns flip) o)
      + cond (is_none (option_map (λ (c : List ℕ). Placement c x y turns flip) o)) 1 0 ≡ 1 + unwrap_or (option_map length o) 0) [
        | None ↦ refl
        | Some c ↦ omega arith
      ]
  weighed_by (TextBy number textlayer texttype x y) =
      elim (name_of strings number) as (λ o. weighed weight_of (option_map (λ (c : List ℕ). Text c textlayer texttype x y) o)
      + cond (is_none (option_map (λ (c : List ℕ). Text c textlayer texttype x y) o)) 1 0 ≡ 1 + unwrap_or (option_map length o) 0) [
        | None ↦ refl
        | Some c ↦ omega arith
      ]

  lacking_sum : (ds : List Drawn) → lacking ds ≡ sum_by (by_number lacks) ds
  lacking_sum ds = λ i. sum_by (λ d. lacking_by d i) ds

  weighed_sum : (ds : List Drawn) → sum_by weight_of (elements_by_name names strings ds) + lacking ds ≡ sum_by weight_so_far ds + sum_by (by_number bytes) ds
  weighed_sum ds =
      let meant = sum-meant names strings weight_of ds in
      let left = sum_two (λ d. weighed weight_of (element_by names strings d)) (λ d. cond (is_unnamed names strings d) 1 0) ds in
      let same : sum_by (λ d. weighed weight_of (element_by names strings d) + cond (is_unnamed names strings d) 1 0) ds
      ≡ sum_by (λ d. weight_so_far d + by_number bytes d) ds = λ i. sum_by (λ d. weighed_by d i) ds in
      let right = sum_two weight_so_far (by_number bytes) ds in
      omega (arith, meant, left, same, right)

  -- the weight of a cell's elements
  body_known : (profile : Profile) (c : Compact) (ds : List Drawn) → AllByRecursion Waits c.waiting → Keeps profile c ds
      → joined (Some c.weight) (waiting_weight names strings c.waiting)
      ≡ drawn_weight names strings ds
  body_known profile c ds w h =
      let first : Some c.weight ≡ known 0 (sum_by weight_so_far ds) = ap Some h.weight in
      let waiting : waiting_weight names strings c.waiting ≡ known (sum_by (by_number lacks) ds) (sum_by (by_number bytes) ds) =
      waiting_known c.waiting w ∙ (λ i. known (h.waiting lacks i) (h.waiting bytes i)) in
      let lack : 0 + sum_by (by_number lacks) ds ≡ lacking ds = omega (arith, lacking_sum ds) in
      (λ i. joined (first i) (waiting i))
      ∙ (joined_known 0 (sum_by (by_number lacks) ds) (sum_by weight_so_far ds) (sum_by (by_number bytes) ds)
      ∙ ((λ i. known (lack i) (sym (weighed_sum ds) i))
      ∙ (by (lacking ds) (sum_by weight_of (elements_by_name names strings ds))
      ∙ ap (λ b. cond b None (Some (capped (sum_by weight_of (elements_by_name names strings ds))))) (sym (any-sum (is_unnamed names strings) ds))))) where
        by : (l w : ℕ) → known l (w + l) ≡ cond (nat_lt 0 l) None (Some (capped w))
        by zero w = ap (λ (k : ℕ). Some (capped k)) (omega arith)
        by (suc l) w = (λ i. cond (some_lack l i) None (Some (capped (w + suc l)))) ∙ (λ i. cond (sym (some_lack l) i) None (Some (capped w)))

  -- the weight of a cell
  pub cell_known : (profile : Profile) (c : Compact) (ds : List Drawn) → IsCompact profile c → Keeps profile c ds → cell_weight names strings c ≡ known_weight names strings c.cell ds
  cell_known profile c ds s h = ap (joined (head_weight (cell_by names c.cell))) (body_known profile c ds s.waiting h)

-- ---- sums that are made one after another

-- nothing is added yet
pub waiting_begins : (names strings : List (ℕ × List ℕ)) (ps qs : List (Drawn × ℕ)) → ps ≡ qs → Adding 0 (waiting_weight names strings ps) (waiting_weight names strings qs)
waiting_begins names strings ps qs e = record { exact = refl; joins = by ps ∙ ap (waiting_weight names strings) e } where
  by : (rs : List (Drawn × ℕ)) → joined (Some 0) (waiting_weight names strings rs) ≡ waiting_weight names strings rs
  by [] = refl
  by (p ∷ rs) = joined_none (name_bytes_times (behind names strings p.0) p.1) (waiting_weight names strings rs)

pub full_begins : (names strings : List (ℕ × List ℕ)) (cs ds : List (List (Drawn × ℕ))) → cs ≡ ds → Adding 0 (full_weight names strings cs) (full_weight names strings ds)
full_begins names strings cs ds e = record { exact = refl; joins = by cs ∙ ap (full_weight names strings) e } where
  by : (bs : List (List (Drawn × ℕ))) → joined (Some 0) (full_weight names strings bs) ≡ full_weight names strings bs
  by [] = refl
  by (b ∷ bs) = joined_none (waiting_weight names strings b) (full_weight names strings bs)

-- ---- one list and then another

min_turned : (m a b c : ℕ) → min (a + min (b + c) m) m ≡ min (min (a + b) m + c) m
min_turned m a b c = grind arith

joined_turned : (a b c : Option ℕ) → joined a (joined b c) ≡ joined (joined a b) c
joined_turned None b c = refl
joined_turned (Some a) None c = refl
joined_turned (Some a) (Some b) None = refl
joined_turned (Some a) (Some b) (Some c) = ap Some (min_turned (2 ^ 64 - 1) a b c)

module _ (names strings : List (ℕ × List ℕ)) where
  pub two_weights : (ps qs : List (Drawn × ℕ)) → joined (waiting_weight names strings ps) (waiting_weight names strings qs) ≡ waiting_weight names strings (ps ++ qs)
  two_weights [] qs = (waiting_begins names strings qs qs refl).joins
  two_weights (p ∷ ps) qs =
      sym (joined_turned (name_bytes_times (behind names strings p.0) p.1) (waiting_weight names strings ps) (waiting_weight names strings qs))
      ∙ ap (joined (name_bytes_times (behind names strings p.0) p.1)) (two_weights ps qs)

  full_weights : (cs : List (List (Drawn × ℕ))) → full_weight names strings cs ≡ waiting_weight names strings (parts.joined cs)
  full_weights [] = refl
  full_weights (c ∷ cs) = ap (joined (waiting_weight names strings c)) (full_weights cs) ∙ two_weights c (parts.joined cs)

  -- full chunks and the last one
  pub row_weights : (cs : List (List (Drawn × ℕ))) (ps : List (Drawn × ℕ)) →
      joined (full_weight names strings cs) (waiting_weight names strings ps) ≡ waiting_weight names strings (parts.joined cs ++ ps)
  row_weights cs ps = ap (λ o. joined o (waiting_weight names strings ps)) (full_weights cs) ∙ two_weights (parts.joined cs) ps
