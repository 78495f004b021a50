-- What a cell weighs, and all cells, by what was drawn.
use Rattle.std.proofs.Common.{◌≡◌, ℕ, zero, suc, ◌+◌, List, [], ◌∷◌, Bool, true, false, cond, ◌||◌, Option, None, Some, length, unwrap_or, refl, sym, ◌∙◌, ap, subst, arith}
use Rattle.std.specs.Prelude.{sum_by, nat_lt, is_none}
use Rattle.std.specs.Option.{option_map}
use Rattle.std.specs.List.{list_any}
use Rattle.std.proofs.lemmas.List.Sums.{sum_by-cons}
use Rattle.oas_elements.specs.declared.element.Element.{Element}
use Rattle.oas_elements.specs.declared.element.Element.TheVariants.{Placement, Text}
use Rattle.oas_elements.specs.Weight.{weight_of}
use Rattle.oas_elements.specs.Meaning.{cells_weight}
use Rattle.oas_drawing.specs.declared.drawn.Drawn.{Drawn}
use Rattle.oas_drawing.specs.declared.drawn.Drawn.TheVariants.{Named, PlacementBy, TextBy}
use Rattle.oas_drawing.specs.Drawn.{weight_so_far}
use Rattle.oas_reader.specs.Names.{name_of}
use Rattle.oas_reader.specs.References.{cell_by}
use Rattle.oas_reader.specs.Meaning.{DrawnCell, element_by, elements_by_name, with_named, cells_by_name, is_unnamed, lacks_name}
use Rattle.oas_reader.specs.Weights.{capped, AllUsed, joined, names_weight, head_weight, drawn_weight, known_weight, all_weight}
use Rattle.oas_reader.proofs.WeightLemmas.{capped_more, known, some_lack, joined_known, joined_none, unnamed, name_length, names_known, Adding, adding_more, adding_none, adding_ends}
use Rattle.oas_reader.specs.Stores.{Store, HoldCells}
use Rattle.oas_reader.specs.Counted.{Counted, placed_by, written_by, CountsThese, counted_weight}
use Rattle.oas_reader.proofs.Alike.{any-sum, weighed, sum-meant}

pub sum_two : (f g : Drawn → ℕ) (ds : List Drawn) → sum_by (λ d. f d + g d) ds ≡ sum_by f ds + sum_by g ds
sum_two f g [] = refl
sum_two f g (d ∷ ds) = omega (arith, sum_by-cons (λ x. f x + g x) d ds, sum_by-cons f d ds, sum_by-cons g d ds, sum_two f g ds)

module _ (names strings : List (ℕ × List ℕ)) where
  -- how many lack a name
  abbrev pub lacking : List Drawn → ℕ
  lacking ds = sum_by (λ d. cond (is_unnamed names strings d) 1 0) ds

  -- what lacks a name, by the numbers
  lacking_by : (d : Drawn) → cond (is_unnamed names strings d) 1 0 ≡ placed_by (unnamed names) d + written_by (unnamed strings) d
  lacking_by (Named e) = refl
  lacking_by (PlacementBy number x y turns flip) =
      elim (name_of names number) as (λ o. cond (is_none (option_map (λ (c : List ℕ). Placement c x y turns flip) o)) 1 0 ≡ cond (is_none o) 1 0 + 0)
      [ None ↦ refl | Some c ↦ refl ]
  lacking_by (TextBy number textlayer texttype x y) =
      elim (name_of strings number) as (λ o. cond (is_none (option_map (λ (c : List ℕ). Text c textlayer texttype x y) o)) 1 0 ≡ 0 + cond (is_none o) 1 0)
      [ None ↦ refl | Some c ↦ refl ]

  -- the weight of the meaning, by the numbers
  weighed_by : (d : Drawn) → weighed weight_of (element_by names strings d) + cond (is_unnamed names strings d) 1 0 ≡ weight_so_far d
      + (placed_by (name_length names) d + written_by (name_length strings) d)
  weighed_by (Named e) = omega arith
  weighed_by (PlacementBy number x y turns flip) =
      elim (name_of names number) as (λ o. weighed weight_of (option_map (λ (c : List ℕ). Placement c x y turns flip) o)
      + cond (is_none (option_map (λ (c : List ℕ). Placement c x y turns flip) o)) 1 0 ≡ 1 + (length (unwrap_or o []) + 0)) [
        | None ↦ refl
        | Some c ↦ omega arith
      ]
  weighed_by (TextBy number textlayer texttype x y) =
      elim (name_of strings number) as (λ o. weighed weight_of (option_map (λ (c : List ℕ). Text c textlayer texttype x y) o)
      + cond (is_none (option_map (λ (c : List ℕ). Text c textlayer texttype x y) o)) 1 0 ≡ 1 + (0 + length (unwrap_or o []))) [
        | None ↦ refl
        | Some c ↦ omega arith
      ]

  lacking_sum : (ds : List Drawn) → lacking ds ≡ sum_by (placed_by (unnamed names)) ds + sum_by (written_by (unnamed strings)) ds
  lacking_sum ds = (λ i. sum_by (λ d. lacking_by d i) ds) ∙ sum_two (placed_by (unnamed names)) (written_by (unnamed strings)) ds

  weighed_sum : (ds : List Drawn) → sum_by weight_of (elements_by_name names strings ds) + lacking ds ≡ sum_by weight_so_far ds
      + (sum_by (placed_by (name_length names)) ds + sum_by (written_by (name_length strings)) ds)
  weighed_sum ds =
      let meant = sum-meant names strings weight_of ds in
      let left = sum_two (λ d. weighed weight_of (element_by names strings d)) (λ d. cond (is_unnamed names strings d) 1 0) ds in
      let same : sum_by (λ d. weighed weight_of (element_by names strings d) + cond (is_unnamed names strings d) 1 0) ds
      ≡ sum_by (λ d. weight_so_far d + (placed_by (name_length names) d + written_by (name_length strings) d)) ds = λ i. sum_by (λ d. weighed_by d i) ds in
      let right = sum_two weight_so_far (λ d. placed_by (name_length names) d + written_by (name_length strings) d) ds in
      let both = sum_two (placed_by (name_length names)) (written_by (name_length strings)) ds in
      omega (arith, meant, left, same, right, both)

  -- the weight of all that is drawn, where as many lack a name
  pub drawn_known : (ds : List Drawn) → known (lacking ds) (sum_by weight_of (elements_by_name names strings ds) + lacking ds) ≡ drawn_weight names strings ds
  drawn_known ds =
      by (lacking ds) (sum_by weight_of (elements_by_name names strings ds))
      ∙ ap (λ b. cond b None (Some (capped (sum_by weight_of (elements_by_name names strings ds))))) (sym (any-sum (is_unnamed names strings) ds)) where
        by : (l w : ℕ) → known l (w + l) ≡ cond (nat_lt 0 l) None (Some (capped w))
        by zero w = ap (λ (k : ℕ). Some (capped k)) (omega arith)
        by (suc l) w = (λ i. cond (some_lack l i) None (Some (capped (w + suc l)))) ∙ (λ i. cond (sym (some_lack l) i) None (Some (capped w)))

  -- what is counted of a cell
  pub counted_known : (c : Counted) (ds : List Drawn) → AllUsed c.placed × AllUsed c.written → CountsThese c ds → counted_weight names strings c ≡ known_weight names strings c.cell ds
  counted_known c ds used h =
      let first : Some c.weight ≡ known 0 (sum_by weight_so_far ds) = ap Some h.weight in
      let placed : names_weight names c.placed ≡ known (sum_by (placed_by (unnamed names)) ds) (sum_by (placed_by (name_length names)) ds) =
      names_known names c.placed used.0 ∙ (λ i. known (h.placed (unnamed names) i) (h.placed (name_length names) i)) in
      let written : names_weight strings c.written ≡ known (sum_by (written_by (unnamed strings)) ds) (sum_by (written_by (name_length strings)) ds) =
      names_known strings c.written used.1 ∙ (λ i. known (h.written (unnamed strings) i) (h.written (name_length strings) i)) in
      let lack : 0 + (sum_by (placed_by (unnamed names)) ds + sum_by (written_by (unnamed strings)) ds) ≡ lacking ds = omega (arith, lacking_sum ds) in
      ap (joined (head_weight (cell_by names c.cell)))
      ((λ i. joined (first i) (joined (placed i) (written i)))
      ∙ ((λ i. joined (known 0 (sum_by weight_so_far ds))
      (joined_known (sum_by (placed_by (unnamed names)) ds) (sum_by (written_by (unnamed strings)) ds) (sum_by (placed_by (name_length names)) ds)
      (sum_by (written_by (name_length strings)) ds) i))
      ∙ (joined_known 0 (sum_by (placed_by (unnamed names)) ds + sum_by (written_by (unnamed strings)) ds) (sum_by weight_so_far ds)
      (sum_by (placed_by (name_length names)) ds + sum_by (written_by (name_length strings)) ds)
      ∙ ((λ i. known (lack i) (sym (weighed_sum ds) i)) ∙ drawn_known ds))))

  -- a cell and those after it
  cell_and : (o : Option (List ℕ)) (u l : Bool) (es : List Element) (cs : List (List ℕ × List Element)) →
      joined (joined (head_weight o) (cond u None (Some (capped (sum_by weight_of es))))) (cond l None (Some (capped (cells_weight cs))))
      ≡ cond ((is_none o || u) || l) None (Some (capped (cells_weight (with_named o es cs))))
  cell_and None u l es cs = refl
  cell_and (Some name) true l es cs = refl
  cell_and (Some name) false true es cs = refl
  cell_and (Some name) false false es cs =
      ap Some (ap (λ (k : ℕ). capped (k + capped (cells_weight cs))) (capped_more (1 + length name) (sum_by weight_of es))
      ∙ capped_more ((1 + length name) + sum_by weight_of es) (cells_weight cs))

  -- the weight of all cells with all names
  pub all_known : (ds : List DrawnCell) → all_weight names strings ds ≡ cond (lacks_name names strings ds) None (Some (capped (cells_weight (cells_by_name names strings ds))))
  all_known [] = refl
  all_known (d ∷ ds) =
      ap (joined (known_weight names strings d.0 d.1)) (all_known ds)
      ∙ cell_and (cell_by names d.0) (list_any (is_unnamed names strings) d.1) (lacks_name names strings ds) (elements_by_name names strings d.1) (cells_by_name names strings ds)

-- ---- cells that are weighed one after another

module _ {S : Type 0} (t : Store S) (names strings : List (ℕ × List ℕ)) where
  -- this much is weighed, and the rest may represent cells whose weight makes it that of all
  pub record Weighed (now : ℕ) (rest : List S) (whole : List DrawnCell) : Type 0 where
    pub later : List DrawnCell
    pub holds : HoldCells t rest later
    pub adds : Adding now (all_weight names strings later) (all_weight names strings whole)

  -- nothing is weighed yet
  pub weighed_none : (ss : List S) (ds : List DrawnCell) → HoldCells t ss ds → Weighed 0 ss ds
  weighed_none ss ds h = record { later = ds; holds = h; adds = record { exact = refl; joins = by ds } } where
    by : (es : List DrawnCell) → joined (Some 0) (all_weight names strings es) ≡ all_weight names strings es
    by [] = refl
    by (e ∷ es) = joined_none (known_weight names strings e.0 e.1) (all_weight names strings es)

  -- the weight of the next cell
  abbrev pub Weighs : S → Option ℕ → Type 0
  Weighs s w = (ds : List Drawn) → t.Holds s ds → w ≡ known_weight names strings (t.cell s) ds

  -- it and the cells after it
  record Next (now : ℕ) (s : S) (ss : List S) (whole : List DrawnCell) : Type 0 where
    pub drawn : List Drawn
    pub after : List DrawnCell
    pub one : t.Holds s drawn
    pub others : HoldCells t ss after
    pub sum : Adding now (joined (known_weight names strings (t.cell s) drawn) (all_weight names strings after)) (all_weight names strings whole)

  next : (now : ℕ) (s : S) (ss : List S) (whole : List DrawnCell) → Weighed now (s ∷ ss) whole → Next now s ss whole
  next now s ss whole w = by w.later w.holds w.adds where
    by : (ds : List DrawnCell) → HoldCells t (s ∷ ss) ds → Adding now (all_weight names strings ds) (all_weight names strings whole) → Next now s ss whole
    by [] h a = absurd h
    by (d ∷ ds) h a = record {
      drawn = d.1;
      after = ds;
      one = h.1;
      others = h.2;
      sum = subst (λ c. Adding now (joined (known_weight names strings c d.1) (all_weight names strings ds)) (all_weight names strings whole)) (sym h.0) a;
    }

  -- one more is weighed
  pub weighed_more : (now more sum : ℕ) (s : S) (ss : List S) (whole : List DrawnCell) → Weighed now (s ∷ ss) whole → Weighs s (Some more) → sum ≡ capped (now + more) → Weighed sum ss whole
  weighed_more now more sum s ss whole w is e =
      let n = next now s ss whole w in
      record {
        later = n.after;
        holds = n.others;
        adds = adding_more now more sum (known_weight names strings (t.cell s) n.drawn) (all_weight names strings n.after) (all_weight names strings whole) n.sum (sym (is n.drawn n.one)) e;
      }

  -- one that lacks a name
  pub weighed_lacks : (now : ℕ) (s : S) (ss : List S) (whole : List DrawnCell) → Weighed now (s ∷ ss) whole → Weighs s None → None ≡ all_weight names strings whole
  weighed_lacks now s ss whole w is =
      let n = next now s ss whole w in
      adding_none now (known_weight names strings (t.cell s) n.drawn) (all_weight names strings n.after) (all_weight names strings whole) n.sum (sym (is n.drawn n.one))

  -- all are weighed
  pub weighed_all : (now : ℕ) (whole : List DrawnCell) → Weighed now [] whole → Some now ≡ all_weight names strings whole
  weighed_all now whole w = by w.later w.holds w.adds where
    by : (ds : List DrawnCell) → HoldCells t [] ds → Adding now (all_weight names strings ds) (all_weight names strings whole) → Some now ≡ all_weight names strings whole
    by [] h a = adding_ends now (Some 0) (all_weight names strings whole) a refl
    by (d ∷ ds) h a = absurd h
