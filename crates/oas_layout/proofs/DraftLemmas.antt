-- A draft that gets more elements, or a new cell.
use Rattle.std.proofs.Common.{◌≡◌, ℕ, zero, suc, ◌+◌, ◌-◌, ◌*◌, ◌<◌, ◌≤◌, true, false, List, [], ◌∷◌, ◌++◌, Option, None, Some, is_some, length, slice_get, unwrap_or, Result, Ok, Err, OnErr}
use Rattle.std.proofs.Common.{refl, sym, ◌∙◌, ap, subst, arith}
use Rattle.std.specs.Prelude.{sum_by}
use Rattle.std.specs.Map.{values_of}
use Rattle.std.specs.List.{AllByRecursion}
use Rattle.std.proofs.lemmas.Bool.Decides.{nat_tests}
use Rattle.std.proofs.lemmas.Nat.{mul-le}
use Rattle.indexmap.specs.Layout.{set_value_at}
use Rattle.oas_num.specs.Texts.{IsName}
use Rattle.oas_elements.specs.declared.element.Element.{Element}
use Rattle.oas_elements.specs.declared.profile.Profile.{Profile}
use Rattle.oas_elements.specs.declared.profile.Profile.TheVariants.{One}
use Rattle.oas_elements.specs.Element.{element_cmp}
use Rattle.oas_elements.specs.Bag.{with_more, IsBag}
use Rattle.oas_elements.specs.Grid.{fits_grid}
use Rattle.oas_elements.specs.Same.{normal}
use Rattle.oas_elements.specs.Weight.{weight_of, lacks_points}
use Rattle.oas_elements.specs.Sound.{IsSound}
use Rattle.oas_elements.specs.Meaning.{element_count}
use Rattle.oas_elements.specs.Contents.{Cell, Contents, expanded, cells_with_more, with_cell, added, has_cell, cell_refusal, refusal, AllSound, IsCell, IsCounted}
use Rattle.oas_elements.specs.Laws.BagLaws.{total}
use Rattle.oas_elements.specs.Laws.ElementLaws.{element_total}
use Rattle.oas_elements.specs.Laws.SameLaws.{normal-normal, weight_of-normal, weight_of-normal-le}
use Rattle.oas_elements.specs.Laws.ContentsLaws.{cells_sum-push, length-items, element_count-with_more, cells_weight-with_more}
use Rattle.oas_elements.proofs.Order.{IsBag-empty, IsBag-put_more, sound-put_more}
use Rattle.oas_cells.specs.TallyLaws.{sorted-put_more, positive-put_more}
use Rattle.oas_cells.proofs.KeptLemmas.{normal_sound}

-- ---- which elements aren't refused

-- what a draft takes
pub record Takes (d : Contents) (e : Element) (n : ℕ) : Type 0 where
  pub points : lacks_points e ≡ false
  pub few : element_count (expanded d.cells) + n ≤ d.limits.elements
  pub light : d.spelled + n * weight_of e ≤ d.limits.weight
  pub inside : fits_grid e ≡ true

pub takes : (d : Contents) (e : Element) (n : ℕ) → refusal d e n ≡ None → Takes d e n
takes d e n h = record {
  points = grind (arith, nat_tests);
  few = grind (arith, nat_tests);
  light = grind (arith, nat_tests);
  inside = grind (arith, nat_tests);
}

pub taken : (d : Contents) (e : Element) (n : ℕ) → false ≡ lacks_points e → element_count (expanded d.cells) + n ≤ d.limits.elements → d.spelled + n * weight_of e ≤ d.limits.weight → true ≡ fits_grid e
    → refusal d e n ≡ None
taken d e n points few light inside = grind (arith, nat_tests)

-- ---- the cell that is written

-- with more elements
set-with_more : (cs : List Cell) (i : ℕ) (bag : List (Element × ℕ)) (e : Element) (n : ℕ) → slice_get (values_of cs) i ≡ Some bag → set_value_at cs i (with_more bag e n) ≡ cells_with_more cs i e n
set-with_more [] i bag e n h = refl
set-with_more (c ∷ cs) zero bag e n h = ap (λ es. (c.0, with_more es e n) ∷ cs) (ap (λ o. unwrap_or o c.1) (sym h))
set-with_more (c ∷ cs) (suc i) bag e n h = ap (λ (xs : List Cell). c ∷ xs) (set-with_more cs i bag e n h)

-- as it is
set-same : (cs : List Cell) (i : ℕ) (bag : List (Element × ℕ)) → slice_get (values_of cs) i ≡ Some bag → set_value_at cs i bag ≡ cs
set-same [] i bag h = refl
set-same (c ∷ cs) zero bag h = ap (λ es. (c.0, es) ∷ cs) (ap (λ o. unwrap_or o c.1) (sym h))
set-same (c ∷ cs) (suc i) bag h = ap (λ (xs : List Cell). c ∷ xs) (set-same cs i bag h)

-- there are as many cells as before
pub length-with_more : (cs : List Cell) (i : ℕ) (e : Element) (n : ℕ) → length (cells_with_more cs i e n) ≡ length cs
length-with_more [] i e n = refl
length-with_more (c ∷ cs) zero e n = refl
length-with_more (c ∷ cs) (suc i) e n = ap (λ (k : ℕ). suc k) (length-with_more cs i e n)

-- a cell has no more elements than all cells together
pub total-le : (cs : List Cell) (i : ℕ) (bag : List (Element × ℕ)) → slice_get (values_of cs) i ≡ Some bag → total (λ _. 1) bag ≤ element_count (expanded cs)
total-le [] i bag h = let no : ⊥ = cc in absurd no
total-le (c ∷ cs) zero bag h = let same = ap (λ o. total (λ _. 1) (unwrap_or o c.1)) h in omega (arith, same, length-items c.1)
total-le (c ∷ cs) (suc i) bag h = omega (arith, total-le cs i bag h)

module _ (profile : Profile) where
  -- the cell is sound
  bag_of : (cs : List Cell) (i : ℕ) (bag : List (Element × ℕ)) → slice_get (values_of cs) i ≡ Some bag → AllByRecursion (IsCell profile) cs → IsBag profile bag × AllSound bag
  bag_of [] i bag h all = let no : ⊥ = cc in absurd no
  bag_of (c ∷ cs) zero bag h all = subst (λ es. IsBag profile es × AllSound es) (ap (λ o. unwrap_or o c.1) h) (all.0.bag, all.0.sound)
  bag_of (c ∷ cs) (suc i) bag h all = bag_of cs i bag h all.1

  -- and with sound elements in it the cells stay so
  cells-set : (cs : List Cell) (i : ℕ) (new : List (Element × ℕ)) → AllByRecursion (IsCell profile) cs → IsBag profile new → AllSound new → AllByRecursion (IsCell profile) (set_value_at cs i new)
  cells-set [] i new h good sound = tt
  cells-set (c ∷ cs) zero new h good sound = (record { name = h.0.name; bag = good; sound = sound }, h.1)
  cells-set (c ∷ cs) (suc i) new h good sound = (h.0, cells-set cs i new h.1 good sound)

  -- as with a cell without elements
  cells-push : (cs : List Cell) (name : List ℕ) → IsName name → AllByRecursion (IsCell profile) cs → AllByRecursion (IsCell profile) (cs ++ (name, []) ∷ [])
  cells-push [] name good h = (record { name = good; bag = IsBag-empty profile [] refl; sound = tt }, tt)
  cells-push (c ∷ cs) name good h = (h.0, cells-push cs name good h.1)

  -- more of an element is a bag
  more_is_bag : (es : List (Element × ℕ)) (e : Element) (n : ℕ) → 0 < n → IsBag profile es → IsBag profile (with_more es (normal profile e) n)
  more_is_bag es e n some b =
      IsBag-put_more profile es (with_more es (normal profile e) n) (normal profile e) n (normal-normal profile e) b
      (record { ascending = sorted-put_more element_total es (normal profile e) n b.tally.ascending; positive = positive-put_more element_cmp es (normal profile e) n some b.tally.positive }) refl

-- the kept form weighs no more
kept_lighter : (profile : Profile) (e : Element) (n : ℕ) → n * weight_of (normal profile e) ≤ n * weight_of e
kept_lighter profile e n = mul-le n (weight_of (normal profile e)) n (weight_of e) (omega arith) (weight_of-normal-le profile e)

-- and by profile one as much
kept_as_spelled : (profile : Profile) (e : Element) (n : ℕ) → profile ≡ One → n * weight_of (normal profile e) ≡ n * weight_of e
kept_as_spelled profile e n one = ap (λ (p : Profile). n * weight_of (normal p e)) one ∙ ap (λ (k : ℕ). n * k) (weight_of-normal e)

-- what holds holds of a failure
pub on_err : {X E P : Type 0} (r : Result X E) → P → OnErr r P
on_err (Ok x) p = tt
on_err (Err x) p = p

-- ---- the draft after an addition

-- a draft with these fields
abbrev pub draft_of : Contents → List Cell → ℕ → Contents
draft_of d cs spelled = record d { cells = cs; spelled = spelled }

module _ (d : Contents) (i : ℕ) (bag new : List (Element × ℕ)) (at : slice_get (values_of d.cells) i ≡ Some bag) where
  module _ (e : Element) (n : ℕ) (is : new ≡ with_more bag (normal d.profile e) n) where
    written : set_value_at d.cells i new ≡ cells_with_more d.cells i (normal d.profile e) n
    written = ap (λ (es : List (Element × ℕ)). set_value_at d.cells i es) is ∙ set-with_more d.cells i bag (normal d.profile e) n at

    -- it holds so many more
    pub added_is : (s : ℕ) → s ≡ n * weight_of e → draft_of d (set_value_at d.cells i new) (d.spelled + s) ≡ added d i e n
    added_is s weight = λ j. draft_of d (written j) (d.spelled + weight j)

    -- and is counted so
    pub added_counted : (count s : ℕ) → IsCounted d.limits d.profile d.cells count d.spelled → i < length d.cells → 0 < n → IsSound e → Takes d e n → s ≡ n * weight_of e
        → IsCounted d.limits d.profile (set_value_at d.cells i new) (count + n) (d.spelled + s)
    added_counted count s k h some sound t weight =
        let old = bag_of d.profile d.cells i bag at k.are_cells in
        let good : IsBag d.profile new = subst (IsBag d.profile) (sym is) (more_is_bag d.profile bag e n some old.0) in
        let whole : AllSound new = subst AllSound (sym is) (sound-put_more bag (normal d.profile e) n (normal_sound d.profile e sound) old.1) in
        let heavier = cells_weight-with_more (normal d.profile e) n d.cells i h in
        subst (λ (cs : List Cell). IsCounted d.limits d.profile cs (count + n) (d.spelled + s)) (sym written) (record {
          count_is = omega (arith, k.count_is, element_count-with_more (normal d.profile e) n d.cells i h);
          few = omega (arith, t.few, k.count_is);
          light = omega (arith, t.light, weight);
          lighter = omega (arith, heavier, k.lighter, weight, kept_lighter d.profile e n);
          as_spelled = λ one. omega (arith, heavier, k.as_spelled one, weight, kept_as_spelled d.profile e n one);
          are_cells = subst (λ (cs : List Cell). AllByRecursion (IsCell d.profile) cs) written (cells-set d.profile d.cells i new k.are_cells good whole);
        })

  -- where nothing was added it is as it was
  module _ (same : new ≡ bag) where
    kept : set_value_at d.cells i new ≡ d.cells
    kept = ap (λ (es : List (Element × ℕ)). set_value_at d.cells i es) same ∙ set-same d.cells i bag at

    pub unchanged_is : draft_of d (set_value_at d.cells i new) d.spelled ≡ d
    unchanged_is = λ j. draft_of d (kept j) d.spelled

    pub unchanged_counted : (count : ℕ) → IsCounted d.limits d.profile d.cells count d.spelled → IsCounted d.limits d.profile (set_value_at d.cells i new) count d.spelled
    unchanged_counted count k = subst (λ (cs : List Cell). IsCounted d.limits d.profile cs count d.spelled) (sym kept) k

-- ---- a new cell

-- where a test finds none, there is none
pub none_there : {X : Type 0} (o : Option X) → false ≡ is_some o → o ≡ None
none_there None h = refl
none_there (Some x) h = cc

-- nothing is wrong with it
pub cell_taken : (d : Contents) (name : List ℕ) → false ≡ has_cell d.cells name → d.spelled + (1 + length name) ≤ d.limits.weight → cell_refusal d name ≡ None
cell_taken d name there light = grind (arith, nat_tests)

module _ (d : Contents) (cs : List Cell) (name : List ℕ) (bag : List (Element × ℕ)) (is : cs ≡ d.cells ++ (name, bag) ∷ []) (empty : bag ≡ []) (w : ℕ) (weight : w ≡ length name) where
  -- it has no elements
  pushed : cs ≡ d.cells ++ (name, []) ∷ []
  pushed = is ∙ ap (λ (es : List (Element × ℕ)). d.cells ++ (name, es) ∷ []) empty

  pub pushed_is : draft_of d cs (d.spelled + (1 + w)) ≡ with_cell d name
  pushed_is = λ j. draft_of d (pushed j) (d.spelled + (1 + weight j))

  pub pushed_counted : (count : ℕ) → IsCounted d.limits d.profile d.cells count d.spelled → IsName name → w < d.limits.weight - d.spelled → IsCounted d.limits d.profile cs count (d.spelled + (1 + w))
  pushed_counted count k good light =
      let heavier = cells_sum-push (λ c. (1 + length c.0) + sum_by weight_of c.1) d.cells name in
      subst (λ (ds : List Cell). IsCounted d.limits d.profile ds count (d.spelled + (1 + w))) (sym pushed) (record {
        count_is = omega (arith, k.count_is, cells_sum-push (λ c. length c.1) d.cells name);
        few = k.few;
        light = omega (arith, k.light);
        lighter = omega (arith, k.lighter, heavier, weight);
        as_spelled = λ one. omega (arith, k.as_spelled one, heavier, weight);
        are_cells = cells-push d.profile d.cells name good k.are_cells;
      })
