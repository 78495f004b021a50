-- What is compared of a layout is a layout, and means what is compared of its meaning.
use Rattle.std.proofs.Common.{◌≡◌, ℕ, zero, suc, ◌<◌, ◌≤◌, List, [], ◌∷◌, ◌++◌, length, sum_by, replicate, Bool, true, false, cond, Option, None, Some}
use Rattle.std.proofs.Common.{length-append, refl, sym, ◌∙◌, ap, subst, arith}
use Rattle.std.specs.Prelude.{IfSome}
use Rattle.std.specs.Borrow.{Bor}
use Rattle.std.specs.Ordering.{nat_cmp}
use Rattle.std.specs.Cmp.Lexicographic.{slice_cmp}
use Rattle.std.specs.declared.cmp.Ordering.TheVariants.{Less}
use Rattle.std.specs.List.{AllByRecursion, filter}
use Rattle.std.specs.List.Sorted.{IsStrictlySortedBy}
use Rattle.std.specs.Map.{keys_of}
use Rattle.std.specs.Map.Iter.{TakesFirst}
use Rattle.std.proofs.lemmas.List.Sums.{sum_by-append}
use Rattle.oas_elements.specs.declared.element.Element.{Element}
use Rattle.oas_elements.specs.Element.{element_cmp}
use Rattle.oas_elements.specs.declared.profile.Profile.{Profile}
use Rattle.oas_elements.specs.Same.{IsNormal}
use Rattle.oas_elements.specs.Weight.{weight_of}
use Rattle.oas_elements.specs.Bag.{items, IsTally, IsBag}
use Rattle.oas_elements.specs.Meaning.{element_count, cells_weight}
use Rattle.oas_elements.specs.Contents.{Cell, Contents, names, expanded, meaning_of, IsCell, IsLayout}
use Rattle.oas_elements.specs.Sound.{IsSound}
use Rattle.oas_diff_options.specs.Choice.{is_shown, is_named, chosen_cells, chosen}
use Rattle.oas_diff_text.specs.Held.{name_and_elements}
use Rattle.oas_difference.specs.Held.{AreInHand, elements_shown, cells_chosen, contents_chosen}
use Rattle.oas_difference.specs.Laws.OptionLaws.{AllByDefault}
use Rattle.oas_diff_options.specs.declared.choice.Choice.{Choice}
use Rattle.oas_diff_options.specs.declared.choice.ChosenLayer.{ChosenLayer}
use Rattle.oas_difference.proofs.Steps.{in_hand_is, none_in_hand}

-- ---- elements

filter_append : {X : Type 0} (test : X → Bool) (xs ys : List X) → filter test (xs ++ ys) ≡ filter test xs ++ filter test ys
filter_append test [] ys = refl
filter_append test (x ∷ xs) ys =
    elim (test x) as (λ b. cond b (x ∷ filter test (xs ++ ys)) (filter test (xs ++ ys)) ≡ cond b (x ∷ filter test xs) (filter test xs) ++ filter test ys) [
      | true ↦ ap (λ zs. x ∷ zs) (filter_append test xs ys)
      | false ↦ filter_append test xs ys
    ]

copies_kept : {X : Type 0} (test : X → Bool) (n : ℕ) (x : X) → test x ≡ true → filter test (replicate n x) ≡ replicate n x
copies_kept test zero x e = refl
copies_kept test (suc n) x e = ap (λ b. cond b (x ∷ filter test (replicate n x)) (filter test (replicate n x))) e ∙ ap (λ zs. x ∷ zs) (copies_kept test n x e)

copies_dropped : {X : Type 0} (test : X → Bool) (n : ℕ) (x : X) → test x ≡ false → filter test (replicate n x) ≡ []
copies_dropped test zero x e = refl
copies_dropped test (suc n) x e = ap (λ b. cond b (x ∷ filter test (replicate n x)) (filter test (replicate n x))) e ∙ copies_dropped test n x e

pub empty_tally : IsTally []
unfolding IsStrictlySortedBy
empty_tally = record { ascending = tt; positive = tt }

module _ (layers : Option (Bor (List ChosenLayer))) where
  all_shown : (P : Element × ℕ → Type 0) (es : List (Element × ℕ)) → AllByRecursion P es → AllByRecursion P (elements_shown layers es)
  all_shown P [] h = tt
  all_shown P (e ∷ es) h =
      elim (is_shown layers e.0) as (λ b. AllByRecursion P (cond b (e ∷ elements_shown layers es) (elements_shown layers es))) [
        | true ↦ (h.0, all_shown P es h.1)
        | false ↦ all_shown P es h.1
      ]

  keys_shown : (P : Element → Type 0) (es : List (Element × ℕ)) → AllByRecursion P (keys_of es) → AllByRecursion P (keys_of (elements_shown layers es))
  keys_shown P [] h = tt
  keys_shown P (e ∷ es) h =
      elim (is_shown layers e.0) as (λ b. AllByRecursion P (keys_of (cond b (e ∷ elements_shown layers es) (elements_shown layers es)))) [
        | true ↦ (h.0, keys_shown P es h.1)
        | false ↦ keys_shown P es h.1
      ]

  sorted_shown : (es : List (Element × ℕ)) → IsStrictlySortedBy element_cmp (keys_of es) → IsStrictlySortedBy element_cmp (keys_of (elements_shown layers es))
  unfolding IsStrictlySortedBy
  sorted_shown [] s = tt
  sorted_shown (e ∷ es) s =
      elim (is_shown layers e.0) as (λ b. IsStrictlySortedBy element_cmp (keys_of (cond b (e ∷ elements_shown layers es) (elements_shown layers es)))) [
        | true ↦ (keys_shown (λ y. element_cmp e.0 y ≡ Less) es s.0, sorted_shown es s.1)
        | false ↦ sorted_shown es s.1
      ]

  pub tally_shown : (es : List (Element × ℕ)) → IsTally es → IsTally (elements_shown layers es)
  tally_shown es t = record { ascending = sorted_shown es t.ascending; positive = all_shown (λ p. 0 < p.1) es t.positive }

  bag_shown : (profile : Profile) (es : List (Element × ℕ)) → IsBag profile es → IsBag profile (elements_shown layers es)
  bag_shown profile es b = record { tally = tally_shown es b.tally; normal = all_shown (λ p. IsNormal profile p.0) es b.normal }

  -- each as often as it is there
  items_shown : (es : List (Element × ℕ)) → items (elements_shown layers es) ≡ filter (is_shown layers) (items es)
  items_shown [] = refl
  items_shown (e ∷ es) =
      let test : Element → Bool = is_shown layers in
      let copies : List Element = replicate e.1 e.0 in
      elim (test e.0) as (λ b. test e.0 ≡ b → items (cond b (e ∷ elements_shown layers es) (elements_shown layers es)) ≡ filter test (copies ++ items es)) [
        | true ↦ λ is. ap (λ (xs : List Element). copies ++ xs) (items_shown es)
            ∙ sym (filter_append test copies (items es) ∙ ap (λ (xs : List Element). xs ++ filter test (items es)) (copies_kept test e.1 e.0 is))
        | false ↦ λ is. items_shown es
            ∙ sym (filter_append test copies (items es) ∙ ap (λ (xs : List Element). xs ++ filter test (items es)) (copies_dropped test e.1 e.0 is))
      ] refl

  -- no more of them, and none heavier
  fewer_shown : (es : List (Element × ℕ)) → length (items (elements_shown layers es)) ≤ length (items es)
  fewer_shown [] = omega arith
  fewer_shown (e ∷ es) =
      elim (is_shown layers e.0) as (λ b. length (items (cond b (e ∷ elements_shown layers es) (elements_shown layers es))) ≤ length (replicate e.1 e.0 ++ items es)) [
        | true ↦ omega (
          arith,
          length-append (replicate e.1 e.0) (items (elements_shown layers es)),
          length-append (replicate e.1 e.0) (items es),
          fewer_shown es,
        )
        | false ↦ omega (arith, length-append (replicate e.1 e.0) (items es), fewer_shown es)
      ]

  lighter_shown : (es : List (Element × ℕ)) → sum_by weight_of (items (elements_shown layers es)) ≤ sum_by weight_of (items es)
  lighter_shown [] = omega arith
  lighter_shown (e ∷ es) =
      elim (is_shown layers e.0) as (λ b. sum_by weight_of (items (cond b (e ∷ elements_shown layers es) (elements_shown layers es))) ≤ sum_by weight_of (replicate e.1 e.0 ++ items es)) [
        | true ↦ omega (
          arith,
          sum_by-append weight_of (replicate e.1 e.0) (items (elements_shown layers es)),
          sum_by-append weight_of (replicate e.1 e.0) (items es),
          lighter_shown es,
        )
        | false ↦ omega (arith, sum_by-append weight_of (replicate e.1 e.0) (items es), lighter_shown es)
      ]

  -- the first, which is compared or not
  pub first_is : (p : Element × ℕ) (es rest : List (Element × ℕ)) → es ≡ p ∷ rest → is_shown layers p.0 ≡ true → elements_shown layers es
      ≡ p ∷ elements_shown layers rest
  first_is p es rest e taken = ap (elements_shown layers) e ∙ ap (λ b. cond b (p ∷ elements_shown layers rest) (elements_shown layers rest)) taken

  pub first_is_not : (p : Element × ℕ) (es rest : List (Element × ℕ)) → es ≡ p ∷ rest → is_shown layers p.0 ≡ false → elements_shown layers es ≡ elements_shown layers rest
  first_is_not p es rest e passed = ap (elements_shown layers) e ∙ ap (λ b. cond b (p ∷ elements_shown layers rest) (elements_shown layers rest)) passed

  cell_shown : (profile : Profile) (c : Cell) → IsCell profile c → IsCell profile (c.0, elements_shown layers c.1)
  cell_shown profile c h = record { name = h.name; bag = bag_shown profile c.1 h.bag; sound = all_shown (λ p. IsSound p.0) c.1 h.sound }

-- ---- cells

module _ (choice : Choice) where
  -- a cell and those after it, where it is compared
  with_first : Cell → List Cell → List Cell
  with_first c cs = (c.0, elements_shown choice.layers c.1) ∷ cells_chosen choice cs

  all_chosen : (profile : Profile) (cs : List Cell) → AllByRecursion (IsCell profile) cs → AllByRecursion (IsCell profile) (cells_chosen choice cs)
  unfolding with_first
  all_chosen profile [] h = tt
  all_chosen profile (c ∷ cs) h =
      elim (is_named choice.cells c.0) as (λ b. AllByRecursion (IsCell profile) (cond b (with_first c cs) (cells_chosen choice cs))) [
        | true ↦ (cell_shown choice.layers profile c h.0, all_chosen profile cs h.1)
        | false ↦ all_chosen profile cs h.1
      ]

  names_chosen : (P : List ℕ → Type 0) (cs : List Cell) → AllByRecursion P (names cs) → AllByRecursion P (names (cells_chosen choice cs))
  unfolding with_first
  names_chosen P [] h = tt
  names_chosen P (c ∷ cs) h =
      elim (is_named choice.cells c.0) as (λ b. AllByRecursion P (names (cond b (with_first c cs) (cells_chosen choice cs)))) [
        | true ↦ (h.0, names_chosen P cs h.1)
        | false ↦ names_chosen P cs h.1
      ]

  sorted_chosen : (cs : List Cell) → IsStrictlySortedBy (slice_cmp nat_cmp) (names cs) → IsStrictlySortedBy (slice_cmp nat_cmp) (names (cells_chosen choice cs))
  unfolding IsStrictlySortedBy with_first
  sorted_chosen [] s = tt
  sorted_chosen (c ∷ cs) s =
      elim (is_named choice.cells c.0) as (λ b. IsStrictlySortedBy (slice_cmp nat_cmp) (names (cond b (with_first c cs) (cells_chosen choice cs)))) [
        | true ↦ (names_chosen (λ y. slice_cmp nat_cmp c.0 y ≡ Less) cs s.0, sorted_chosen cs s.1)
        | false ↦ sorted_chosen cs s.1
      ]

  fewer_chosen : (cs : List Cell) → element_count (expanded (cells_chosen choice cs)) ≤ element_count (expanded cs)
  unfolding with_first
  fewer_chosen [] = omega arith
  fewer_chosen (c ∷ cs) =
      elim (is_named choice.cells c.0) as (λ b. element_count (expanded (cond b (with_first c cs) (cells_chosen choice cs))) ≤ element_count (expanded (c ∷ cs))) [
        | true ↦ omega (arith, fewer_shown choice.layers c.1, fewer_chosen cs)
        | false ↦ omega (arith, fewer_chosen cs)
      ]

  lighter_chosen : (cs : List Cell) → cells_weight (expanded (cells_chosen choice cs)) ≤ cells_weight (expanded cs)
  unfolding with_first
  lighter_chosen [] = omega arith
  lighter_chosen (c ∷ cs) =
      elim (is_named choice.cells c.0) as (λ b. cells_weight (expanded (cond b (with_first c cs) (cells_chosen choice cs))) ≤ cells_weight (expanded (c ∷ cs))) [
        | true ↦ omega (arith, lighter_shown choice.layers c.1, lighter_chosen cs)
        | false ↦ omega (arith, lighter_chosen cs)
      ]

  pub layout_chosen : (a : Contents) → IsLayout a → IsLayout (contents_chosen choice a)
  layout_chosen a l = record {
    unit = l.unit;
    limits = l.limits;
    cells = all_chosen a.profile a.cells l.cells;
    ascending = sorted_chosen a.cells l.ascending;
    few = omega (arith, fewer_chosen a.cells, l.few);
    light = omega (arith, lighter_chosen a.cells, l.light);
  }

  pub sorted_cells : (a : Contents) → IsLayout a → IsStrictlySortedBy (slice_cmp nat_cmp) (names (cells_chosen choice a.cells))
  sorted_cells a l = sorted_chosen a.cells l.ascending

  expanded_chosen : (cs : List Cell) → expanded (cells_chosen choice cs) ≡ chosen_cells choice (expanded cs)
  unfolding with_first
  expanded_chosen [] = refl
  expanded_chosen (c ∷ cs) =
      elim (is_named choice.cells c.0) as (λ b. expanded (cond b (with_first c cs) (cells_chosen choice cs))
      ≡ cond b ((c.0, filter (is_shown choice.layers) (items c.1)) ∷ chosen_cells choice (expanded cs)) (chosen_cells choice (expanded cs))) [
        | true ↦ λ i. (c.0, items_shown choice.layers c.1 i) ∷ expanded_chosen cs i
        | false ↦ expanded_chosen cs
      ]

  pub meaning_chosen : (a : Contents) → meaning_of (contents_chosen choice a) ≡ chosen choice (meaning_of a)
  meaning_chosen a = λ i. record { unit = a.unit; cells = expanded_chosen a.cells i }

  -- ---- the first cell

  -- it is compared
  pub first_cell : (c : Cell) (cs rest : List Cell) → cs ≡ c ∷ rest → is_named choice.cells c.0 ≡ true → cells_chosen choice cs ≡ (c.0, elements_shown choice.layers c.1) ∷ cells_chosen choice rest
  first_cell c cs rest e taken =
      ap (cells_chosen choice) e ∙ ap (λ b. cond b ((c.0, elements_shown choice.layers c.1) ∷ cells_chosen choice rest) (cells_chosen choice rest)) taken

  -- or isn't
  pub not_first : (c : Cell) (cs rest : List Cell) → cs ≡ c ∷ rest → is_named choice.cells c.0 ≡ false → cells_chosen choice cs ≡ cells_chosen choice rest
  not_first c cs rest e passed =
      ap (cells_chosen choice) e ∙ ap (λ b. cond b ((c.0, elements_shown choice.layers c.1) ∷ cells_chosen choice rest) (cells_chosen choice rest)) passed

  tallies : (profile : Profile) (cs : List Cell) → AllByRecursion (IsCell profile) cs → AllByRecursion (λ c. IsTally c.1) cs
  tallies profile [] h = tt
  tallies profile (c ∷ cs) h = (h.0.bag.tally, tallies profile cs h.1)

  -- the elements of each cell that is compared are in order
  pub chosen_tallies : (a : Contents) → IsLayout a → AllByRecursion (λ c. IsTally c.1) (cells_chosen choice a.cells)
  chosen_tallies a l = tallies a.profile (cells_chosen choice a.cells) (all_chosen a.profile a.cells l.cells)

-- ---- cells of which the first is in hand

-- at the start
pub begin_in_hand : (all : List Cell) (first : Option (Bor (List ℕ) × List (Element × ℕ))) (rest : List Cell) → TakesFirst name_and_elements all first rest →
    AllByRecursion (λ c. IsTally c.1) all → AreInHand first rest
begin_in_hand all first rest h t = record {
  none = none_in_hand name_and_elements all first rest h;
  tallies = subst (λ (cs : List Cell). AllByRecursion (λ c. IsTally c.1) cs) (sym (in_hand_is name_and_elements all first rest h)) t;
}

-- once one was given away
pub next_in_hand : (first next : Option (Bor (List ℕ) × List (Element × ℕ))) (rest left : List Cell) → AreInHand first rest → TakesFirst name_and_elements rest next left → AreInHand next left
next_in_hand first next rest left a h = begin_in_hand rest next left h (rest_tallies first a) where
  rest_tallies : (o : Option (Bor (List ℕ) × List (Element × ℕ))) → AreInHand o rest → AllByRecursion (λ c. IsTally c.1) rest
  rest_tallies None b = subst (λ (cs : List Cell). AllByRecursion (λ c. IsTally c.1) cs) (sym (b.none refl)) tt
  rest_tallies (Some c) b = b.tallies.1

-- which was in order
pub given_tally : (first given : Option (Bor (List ℕ) × List (Element × ℕ))) (rest : List Cell) → AreInHand first rest → given ≡ first → IfSome given (λ c. IsTally c.1)
given_tally None given rest a is = subst (λ (o : Option (Bor (List ℕ) × List (Element × ℕ))). IfSome o (λ c. IsTally c.1)) (sym is) tt
given_tally (Some c) given rest a is = subst (λ (o : Option (Bor (List ℕ) × List (Element × ℕ))). IfSome o (λ c. IsTally c.1)) (sym is) a.tallies.0

-- ---- where nothing is named

all_kept : {X : Type 0} (xs : List X) → filter (λ x. true) xs ≡ xs
all_kept [] = refl
all_kept (x ∷ xs) = ap (λ ys. x ∷ ys) (all_kept xs)

every_cell : (cs : List (List ℕ × List Element)) → chosen_cells (record { cells = None; layers = None }) cs ≡ cs
every_cell [] = refl
every_cell (c ∷ cs) = λ i. (c.0, all_kept c.1 i) ∷ every_cell cs i

pub all_by_default : AllByDefault
all_by_default m = λ i. record { unit = m.unit; cells = every_cell m.cells i }
