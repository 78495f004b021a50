-- Putting elements, each as often as it is there, and cells.
use Rattle.std.proofs.Common.{◌≡◌, ℕ, List, [], ◌∷◌, ◌++◌, flat_map, replicate, sym, subst}
use Rattle.std.proofs.lemmas.Grind.{flat_map-append}
use Rattle.oas_num.specs.Writing.{Puts, PutsPrefix}
use Rattle.oas_num.proofs.PuttingLemmas.{PutSoFar, begins, fails_at, all_put, ◌▸◌}
use Rattle.oas_elements.specs.declared.element.Element.{Element}
use Rattle.oas_elements.specs.Bag.{items}
use Rattle.oas_elements.specs.Contents.{Cell, expanded}
use Rattle.oas_listing.specs.Listing.{element_line, cell_lines}

module _ {K : Type 0} {given : K → List ℕ → K → Type 0} {failures : K → ℕ} {whole : List ℕ} {old mid : K} where
  -- ---- copies of an element

  module _ (e : Element) (n : ℕ) (rest : List (Element × ℕ)) (p : PutSoFar given failures whole (flat_map element_line (items ((e, n) ∷ rest))) old mid) where
    copies_left : PutSoFar given failures whole (flat_map element_line (replicate n e) ++ flat_map element_line (items rest)) old mid
    copies_left = subst (λ (b : List ℕ). PutSoFar given failures whole b old mid) (flat_map-append element_line (replicate n e) (items rest)) p

    pub copies_put : {new : K} → Puts given failures mid (flat_map element_line (replicate n e)) new → PutSoFar given failures whole (flat_map element_line (items rest)) old new
    copies_put q = copies_left ▸ q

    pub copies_fail : {new : K} → PutsPrefix given failures mid (flat_map element_line (replicate n e)) new → PutsPrefix given failures old whole new
    copies_fail q = fails_at _ copies_left q

module _ {K : Type 0} {given : K → List ℕ → K → Type 0} {failures : K → ℕ} where
  -- ---- elements

  pub elements_begin : (all left : List (Element × ℕ)) (s : K) → left ≡ all → PutSoFar given failures (flat_map element_line (items all)) (flat_map element_line (items left)) s s
  elements_begin all left s is =
      subst (λ (es : List (Element × ℕ)). PutSoFar given failures (flat_map element_line (items all)) (flat_map element_line (items es)) s s) (sym is) (begins (flat_map element_line (items all)) s)

  pub elements_on : {old now : K} (all left after : List (Element × ℕ)) (e : Element × ℕ) → left ≡ e ∷ after
      → PutSoFar given failures (flat_map element_line (items all)) (flat_map element_line (items left)) old now
      → PutSoFar given failures (flat_map element_line (items all)) (flat_map element_line (items (e ∷ after))) old now
  elements_on {old = old} {now = now} all left after e is s =
      subst (λ (es : List (Element × ℕ)). PutSoFar given failures (flat_map element_line (items all)) (flat_map element_line (items es)) old now) is s

  pub elements_end : {old now : K} (all left : List (Element × ℕ)) → PutSoFar given failures (flat_map element_line (items all)) (flat_map element_line (items left)) old now → left ≡ []
      → Puts given failures old (flat_map element_line (items all)) now
  elements_end {old = old} {now = now} all left s none =
      all_put (subst (λ (es : List (Element × ℕ)). PutSoFar given failures (flat_map element_line (items all)) (flat_map element_line (items es)) old now) none s)

  -- ---- cells

  pub cells_begin : (all left : List Cell) (s : K) → left ≡ all → PutSoFar given failures (flat_map cell_lines (expanded all)) (flat_map cell_lines (expanded left)) s s
  cells_begin all left s is =
      subst (λ (cs : List Cell). PutSoFar given failures (flat_map cell_lines (expanded all)) (flat_map cell_lines (expanded cs)) s s) (sym is) (begins (flat_map cell_lines (expanded all)) s)

  module _ {old mid : K} (all before after : List Cell) (c : Cell) (is : before ≡ c ∷ after)
      (left : PutSoFar given failures (flat_map cell_lines (expanded all)) (flat_map cell_lines (expanded before)) old mid) where
    split : PutSoFar given failures (flat_map cell_lines (expanded all)) (cell_lines (c.0, items c.1) ++ flat_map cell_lines (expanded after)) old mid
    split = subst (λ (cs : List Cell). PutSoFar given failures (flat_map cell_lines (expanded all)) (flat_map cell_lines (expanded cs)) old mid) is left

    pub cell_fails : {new : K} → PutsPrefix given failures mid (cell_lines (c.0, items c.1)) new → PutsPrefix given failures old (flat_map cell_lines (expanded all)) new
    cell_fails q = fails_at _ split q

    pub cell_put : {new : K} → Puts given failures mid (cell_lines (c.0, items c.1)) new
        → PutSoFar given failures (flat_map cell_lines (expanded all)) (flat_map cell_lines (expanded after)) old new
    cell_put q = split ▸ q

  pub cells_end : {old now : K} (all left : List Cell) → PutSoFar given failures (flat_map cell_lines (expanded all)) (flat_map cell_lines (expanded left)) old now → left ≡ []
      → Puts given failures old (flat_map cell_lines (expanded all)) now
  cells_end {old = old} {now = now} all left s none =
      all_put (subst (λ (cs : List Cell). PutSoFar given failures (flat_map cell_lines (expanded all)) (flat_map cell_lines (expanded cs)) old now) none s)
