-- Tables that name each number alike give the same meaning, and the same reason.
use Rattle.std.proofs.Common.{◌≡◌, ℕ, List, [], ◌∷◌, refl, ap, ◌||◌}
use Rattle.std.specs.Prelude.{is_none, nat_lt}
use Rattle.std.specs.Option.{option_map}
use Rattle.std.specs.List.{list_any}
use Rattle.std.specs.Map.{keys_of}
use Rattle.oas_num.specs.Ratio.{Ratio}
use Rattle.oas_num.specs.declared.refusals.Why.TheVariants.{UnknownReference, DuplicateCell, TooHeavy}
use Rattle.oas_record.specs.declared.references.CellRef.{CellRef}
use Rattle.oas_record.specs.declared.references.CellRef.TheVariants as cell
use Rattle.oas_elements.specs.declared.element.Element.TheVariants as element
use Rattle.oas_elements.specs.declared.limits.Limits.{Limits}
use Rattle.oas_elements.specs.Meaning.{cells_weight}
use Rattle.oas_drawing.specs.declared.drawn.Drawn.{Drawn}
use Rattle.oas_drawing.specs.declared.drawn.Drawn.TheVariants.{Named, PlacementBy, TextBy}
use Rattle.oas_drawing.specs.Reasons.{first_of}
use Rattle.oas_reader.specs.Names.{name_of}
use Rattle.oas_reader.specs.References.{cell_by}
use Rattle.oas_reader.specs.Meaning.{DrawnCell, element_by, with_element, elements_by_name, with_named, cells_by_name, meaning_by, lacks_name, has_twice, end_reason}

module _ (n n' s s' : List (ℕ × List ℕ)) (cs_agree : (k : ℕ) → name_of n k ≡ name_of n' k) (ts_agree : (k : ℕ) → name_of s k ≡ name_of s' k) where
  element_same : (d : Drawn) → element_by n s d ≡ element_by n' s' d
  element_same (Named e) = refl
  element_same (PlacementBy number x y turns flip) = ap (option_map (λ (c : List ℕ). element.Placement c x y turns flip)) (cs_agree number)
  element_same (TextBy number textlayer texttype x y) = ap (option_map (λ (t : List ℕ). element.Text t textlayer texttype x y)) (ts_agree number)

  elements_same : (ds : List Drawn) → elements_by_name n s ds ≡ elements_by_name n' s' ds
  elements_same [] = refl
  elements_same (d ∷ ds) = (λ i. with_element (element_same d i) (elements_same ds i))

  cell_same : (c : CellRef) → cell_by n c ≡ cell_by n' c
  cell_same (cell.Number number) = cs_agree number
  cell_same (cell.Name name) = refl

  cells_same : (cs : List DrawnCell) → cells_by_name n s cs ≡ cells_by_name n' s' cs
  cells_same [] = refl
  cells_same (c ∷ cs) = (λ i. with_named (cell_same c.0 i) (elements_same c.1 i) (cells_same cs i))

  lacks_same : (cs : List DrawnCell) → lacks_name n s cs ≡ lacks_name n' s' cs
  lacks_same cs = (λ i. list_any (λ (c : DrawnCell). is_none (cell_same c.0 i) || list_any (λ (d : Drawn). is_none (element_same d i)) c.1) cs)

  pub end_same : (limits : Limits) (cs : List DrawnCell) → end_reason n s limits cs ≡ end_reason n' s' limits cs
  end_same limits cs =
      (λ i. first_of ((lacks_same cs i, UnknownReference) ∷ (has_twice (keys_of (cells_same cs i)), DuplicateCell) ∷ (nat_lt limits.weight (cells_weight (cells_same cs i)), TooHeavy) ∷ []))

  pub meaning_same : (unit : Ratio) (cs : List DrawnCell) → meaning_by n s unit cs ≡ meaning_by n' s' unit cs
  meaning_same unit cs = (λ i. record { unit = unit; cells = cells_same cs i })
