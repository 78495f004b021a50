-- The difference of what two layouts hold: cells and elements with their counts.
use Rattle.std.specs.Prelude.{◌≡◌, ℕ, List, [], ◌∷◌, map, flat_map, cond, Option, None, Some, is_some, unwrap_or}
use Rattle.std.specs.Borrow.{Bor}
use Rattle.std.specs.List.{AllByRecursion, filter}
use Rattle.std.specs.Ordering.{nat_cmp}
use Rattle.std.specs.Cmp.Lexicographic.{slice_cmp}
use Rattle.oas_elements.specs.declared.element.Element.{Element}
use Rattle.oas_elements.specs.Element.{element_cmp}
use Rattle.oas_elements.specs.Bag.{IsTally}
use Rattle.oas_elements.specs.Contents.{Cell, Contents}
use Rattle.oas_diff_text.specs.Held.{name_and_elements}
use Rattle.oas_diff_text.specs.Microns.{counted_to}
use Rattle.oas_difference.specs.Pairs.{side_by_side}
use Rattle.oas_difference.specs.Changed.{change_at}
use Rattle.oas_difference.specs.Difference.{change_entry, below_name}
use Rattle.oas_difference.specs.Brief.{only_first, only_second, brief_of}
use Rattle.oas_diff_options.specs.Choice.{is_named, is_shown, or_empty}
use Rattle.oas_diff_options.specs.declared.choice.Choice.{Choice}
use Rattle.oas_diff_options.specs.declared.choice.ChosenLayer.{ChosenLayer}
use Rattle.oas_diff_options.specs.declared.format.Syntax.{Syntax}
use Rattle.oas_difference.specs.declared.notation.Notation.{Notation}
use Rattle.oas_diff_options.specs.declared.options.Detail.{Detail}
use Rattle.oas_diff_options.specs.declared.options.Detail.TheVariants.{Elements, Counts}

-- the first of a list, if there is one, as an iterator gives it, and the rest
abbrev pub in_hand : {A X : Type 0} → (A → X) → Option A → List X → List X
in_hand shows None rest = []
in_hand shows (Some first) rest = shows first ∷ rest

abbrev pub pair_changed : Element × (Option ℕ × Option ℕ) → List (Element × (ℕ × ℕ))
pair_changed p = change_at p.0 (unwrap_or p.1.0 0) (unwrap_or p.1.1 0)

abbrev pub held_changed : List (Element × ℕ) → List (Element × ℕ) → List (Element × (ℕ × ℕ))
held_changed es fs = flat_map pair_changed (side_by_side element_cmp es fs)

abbrev pub held_changes : Notation → List ℕ → List (Element × ℕ) → List (Element × ℕ) → List ℕ
held_changes notation name es fs = flat_map (change_entry notation name) (held_changed es fs)

abbrev pub held_cell : Notation → List ℕ × (Option (List (Element × ℕ)) × Option (List (Element × ℕ))) → List ℕ
held_cell notation p = below_name notation.syntax (is_some p.1.0) (is_some p.1.1) p.0 (held_changes notation p.0 (unwrap_or p.1.0 []) (unwrap_or p.1.1 []))

-- a pair of cells as they are compared: where layers are named, a cell that is not there has no elements
abbrev pub with_empty : Option (Bor (List ChosenLayer)) → List ℕ × (Option (List (Element × ℕ)) × Option (List (Element × ℕ))) → List ℕ × (Option (List (Element × ℕ)) × Option (List (Element × ℕ)))
with_empty layers p = (p.0, (or_empty layers p.1.0, or_empty layers p.1.1))

-- the cells of two layouts, in pairs by their names
abbrev pub cell_pairs : Option (Bor (List ChosenLayer)) → List Cell → List Cell → List (List ℕ × (Option (List (Element × ℕ)) × Option (List (Element × ℕ))))
cell_pairs layers cs ds = map (with_empty layers) (side_by_side (slice_cmp nat_cmp) cs ds)

-- ---- in brief

abbrev pub held_brief : Syntax → List ℕ × (Option (List (Element × ℕ)) × Option (List (Element × ℕ))) → List ℕ
held_brief syntax p =
    brief_of syntax (is_some p.1.0) (is_some p.1.1) p.0
    (counted_to (only_first (held_changed (unwrap_or p.1.0 []) (unwrap_or p.1.1 []))))
    (counted_to (only_second (held_changed (unwrap_or p.1.0 []) (unwrap_or p.1.1 []))))

-- ---- by detail

abbrev pub held_by : Detail → Notation → List ℕ × (Option (List (Element × ℕ)) × Option (List (Element × ℕ))) → List ℕ
held_by Elements notation p = held_cell notation p
held_by Counts notation p = held_brief notation.syntax p

abbrev pub held_lines : Option (Bor (List ChosenLayer)) → Detail → Notation → List Cell → List Cell → List ℕ
held_lines layers detail notation cs ds = flat_map (held_by detail notation) (cell_pairs layers cs ds)

-- ---- what is compared of what a layout holds

abbrev pub elements_shown : Option (Bor (List ChosenLayer)) → List (Element × ℕ) → List (Element × ℕ)
elements_shown layers es = filter (λ p. is_shown layers p.0) es

abbrev pub cells_chosen : Choice → List Cell → List Cell
cells_chosen choice [] = []
cells_chosen choice (c ∷ cs) = cond (is_named choice.cells c.0) ((c.0, elements_shown choice.layers c.1) ∷ cells_chosen choice cs) (cells_chosen choice cs)

abbrev pub contents_chosen : Choice → Contents → Contents
contents_chosen choice a = record a { cells = cells_chosen choice a.cells }

-- a cell in hand and those that are left, of which there is none where none is in hand
pub record AreInHand (first : Option (Bor (List ℕ) × List (Element × ℕ))) (rest : List Cell) : Type 0 where
  pub none : first ≡ None → rest ≡ []
  pub tallies : AllByRecursion (λ c. IsTally c.1) (in_hand name_and_elements first rest)
