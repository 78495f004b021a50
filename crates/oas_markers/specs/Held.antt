-- The markers of what two layouts hold: cells and elements with their counts.
use Rattle.std.specs.Prelude.{ℕ, List, [], ◌++◌, map, flat_map, Option, is_some, unwrap_or}
use Rattle.std.specs.Borrow.{Bor}
use Rattle.oas_num.specs.Ratio.{Ratio}
use Rattle.oas_elements.specs.declared.element.Element.{Element}
use Rattle.oas_elements.specs.Contents.{Cell}
use Rattle.oas_difference.specs.ChosenLayer.{ChosenLayer}
use Rattle.oas_difference.specs.Held.{cell_pairs, held_changed}
use Rattle.oas_markers.specs.Markers.{cell_entry, change_item, alone}

-- a cell's name, and its elements where it is there
abbrev pub Pair : Type 0
Pair = List ℕ × (Option (List (Element × ℕ)) × Option (List (Element × ℕ)))

abbrev pub held_entry : Pair → List ℕ
held_entry p = cell_entry p.0

abbrev pub held_entries : Option (Bor (List ChosenLayer)) → List Cell → List Cell → List ℕ
held_entries layers cs ds = flat_map held_entry (cell_pairs layers cs ds)

abbrev pub change_items : Ratio → Ratio → List ℕ → List (Element × ℕ) → List (Element × ℕ) → List (List ℕ)
change_items u v name es fs = map (change_item u v name) (held_changed es fs)

abbrev pub held_item : Ratio → Ratio → Pair → List (List ℕ)
held_item u v p = alone (is_some p.1.0) (is_some p.1.1) p.0 ++ change_items u v p.0 (unwrap_or p.1.0 []) (unwrap_or p.1.1 [])

abbrev pub held_items : Option (Bor (List ChosenLayer)) → Ratio → Ratio → List Cell → List Cell → List (List ℕ)
held_items layers u v cs ds = flat_map (held_item u v) (cell_pairs layers cs ds)
