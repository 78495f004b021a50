-- The markers of two layouts are those of what they hold.
use Rattle.std.proofs.Common.{◌≡◌, ℕ, List, [], ◌++◌, length, map, flat_map, Option, is_some, unwrap_or, sym, ◌∙◌, ap, subst}
use Rattle.std.specs.Prelude.{codes, option_map, IfSome}
use Rattle.std.specs.Ordering.{nat_cmp}
use Rattle.std.specs.Cmp.Lexicographic.{slice_cmp}
use Rattle.std.specs.List.{AllByRecursion}
use Rattle.std.specs.Map.{keys_of}
use Rattle.std.specs.BTreeMap.{is_at}
use Rattle.oas_num.specs.Ratio.{Ratio}
use Rattle.oas_elements.specs.declared.profile.Profile.{Profile}
use Rattle.oas_elements.specs.declared.element.Element.{Element}
use Rattle.oas_elements.specs.Bag.{items, IsBag}
use Rattle.oas_elements.specs.Meaning.{elements_of}
use Rattle.oas_elements.specs.Contents.{Cell, Contents, expanded, meaning_of, IsCell, IsLayout}
use Rattle.oas_difference.specs.Ascending.{ascending}
use Rattle.oas_difference.specs.Pairs.{found}
use Rattle.oas_difference.specs.Changed.{changed}
use Rattle.oas_difference.specs.Choice.{chosen, or_empty}
use Rattle.oas_difference.specs.Held.{cells_chosen, contents_chosen}
use Rattle.oas_difference.specs.DiffChoice.{Choice}
use Rattle.oas_difference.specs.ChosenLayer.{ChosenLayer}
use Rattle.std.specs.Borrow.{Bor}
use Rattle.oas_difference.proofs.Chosen.{layout_chosen, meaning_chosen}
use Rattle.oas_difference.proofs.Held.{changed_held, there, the_items, bag_of, or_bag, bag_at, or_items, elements_found, keys_held, pairs_are}
use Rattle.oas_markers.specs.Markers.{head, cell_entry, change_item, alone, cell_items, first_items, markers}
use Rattle.oas_difference.specs.Microns.{counted_to}
use Rattle.oas_markers.specs.Held.{held_entry, held_entries, held_item, held_items}

module _ (u v : Ratio) (profile : Profile) where
  cell_held : (name : List ℕ) (o p : Option (List (Element × ℕ))) → IfSome o (IsBag profile) → IfSome p (IsBag profile) →
      cell_items u v profile name (option_map items o) (option_map items p) ≡ held_item u v (name, (o, p))
  cell_held name o p b c =
      (λ i. alone (there profile o i) (there profile p i) name ++ map (change_item u v name) (changed profile (the_items profile o i) (the_items profile p i)))
      ∙ ap (λ cs. alone (is_some o) (is_some p) name ++ map (change_item u v name) cs) (changed_held profile (unwrap_or o []) (unwrap_or p []) (bag_of profile o b) (bag_of profile p c))

  module _ (layers : Option (Bor (List ChosenLayer))) (cs ds : List Cell) (p : AllByRecursion (IsCell profile) cs) (q : AllByRecursion (IsCell profile) ds) where
    name_held : (name : List ℕ) → cell_items u v profile name (or_empty layers (elements_of name (expanded cs))) (or_empty layers (elements_of name (expanded ds)))
        ≡ held_item u v (name, (or_empty layers (found (slice_cmp nat_cmp) cs name), or_empty layers (found (slice_cmp nat_cmp) ds name)))
    name_held name =
        let o = found (slice_cmp nat_cmp) cs name in
        let r = found (slice_cmp nat_cmp) ds name in
        (λ i. cell_items u v profile name (or_empty layers (elements_found name cs i)) (or_empty layers (elements_found name ds i)))
        ∙ (λ i. cell_items u v profile name (or_items layers o i) (or_items layers r i))
        ∙ cell_held name (or_empty layers o) (or_empty layers r) (or_bag profile layers o (bag_at profile (is_at (slice_cmp nat_cmp name)) cs p))
        (or_bag profile layers r (bag_at profile (is_at (slice_cmp nat_cmp name)) ds q))

    items_held : flat_map (λ name. cell_items u v profile name (or_empty layers (elements_of name (expanded cs))) (or_empty layers (elements_of name (expanded ds))))
        (ascending (slice_cmp nat_cmp) (keys_of (expanded cs) ++ keys_of (expanded ds))) ≡ held_items layers u v cs ds
    items_held =
        (λ i. flat_map (λ name. name_held name i) (ascending (slice_cmp nat_cmp) (keys_held cs i ++ keys_held ds i)))
        ∙ sym (pairs_are layers (held_item u v) cs ds)

entries_held : (layers : Option (Bor (List ChosenLayer))) (cs ds : List Cell) →
    flat_map cell_entry (ascending (slice_cmp nat_cmp) (keys_of (expanded cs) ++ keys_of (expanded ds))) ≡ held_entries layers cs ds
entries_held layers cs ds =
    (λ i. flat_map cell_entry (ascending (slice_cmp nat_cmp) (keys_held cs i ++ keys_held ds i)))
    ∙ sym (pairs_are layers held_entry cs ds)

-- what is between the entries and the items, and after these
abbrev pub between : List ℕ
between = codes " </cells>\n <items>\n"

abbrev pub foot : List ℕ
foot = codes " </items>\n</report-database>\n"

markers_held : (layers : Option (Bor (List ChosenLayer))) (most : ℕ) (a b : Contents) → IsLayout a → IsLayout b → a.profile ≡ b.profile → markers most layers a.profile (meaning_of a) (meaning_of b)
    ≡ head a.unit b.unit most (counted_to (length (held_items layers a.unit b.unit a.cells b.cells)))
    ++ (held_entries layers a.cells b.cells ++ (between ++ (first_items most (held_items layers a.unit b.unit a.cells b.cells) ++ foot)))
markers_held layers most a b k l alike =
    let cells = subst (λ p. AllByRecursion (IsCell p) b.cells) (sym alike) l.cells in
    let listed = items_held a.unit b.unit a.profile layers a.cells b.cells k.cells cells in
    λ i. head a.unit b.unit most (counted_to (length (listed i))) ++ (entries_held layers a.cells b.cells i ++ (between ++ (first_items most (listed i) ++ foot)))

-- the same of what is compared of them
pub chosen_markers : (choice : Choice) (most : ℕ) (a b : Contents) → IsLayout a → IsLayout b → a.profile ≡ b.profile →
    markers most choice.layers a.profile (chosen choice (meaning_of a)) (chosen choice (meaning_of b))
    ≡ head a.unit b.unit most (counted_to (length (held_items choice.layers a.unit b.unit (cells_chosen choice a.cells) (cells_chosen choice b.cells))))
    ++ (held_entries choice.layers (cells_chosen choice a.cells) (cells_chosen choice b.cells)
    ++ (between ++ (first_items most (held_items choice.layers a.unit b.unit (cells_chosen choice a.cells) (cells_chosen choice b.cells)) ++ foot)))
chosen_markers choice most a b k l alike =
    (λ i. markers most choice.layers a.profile (sym (meaning_chosen choice a) i) (sym (meaning_chosen choice b) i))
    ∙ markers_held choice.layers most (contents_chosen choice a) (contents_chosen choice b) (layout_chosen choice a k) (layout_chosen choice b l) alike
