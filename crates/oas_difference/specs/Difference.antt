-- The difference of two layouts: what one of them has more often than the other, in the order of the listing.
use Rattle.std.specs.Prelude.{ℕ, ◌-◌, ◌==◌, ◌&&◌, nat_lt, Bool, true, false, List, [], ◌∷◌, ◌++◌, flat_map, Option, is_some, unwrap_or, if◌then◌else◌}
use Rattle.std.specs.Borrow.{Bor}
use Rattle.std.specs.Ordering.{nat_cmp}
use Rattle.std.specs.Cmp.Lexicographic.{slice_cmp}
use Rattle.std.specs.Map.{keys_of}
use Rattle.oas_num.specs.Ratio.{Ratio}
use Rattle.oas_elements.specs.declared.profile.Profile.{Profile}
use Rattle.oas_elements.specs.declared.element.Element.{Element}
use Rattle.oas_elements.specs.Meaning.{Meaning, elements_of}
use Rattle.oas_difference.specs.Ascending.{ascending}
use Rattle.oas_difference.specs.Changed.{changed}
use Rattle.oas_diff_options.specs.Choice.{or_empty}
use Rattle.oas_diff_text.specs.Entries.{unit_entry, cell_entry, place_entry, element_entry}
use Rattle.oas_difference.specs.Format.{notation_of}
use Rattle.oas_diff_options.specs.declared.choice.ChosenLayer.{ChosenLayer}
use Rattle.oas_diff_options.specs.declared.format.Syntax.{Syntax}
use Rattle.oas_diff_options.specs.declared.format.Format.{Format}
use Rattle.oas_difference.specs.declared.notation.Notation.{Notation}

-- ---- the unit

abbrev pub same_ratio : Ratio → Ratio → Bool
same_ratio u v = (u.num == v.num) && (u.den == v.den)

-- where the units differ, the old one is gone, and the other is new
abbrev pub unit_changes : Syntax → Ratio → Ratio → List ℕ
unit_changes syntax u v = if same_ratio u v then [] else unit_entry syntax 45 u ++ unit_entry syntax 43 v

-- ---- the elements of a cell

-- an element that is there n times before and m times after: - where that is fewer, or else +
abbrev pub change_entry : Notation → List ℕ → Element × (ℕ × ℕ) → List ℕ
change_entry notation name c =
    if nat_lt c.1.1 c.1.0 then element_entry notation.syntax notation.before name 45 (c.1.0 - c.1.1) c.0
    else element_entry notation.syntax notation.after name 43 (c.1.1 - c.1.0) c.0

-- for each element that is not as often in both lists
abbrev pub element_changes : Notation → List ℕ → Profile → List Element → List Element → List ℕ
element_changes notation name profile xs ys = flat_map (change_entry notation name) (changed profile xs ys)

-- ---- the cells

-- The changes of a cell below its entry, given whether it is there before and after. Where it is there in both, and nothing
-- has changed in it, it has no entry.
abbrev pub below_name : Syntax → Bool → Bool → List ℕ → List ℕ → List ℕ
below_name syntax true true name [] = []
below_name syntax true true name (b ∷ bs) = place_entry syntax name ++ b ∷ bs
below_name syntax true false name changes = cell_entry syntax 45 name ++ changes
below_name syntax false true name changes = cell_entry syntax 43 name ++ changes
below_name syntax false false name changes = []

-- the changes of a cell; its elements are given where it is there
abbrev pub cell_changes : Notation → Profile → List ℕ → Option (List Element) → Option (List Element) → List ℕ
cell_changes notation profile name before after =
    below_name notation.syntax (is_some before) (is_some after) name (element_changes notation name profile (unwrap_or before []) (unwrap_or after []))

-- ---- the layouts

-- The changes of the unit, and then those of each cell that either has. Where layers are named, a cell that only one has is
-- compared with one that has no elements.
abbrev pub difference : Option (Bor (List ChosenLayer)) → Format → Profile → Meaning → Meaning → List ℕ
difference layers format profile a b =
    unit_changes format.syntax a.unit b.unit
    ++ flat_map (λ name. cell_changes (notation_of format a.unit b.unit) profile name (or_empty layers (elements_of name a.cells)) (or_empty layers (elements_of name b.cells)))
    (ascending (slice_cmp nat_cmp) (keys_of a.cells ++ keys_of b.cells))
