-- The markers: what one of two layouts has more often than the other, as the text of a report database.
use Rattle.std.specs.Prelude.{ℕ, zero, suc, ◌-◌, nat_lt, Bool, true, false, List, [], ◌∷◌, ◌++◌, length, map, flat_map, codes, decimal, Option, is_some, unwrap_or, if◌then◌else◌}
use Rattle.std.specs.Borrow.{Bor}
use Rattle.std.specs.Ordering.{nat_cmp}
use Rattle.std.specs.Cmp.Lexicographic.{slice_cmp}
use Rattle.std.specs.Map.{keys_of}
use Rattle.oas_num.specs.Ratio.{Ratio}
use Rattle.oas_elements.specs.declared.profile.Profile.{Profile}
use Rattle.oas_elements.specs.declared.element.Element.{Element}
use Rattle.oas_elements.specs.Meaning.{Meaning, elements_of}
use Rattle.oas_difference.specs.Ascending.{ascending}
use Rattle.oas_difference.specs.Difference.{same_ratio}
use Rattle.oas_difference.specs.Entries.{kind_name}
use Rattle.oas_difference.specs.Choice.{layer_of, or_empty}
use Rattle.oas_difference.specs.ChosenLayer.{ChosenLayer}
use Rattle.oas_difference.specs.Changed.{changed}
use Rattle.oas_markers.specs.declared.items.Way.{Way}
use Rattle.oas_markers.specs.declared.items.Way.TheVariants.{Removed, Added}
use Rattle.oas_difference.specs.Microns.{counted_to}
use Rattle.oas_markers.specs.Texts.{escaped}
use Rattle.oas_markers.specs.Shapes.{shape, layer_value}

-- ---- categories

abbrev pub way_name : Way → List ℕ
way_name Removed = codes "removed"
way_name Added = codes "added"

-- which layout has it more often
abbrev pub way_file : Way → List ℕ
way_file Removed = codes "A"
way_file Added = codes "B"

-- the category of all that one layout has more often, with one below it for each kind
abbrev pub category : Ratio → Way → List ℕ
category unit way =
    codes "  <category><name>" ++ (way_name way
    ++ (codes "</name><description>more often in "
    ++ (way_file way ++ (codes ", by " ++ (decimal unit.num
    ++ (47 ∷ (decimal unit.den ++ codes " grid steps in a micron</description><categories><category><name>cell</name></category><category><name>placement</name></category><category><name>text</name></category><category><name>rectangle</name></category><category><name>polygon</name></category><category><name>path</name></category><category><name>circle</name></category></categories></category>\n")))))))

abbrev pub about : Bool → List ℕ
about true = codes "The difference of A and B"
about false = codes "The difference of A and B, whose units differ: each marker is in microns by the unit of its own layout"

-- how many markers there are, and how many of them are here, where these aren't all
abbrev pub note : ℕ → ℕ → List ℕ
note most count =
    if nat_lt most count then codes " (the first " ++ (decimal most ++ (codes " of " ++ (decimal count ++ codes " markers)"))) else []

abbrev pub head : Ratio → Ratio → ℕ → ℕ → List ℕ
head u v most count =
    codes "<?xml version=\"1.0\" encoding=\"utf-8\"?>\n<report-database>\n <description>"
    ++ (about (same_ratio u v)
    ++ (note most count ++ (codes "</description>\n <categories>\n" ++ (category u Removed ++ (category v Added ++ codes " </categories>\n <cells>\n")))))

-- ---- items

-- the cell's name is declared before the items
abbrev pub cell_entry : List ℕ → List ℕ
cell_entry name = codes "  <cell><name>" ++ (escaped name ++ codes "</name></cell>\n")

-- the item of an element of that cell, which is there this many more times
abbrev pub item : Ratio → Way → List ℕ → ℕ → Element → List ℕ
item unit way name count e =
    codes "  <item><category>" ++ (way_name way
    ++ (46 ∷ (kind_name e ++ (codes "</category><cell>"
    ++ (escaped name ++ (codes "</cell><multiplicity>"
    ++ (decimal count ++ (codes "</multiplicity><values><value>" ++ (shape unit e ++ (codes "</value>" ++ (layer_value (layer_of e) ++ codes "</values></item>\n")))))))))))

-- the item of an element that is not as often in both, with how often it is in either
abbrev pub change_item : Ratio → Ratio → List ℕ → Element × (ℕ × ℕ) → List ℕ
change_item u v name c =
    if nat_lt c.1.1 c.1.0 then item u Removed name (c.1.0 - c.1.1) c.0
    else item v Added name (c.1.1 - c.1.0) c.0

-- the item of a cell that only one layout has
abbrev pub cell_item : Way → List ℕ → List ℕ
cell_item way name =
    codes "  <item><category>" ++ (way_name way
    ++ (codes ".cell</category><cell>" ++ (escaped name ++ codes "</cell><multiplicity>1</multiplicity><values><value>text: 'cell'</value></values></item>\n")))

-- given whether the cell is there before and after
abbrev pub alone : Bool → Bool → List ℕ → List (List ℕ)
alone true true name = []
alone true false name = cell_item Removed name ∷ []
alone false true name = cell_item Added name ∷ []
alone false false name = []

-- the items of a cell; its elements are given where it is there
abbrev pub cell_items : Ratio → Ratio → Profile → List ℕ → Option (List Element) → Option (List Element) → List (List ℕ)
cell_items u v profile name before after =
    alone (is_some before) (is_some after) name ++ map (change_item u v name) (changed profile (unwrap_or before []) (unwrap_or after []))

-- ---- the layouts

-- the names of the cells that either has
abbrev pub all_names : Meaning → Meaning → List (List ℕ)
all_names a b = ascending (slice_cmp nat_cmp) (keys_of a.cells ++ keys_of b.cells)

-- the items of each; where layers are named, only elements are compared, as in `difference`
abbrev pub all_items : Option (Bor (List ChosenLayer)) → Profile → Meaning → Meaning → List (List ℕ)
all_items layers profile a b =
    flat_map (λ name. cell_items a.unit b.unit profile name (or_empty layers (elements_of name a.cells)) (or_empty layers (elements_of name b.cells))) (all_names a b)

-- the first of them, at most this many
abbrev pub first_items : ℕ → List (List ℕ) → List ℕ
first_items zero items = []
first_items (suc n) [] = []
first_items (suc n) (item ∷ items) = item ++ first_items n items

-- How many items there are, the cells' names, and then at most this many items.
abbrev pub markers : ℕ → Option (Bor (List ChosenLayer)) → Profile → Meaning → Meaning → List ℕ
markers most layers profile a b =
    head a.unit b.unit most (counted_to (length (all_items layers profile a b)))
    ++ (flat_map cell_entry (all_names a b)
    ++ (codes " </cells>\n <items>\n"
    ++ (first_items most (all_items layers profile a b) ++ codes " </items>\n</report-database>\n")))
