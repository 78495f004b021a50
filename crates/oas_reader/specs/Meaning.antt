-- What cells mean by the names of the whole file, and what END refuses. `names` and `strings` are the numbers of cell names
-- and of text strings.
use Rattle.std.specs.Prelude.{ℕ, nat_lt, Bool, false, ◌||◌, List, [], ◌∷◌, ◌++◌, Option, None, Some, is_none}
use Rattle.std.specs.Option.{option_map}
use Rattle.std.specs.List.{list_any}
use Rattle.std.specs.Map.{keys_of}
use Rattle.oas_num.specs.Ratio.{Ratio}
use Rattle.oas_num.specs.declared.refusals.Why.{Why}
use Rattle.oas_num.specs.declared.refusals.Why.TheVariants.{UnknownReference, DuplicateCell, TooHeavy}
use Rattle.oas_record.specs.declared.references.CellRef.{CellRef}
use Rattle.oas_record.specs.declared.records.Record.{Record}
use Rattle.oas_record.specs.declared.records.Record.TheVariants as record_of
use Rattle.oas_elements.specs.declared.element.Element.{Element}
use Rattle.oas_elements.specs.declared.element.Element.TheVariants.{Placement, Text}
use Rattle.oas_elements.specs.declared.limits.Limits.{Limits}
use Rattle.oas_elements.specs.Meaning.{Meaning, cells_weight}
use Rattle.oas_drawing.specs.declared.drawn.Drawn.{Drawn}
use Rattle.oas_drawing.specs.declared.drawn.Drawn.TheVariants.{Named, PlacementBy, TextBy}
use Rattle.oas_drawing.specs.Reasons.{first_of}
use Rattle.oas_reader.specs.Names.{name_of, same_string}
use Rattle.oas_reader.specs.References.{cell_by}

-- a CELL's reference, and what its records draw, each thing as often as they draw it
abbrev pub DrawnCell : Type 0
DrawnCell = CellRef × List Drawn

-- the element; None where its number has no name
abbrev pub element_by : List (ℕ × List ℕ) → List (ℕ × List ℕ) → Drawn → Option Element
element_by names strings (Named e) = Some e
element_by names strings (PlacementBy number x y turns flip) = option_map (λ cell. Placement cell x y turns flip) (name_of names number)
element_by names strings (TextBy number textlayer texttype x y) = option_map (λ string. Text string textlayer texttype x y) (name_of strings number)

-- one more element, where there is one
abbrev pub with_element : Option Element → List Element → List Element
with_element None es = es
with_element (Some e) es = e ∷ es

-- the elements, where no number lacks a name
abbrev pub elements_by_name : List (ℕ × List ℕ) → List (ℕ × List ℕ) → List Drawn → List Element
elements_by_name names strings [] = []
elements_by_name names strings (d ∷ ds) = with_element (element_by names strings d) (elements_by_name names strings ds)

-- one more cell, where it has a name
abbrev pub with_named : Option (List ℕ) → List Element → List (List ℕ × List Element) → List (List ℕ × List Element)
with_named None es cs = cs
with_named (Some name) es cs = (name, es) ∷ cs

-- the cells, where no number lacks a name
abbrev pub cells_by_name : List (ℕ × List ℕ) → List (ℕ × List ℕ) → List DrawnCell → List (List ℕ × List Element)
cells_by_name names strings [] = []
cells_by_name names strings (c ∷ cs) = with_named (cell_by names c.0) (elements_by_name names strings c.1) (cells_by_name names strings cs)

-- the unit, and for each name the elements
abbrev pub meaning_by : List (ℕ × List ℕ) → List (ℕ × List ℕ) → Ratio → List DrawnCell → Meaning
meaning_by names strings unit cs = record { unit = unit; cells = cells_by_name names strings cs }

-- a number that has no name
abbrev pub is_unnamed : List (ℕ × List ℕ) → List (ℕ × List ℕ) → Drawn → Bool
is_unnamed names strings d = is_none (element_by names strings d)

-- a cell that draws such a number, or is one
abbrev pub cell_lacks : List (ℕ × List ℕ) → List (ℕ × List ℕ) → DrawnCell → Bool
cell_lacks names strings c = is_none (cell_by names c.0) || list_any (is_unnamed names strings) c.1

abbrev pub lacks_name : List (ℕ × List ℕ) → List (ℕ × List ℕ) → List DrawnCell → Bool
lacks_name names strings cs = list_any (cell_lacks names strings) cs

-- one more name, where there is one
abbrev pub with_name : Option (List ℕ) → List (List ℕ) → List (List ℕ)
with_name None ns = ns
with_name (Some name) ns = name ∷ ns

-- the names of cells, of those that have one
abbrev pub names_meant : List (ℕ × List ℕ) → List CellRef → List (List ℕ)
names_meant names [] = []
names_meant names (c ∷ cs) = with_name (cell_by names c) (names_meant names cs)

-- a name occurs twice
abbrev pub has_twice : List (List ℕ) → Bool
has_twice [] = false
has_twice (name ∷ names) = list_any (same_string name) names || has_twice names

-- why END refuses these cells: a number lacks a name, two cells have one name, or they weigh too much with all names
abbrev pub end_reason : List (ℕ × List ℕ) → List (ℕ × List ℕ) → Limits → List DrawnCell → Option Why
end_reason names strings limits cs =
    first_of (
    (lacks_name names strings cs, UnknownReference)
    ∷ (has_twice (keys_of (cells_by_name names strings cs)), DuplicateCell)
    ∷ (nat_lt limits.weight (cells_weight (cells_by_name names strings cs)), TooHeavy)
    ∷ []
    )

-- more that is drawn, in the last cell
abbrev pub in_last : List Drawn → List DrawnCell → List DrawnCell
in_last ds [] = []
in_last ds (c ∷ []) = (c.0, c.1 ++ ds) ∷ []
in_last ds (c ∷ b ∷ cs) = c ∷ in_last ds (b ∷ cs)

-- The cells of these records, which are listed newest first, in the order of the file. `elements_at` is what a record draws
-- after those before it.
abbrev pub cells_drawn : (Record → List Record → List Drawn) → List Record → List DrawnCell
cells_drawn elements_at [] = []
cells_drawn elements_at (record_of.Cell c ∷ before) = cells_drawn elements_at before ++ (c, []) ∷ []
cells_drawn elements_at (r ∷ before) = in_last (elements_at r before) (cells_drawn elements_at before)
