-- The names of cells that are placed, and of those that are defined.
use Rattle.std.specs.Prelude.{◌≡◌, ℕ, Bool, false, ◌||◌, ◌&&◌, not, List, Option, None, Some}
use Rattle.std.specs.List.{list_any}
use Rattle.std.specs.List.Sorted.{IsStrictlySortedBy}
use Rattle.std.specs.Ordering.{nat_cmp, is_eq}
use Rattle.std.specs.Cmp.Lexicographic.{slice_cmp}
use Rattle.std.specs.declared.cmp.Ordering.{Ordering}
use Rattle.oas_elements.specs.declared.element.Element.{Element}
use Rattle.oas_elements.specs.declared.element.Element.TheVariants as element
use Rattle.oas_elements.specs.Meaning.{Meaning}

-- the order of names
abbrev pub name_cmp : List ℕ → List ℕ → Ordering
name_cmp = slice_cmp nat_cmp

-- whether the two are one name
abbrev pub is_named : List ℕ → List ℕ → Bool
is_named a b = is_eq (name_cmp a b)

-- whether the name is one of these
abbrev pub has_name : List (List ℕ) → List ℕ → Bool
has_name names name = list_any (is_named name) names

-- the name of the cell that the element places
abbrev pub placed_by : Element → Option (List ℕ)
placed_by (element.Placement cell x y turns flip) = Some cell
placed_by e = None

-- whether the element places the cell of that name
abbrev pub places : List ℕ → Element → Bool
places name (element.Placement cell x y turns flip) = is_named cell name
places name e = false

-- whether one of the elements does
abbrev pub is_placed_in : List Element → List ℕ → Bool
is_placed_in es name = list_any (places name) es

-- whether an element of the layout places the cell of that name
abbrev pub is_placed : Meaning → List ℕ → Bool
is_placed m name = list_any (λ c. is_placed_in c.1 name) m.cells

-- whether a cell of the layout has that name
abbrev pub is_defined : Meaning → List ℕ → Bool
is_defined m name = list_any (λ c. is_named c.0 name) m.cells

-- placed, but not defined
abbrev pub is_undefined : Meaning → List ℕ → Bool
is_undefined m name = is_placed m name && not (is_defined m name)

-- defined, but not placed
abbrev pub is_unplaced : Meaning → List ℕ → Bool
is_unplaced m name = is_defined m name && not (is_placed m name)

-- ascending, the names for which P is true, and no others
pub record AreNames (P : List ℕ → Bool) (names : List (List ℕ)) : Type 0 where
  pub ascending : IsStrictlySortedBy name_cmp names
  pub those : (name : List ℕ) → has_name names name ≡ P name

-- those for which P is true are there too
abbrev pub Adds : (List ℕ → Bool) → List (List ℕ) → List (List ℕ) → Type 0
Adds P old new = (name : List ℕ) → has_name new name ≡ (has_name old name || P name)

-- those for which P is true, and no others
abbrev pub HasNames : (List ℕ → Bool) → List (List ℕ) → Type 0
HasNames P names = (name : List ℕ) → has_name names name ≡ P name
