-- What a draft and a layout hold.
use Rattle.std.specs.Prelude.{◌≡◌, ℕ, zero, suc, ◌+◌, ◌*◌, ◌≤◌, nat_lt, Bool, List, [], ◌∷◌, ◌++◌, length, Option, None, Some, is_some, ◌==◌, if◌then◌else◌}
use Rattle.std.specs.List.{AllByRecursion}
use Rattle.std.specs.List.Sorted.{IsStrictlySortedBy, IsPermutation}
use Rattle.std.specs.Ordering.{nat_cmp}
use Rattle.std.specs.Cmp.Lexicographic.{slice_cmp, pointwise}
use Rattle.std.specs.Map.{keys_of, values_of, lookup}
use Rattle.oas_num.specs.Ratio.{Ratio}
use Rattle.oas_num.specs.Texts.{IsName}
use Rattle.oas_num.specs.declared.refusals.Why.{Why}
use Rattle.oas_num.specs.declared.refusals.Why.TheVariants.{PointCount, TooManyElements, TooHeavy, CoordinateRange, DuplicateCell}
use Rattle.oas_elements.specs.declared.limits.Limits.{Limits}
use Rattle.oas_elements.specs.declared.profile.Profile.{Profile}
use Rattle.oas_elements.specs.declared.profile.Profile.TheVariants.{One}
use Rattle.oas_elements.specs.declared.element.Element.{Element}
use Rattle.oas_elements.specs.Weight.{weight_of, lacks_points}
use Rattle.oas_elements.specs.Grid.{fits_grid}
use Rattle.oas_elements.specs.Limits.{IsLimits}
use Rattle.oas_elements.specs.Bag.{items, with_more, IsBag}
use Rattle.oas_elements.specs.Same.{normal}
use Rattle.oas_elements.specs.Sound.{IsSound, IsUnit}
use Rattle.oas_elements.specs.Meaning.{Meaning, element_count, cells_weight}

-- a name, and the elements in their kept forms with their counts
abbrev pub Cell : Type 0
Cell = List ℕ × List (Element × ℕ)

-- A draft has its cells in order of definition, and `spelled` is the weight of all that it took as it was given, where a
-- rectangle that was given as a polygon weighs as that polygon. A layout has them by ascending names, and `spelled` is the
-- weight of what it holds.
pub record Contents : Type 0 where
  pub unit : Ratio
  pub limits : Limits
  pub profile : Profile
  pub cells : List Cell
  pub spelled : ℕ

-- the names of the cells
abbrev pub names : List Cell → List (List ℕ)
names cs = keys_of cs

-- the elements of each cell, with their counts
abbrev pub bags : List Cell → List (List (Element × ℕ))
bags cs = values_of cs

-- the elements of each cell, each as often as it is there
abbrev pub expanded : List Cell → List (List ℕ × List Element)
expanded [] = []
expanded (c ∷ cs) = (c.0, items c.1) ∷ expanded cs

-- the meaning of what is held
abbrev pub meaning_of : Contents → Meaning
meaning_of d = record { unit = d.unit; cells = expanded d.cells }

-- whether there is a cell of that name
abbrev pub has_cell : List Cell → List ℕ → Bool
has_cell cs name = is_some (lookup (pointwise ◌==◌ name) cs)

-- why a cell with that name is refused
abbrev pub cell_refusal : Contents → List ℕ → Option Why
cell_refusal d name =
    if has_cell d.cells name then Some DuplicateCell
    else if nat_lt d.limits.weight (d.spelled + (1 + length name)) then Some TooHeavy
    else None

-- why this many of the element are refused
abbrev pub refusal : Contents → Element → ℕ → Option Why
refusal d e n =
    if lacks_points e then Some PointCount
    else if nat_lt d.limits.elements (element_count (expanded d.cells) + n) then Some TooManyElements
    else if nat_lt d.limits.weight (d.spelled + n * weight_of e) then Some TooHeavy
    else if fits_grid e then None
    else Some CoordinateRange

-- nothing, not even a cell
abbrev pub nothing : Ratio → Limits → Profile → Contents
nothing unit limits profile = record { unit = unit; limits = limits; profile = profile; cells = []; spelled = 0 }

-- one more cell, without elements
abbrev pub with_cell : Contents → List ℕ → Contents
with_cell d name = record d { cells = d.cells ++ (name, []) ∷ []; spelled = d.spelled + (1 + length name) }

-- n more of e in the cell
abbrev pub cells_with_more : List Cell → ℕ → Element → ℕ → List Cell
cells_with_more [] i e n = []
cells_with_more (c ∷ cs) zero e n = (c.0, with_more c.1 e n) ∷ cs
cells_with_more (c ∷ cs) (suc i) e n = c ∷ cells_with_more cs i e n

-- n more of e in the cell, where e is in its kept form and was spelled with this weight
abbrev pub holding : Contents → ℕ → Element → ℕ → ℕ → Contents
holding d cell e n weight = record d { cells = cells_with_more d.cells cell e n; spelled = d.spelled + weight }

-- n more of e in the cell
abbrev pub added : Contents → ℕ → Element → ℕ → Contents
added d cell e n = holding d cell (normal d.profile e) n (n * weight_of e)

-- each of the elements is sound
abbrev pub AllSound : List (Element × ℕ) → Type 0
AllSound es = AllByRecursion (λ p. IsSound p.0) es

-- a cell has a name, and elements in ascending order, each of which is sound and in its kept form
pub record IsCell (profile : Profile) (c : Cell) : Type 0 where
  pub name : IsName c.0
  pub bag : IsBag profile c.1
  pub sound : AllSound c.1

-- The number of elements is that of the cells, and it and the weight are within the limits. What is held weighs at most what was
-- spelled, and under profile one exactly as much.
pub record IsCounted (limits : Limits) (profile : Profile) (cells : List Cell) (count spelled : ℕ) : Type 0 where
  pub count_is : count ≡ element_count (expanded cells)
  pub few : count ≤ limits.elements
  pub light : spelled ≤ limits.weight
  pub lighter : cells_weight (expanded cells) ≤ spelled
  pub as_spelled : profile ≡ One → cells_weight (expanded cells) ≡ spelled
  pub are_cells : AllByRecursion (IsCell profile) cells

-- What every layout is, whatever its draft was given. Each cell is sound, the names strictly ascend, and elements and weight
-- are within limits that a layout may have.
pub record IsLayout (l : Contents) : Type 0 where
  pub unit : IsUnit l.unit
  pub limits : IsLimits l.limits.elements l.limits.weight l.limits.input
  pub cells : AllByRecursion (IsCell l.profile) l.cells
  pub ascending : IsStrictlySortedBy (slice_cmp nat_cmp) (names l.cells)
  pub few : element_count (expanded l.cells) ≤ l.limits.elements
  pub light : cells_weight (expanded l.cells) ≤ l.limits.weight

-- b holds what a does, with its cells by ascending names, and `spelled` is their weight
pub record IsSealed (a b : Contents) : Type 0 where
  pub unit : b.unit ≡ a.unit
  pub limits : b.limits ≡ a.limits
  pub profile : b.profile ≡ a.profile
  pub spelled : b.spelled ≡ cells_weight (expanded b.cells)
  pub cells : IsPermutation a.cells b.cells
  pub ascending : IsStrictlySortedBy (slice_cmp nat_cmp) (names b.cells)
