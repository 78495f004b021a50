-- What the elements of a layout add up to.
use Rattle.std.specs.Prelude.{◌≡◌, ℕ, ◌+◌, ◌<◌, ◌^◌, List, length, sum_by}
use Rattle.oas_elements.specs.declared.element.Element.{Element}
use Rattle.oas_elements.specs.Weight.{weight_of}
use Rattle.oas_elements.specs.Meaning.{Meaning, cells_sum, element_count, cells_weight}
use Rattle.oas_info.specs.declared.group.Group.{Group}
use Rattle.oas_info.specs.declared.totals.Totals.{Totals}
use Rattle.oas_info.specs.Groups.{count_of, number_of, IsTally, Grows, AreCounts}

-- what a layout adds up to: its elements in each group and in all, and its weight
pub record AreTotals (m : Meaning) (t : Totals) : Type 0 where
  pub groups : AreCounts m t.groups.entries
  pub elements : t.elements ≡ element_count m.cells
  pub weight : t.weight ≡ cells_weight m.cells

-- ---- how totals grow

-- how many are in each group, how many there are, and what they weigh
pub record Amounts : Type 0 where
  pub groups : Group → ℕ
  pub elements : ℕ
  pub weight : ℕ

-- of elements
abbrev pub of_elements : List Element → Amounts
of_elements es = record { groups = λ g. count_of g es; elements = length es; weight = sum_by weight_of es }

-- of a cell, which weighs one more than its name and its elements
abbrev pub of_cell : List ℕ × List Element → Amounts
of_cell c = record { groups = λ g. count_of g c.1; elements = length c.1; weight = (1 + length c.0) + sum_by weight_of c.1 }

-- of cells
abbrev pub of_cells : List (List ℕ × List Element) → Amounts
of_cells cs = record { groups = λ g. cells_sum (λ c. count_of g c.1) cs; elements = element_count cs; weight = cells_weight cs }

-- there is room for that in what was counted so far
pub record HasRoom (a : Amounts) (t : Totals) : Type 0 where
  pub tally : IsTally t.groups.entries
  pub groups : (g : Group) → number_of t.groups.entries g + a.groups g < 2 ^ 64
  pub elements : t.elements + a.elements < 2 ^ 64
  pub weight : t.weight + a.weight < 2 ^ 64

-- that was added
pub record Added (a : Amounts) (old new : Totals) : Type 0 where
  pub tally : IsTally new.groups.entries
  pub groups : Grows a.groups old.groups.entries new.groups.entries
  pub elements : new.elements ≡ old.elements + a.elements
  pub weight : new.weight ≡ old.weight + a.weight
