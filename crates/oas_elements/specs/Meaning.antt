-- The meaning of a layout: its unit, and for each cell name a multiset of elements.
use Rattle.std.specs.Prelude.{◌≡◌, ℕ, ◌+◌, List, [], ◌∷◌, length, sum_by, count_by, Option, is_some, unwrap_or, ◌==◌}
use Rattle.std.specs.Cmp.Lexicographic.{pointwise}
use Rattle.std.specs.Map.{lookup}
use Rattle.oas_num.specs.Ratio.{Ratio}
use Rattle.oas_elements.specs.declared.profile.Profile.{Profile}
use Rattle.oas_elements.specs.declared.element.Element.{Element}
use Rattle.oas_elements.specs.Weight.{weight_of}
use Rattle.oas_elements.specs.Same.{same_element}

-- The unit, and beside each cell's name the list of its elements, where an equal one occurs as often as it is there.
pub record Meaning : Type 0 where
  pub unit : Ratio
  pub cells : List (List ℕ × List Element)

-- the sum of f over the cells
abbrev pub cells_sum : (List ℕ × List Element → ℕ) → List (List ℕ × List Element) → ℕ
cells_sum f [] = 0
cells_sum f (c ∷ cs) = f c + cells_sum f cs

-- how many elements there are
abbrev pub element_count : List (List ℕ × List Element) → ℕ
element_count cs = cells_sum (λ c. length c.1) cs

-- one for each cell, plus the bytes of its name and the weight of its elements
abbrev pub cells_weight : List (List ℕ × List Element) → ℕ
cells_weight cs = cells_sum (λ c. (1 + length c.0) + sum_by weight_of c.1) cs

-- the elements of the cell with that name
abbrev pub elements_of : List ℕ → List (List ℕ × List Element) → Option (List Element)
elements_of name cs = lookup (pointwise ◌==◌ name) cs

-- how many of the elements are the same as e
abbrev pub count_of : Profile → Element → List Element → ℕ
count_of profile e xs = count_by (same_element profile e) xs

-- equal units, the same cell names, and in each cell the same count of each element
pub record SameLayout (profile : Profile) (a b : Meaning) : Type 0 where
  pub unit : a.unit ≡ b.unit
  pub cells : (name : List ℕ) → is_some (elements_of name a.cells) ≡ is_some (elements_of name b.cells)
  pub counts : (name : List ℕ) (e : Element) → count_of profile e (unwrap_or (elements_of name a.cells) []) ≡ count_of profile e (unwrap_or (elements_of name b.cells) [])
