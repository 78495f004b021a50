-- Cells by name, in any order.
use Rattle.std.proofs.Common.{◌≡◌, ℕ, ◌+◌, List, [], ◌∷◌, refl, sym, ◌∙◌, ap}
use Rattle.std.specs.Prelude.{sum_by}
use Rattle.std.specs.List.Sorted.{IsPermutation}
use Rattle.std.specs.Ordering.{nat_cmp}
use Rattle.std.specs.declared.cmp.Ordering.{Ordering}
use Rattle.std.specs.Cmp.Lexicographic.{slice_cmp}
use Rattle.std.proofs.lemmas.List.Sorted.{sum_by-IsPermutation}
use Rattle.std.proofs.lemmas.List.Sums.{sum_by-cons}
use Rattle.oas_elements.specs.declared.element.Element.{Element}
use Rattle.oas_elements.specs.Bag.{items}
use Rattle.oas_elements.specs.Meaning.{cells_sum}
use Rattle.oas_elements.specs.Contents.{Cell, expanded}

-- the order of names, by bytes
abbrev pub name_cmp : List ℕ → List ℕ → Ordering
name_cmp = slice_cmp nat_cmp

-- a sum over the cells, as std has it
cells_sum-is : (f : List ℕ × List Element → ℕ) (cs : List Cell) → cells_sum f (expanded cs) ≡ sum_by (λ (c : Cell). f (c.0, items c.1)) cs
cells_sum-is f [] = refl
cells_sum-is f (c ∷ cs) = ap (λ (n : ℕ). f (c.0, items c.1) + n) (cells_sum-is f cs) ∙ sym (sum_by-cons (λ (c : Cell). f (c.0, items c.1)) c cs)

-- a sum over the cells doesn't depend on their order
pub cells_sum-permutation : (f : List ℕ × List Element → ℕ) (cs ds : List Cell) → IsPermutation cs ds → cells_sum f (expanded ds) ≡ cells_sum f (expanded cs)
cells_sum-permutation f cs ds p = cells_sum-is f ds ∙ sum_by-IsPermutation (λ (c : Cell). f (c.0, items c.1)) cs ds p ∙ sym (cells_sum-is f cs)
