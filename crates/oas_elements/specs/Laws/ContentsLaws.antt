-- What the sums over the cells grow by, where a cell gets more elements, or there is a new one.
use Rattle.std.specs.Prelude.{◌≡◌, ℕ, zero, suc, ◌+◌, ◌*◌, ◌<◌, List, [], ◌∷◌, ◌++◌, length, replicate, sum_by, refl}
use Rattle.std.proofs.Common.{sym, ◌∙◌, ap, arith, length-append}
use Rattle.std.proofs.lemmas.List.{length-replicate}
use Rattle.oas_elements.specs.declared.element.Element.{Element}
use Rattle.oas_elements.specs.Element.{element_cmp}
use Rattle.oas_elements.specs.Laws.ElementLaws.{exact_elements}
use Rattle.oas_elements.specs.Bag.{items, with_more}
use Rattle.oas_elements.specs.Laws.BagLaws.{total, sum_by-items, total-put_more}
use Rattle.oas_elements.specs.Weight.{weight_of}
use Rattle.oas_elements.specs.Meaning.{cells_sum, element_count, cells_weight}
use Rattle.oas_elements.specs.Contents.{Cell, expanded, cells_with_more}

-- how many elements there are: the sum of the counts
pub length-items : (es : List (Element × ℕ)) → length (items es) ≡ total (λ _. 1) es
length-items [] = refl
length-items (p ∷ ps) = omega (arith, length-append (replicate p.1 p.0) (items ps), length-replicate p.1 p.0, length-items ps)

module _ (e : Element) (n : ℕ) where
  -- n more are n more elements
  pub length-items-with_more : (es : List (Element × ℕ)) → length (items (with_more es e n)) ≡ length (items es) + n
  length-items-with_more es = omega (arith, length-items es, length-items (with_more es e n), total-put_more element_cmp (λ _. 1) es e n (λ x _. refl))

  -- and weigh n times as much as one
  pub weight-with_more : (es : List (Element × ℕ)) → sum_by weight_of (items (with_more es e n)) ≡ sum_by weight_of (items es) + n * weight_of e
  weight-with_more es =
      sum_by-items weight_of (with_more es e n) ∙ total-put_more element_cmp weight_of es e n (λ x h. ap weight_of (sym (exact_elements e x h)))
      ∙ ap (λ (k : ℕ). k + n * weight_of e) (sym (sum_by-items weight_of es))

  -- what a sum over the cells grows by, if it grows by that in the cell that gets more
  cells_sum-with_more : (f : List ℕ × List Element → ℕ) (w : ℕ) → ((c : Cell) → f (c.0, items (with_more c.1 e n)) ≡ f (c.0, items c.1) + w) → (cs : List Cell) (i : ℕ) → i < length cs →
      cells_sum f (expanded (cells_with_more cs i e n)) ≡ cells_sum f (expanded cs) + w
  cells_sum-with_more f w step [] i h = absurd (omega arith)
  cells_sum-with_more f w step (c ∷ cs) zero h = omega (arith, step c)
  cells_sum-with_more f w step (c ∷ cs) (suc i) h = omega (arith, cells_sum-with_more f w step cs i (omega arith))

  -- n more elements in all
  pub element_count-with_more : (cs : List Cell) (i : ℕ) → i < length cs → element_count (expanded (cells_with_more cs i e n)) ≡ element_count (expanded cs) + n
  element_count-with_more cs i h = cells_sum-with_more (λ c. length c.1) n (λ c. length-items-with_more c.1) cs i h

  -- and their weight
  pub cells_weight-with_more : (cs : List Cell) (i : ℕ) → i < length cs → cells_weight (expanded (cells_with_more cs i e n)) ≡ cells_weight (expanded cs) + n * weight_of e
  cells_weight-with_more cs i h = cells_sum-with_more (λ c. (1 + length c.0) + sum_by weight_of c.1) (n * weight_of e) (λ c. omega (arith, weight-with_more c.1)) cs i h

-- a new cell adds what it has itself
pub cells_sum-push : (f : List ℕ × List Element → ℕ) (cs : List Cell) (name : List ℕ) → cells_sum f (expanded (cs ++ (name, []) ∷ [])) ≡ cells_sum f (expanded cs) + f (name, [])
cells_sum-push f [] name = omega arith
cells_sum-push f (x ∷ xs) name = omega (arith, cells_sum-push f xs name)

-- so does a cell with elements
pub cells_sum-append : (f : List ℕ × List Element → ℕ) (cs : List Cell) (name : List ℕ) (es : List (Element × ℕ)) →
    cells_sum f (expanded (cs ++ (name, es) ∷ [])) ≡ cells_sum f (expanded cs) + f (name, items es)
cells_sum-append f [] name es = omega arith
cells_sum-append f (x ∷ xs) name es = omega (arith, cells_sum-append f xs name es)
