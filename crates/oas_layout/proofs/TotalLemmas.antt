-- Sums over cells and over elements, one after another.
use Rattle.std.proofs.Common.{◌≡◌, ℕ, zero, suc, ◌+◌, ◌*◌, ◌≤◌, List, [], ◌∷◌, length, replicate, ap, ◌∙◌, arith, length-append}
use Rattle.std.proofs.lemmas.List.{length-replicate}
use Rattle.std.specs.Prelude.{sum_by, min}
use Rattle.oas_elements.specs.declared.element.Element.{Element}
use Rattle.oas_elements.specs.Bag.{items}
use Rattle.oas_elements.specs.Contents.{Cell, expanded}
use Rattle.oas_elements.specs.Laws.BagLaws.{sum_by-items}
use Rattle.oas_elements.specs.Meaning.{cells_sum}

module _ (f : List ℕ × List Element → ℕ) where
  -- n is the sum over the cells that aren't left
  abbrev pub Summed : List Cell → List Cell → ℕ → Type 0
  Summed all left n = n + cells_sum f (expanded left) ≡ cells_sum f (expanded all)

  pub summed_first : (all left : List Cell) → left ≡ all → Summed all left 0
  summed_first all left e = omega (arith, ap (λ (cs : List Cell). cells_sum f (expanded cs)) e)

  -- one more
  left_sum : (left rest : List Cell) (c : Cell) → left ≡ c ∷ rest → cells_sum f (expanded left) ≡ f (c.0, items c.1) + cells_sum f (expanded rest)
  left_sum left rest c e = ap (λ (cs : List Cell). cells_sum f (expanded cs)) e

  pub summed_room : (all left rest : List Cell) (c : Cell) (n : ℕ) → left ≡ c ∷ rest → Summed all left n → n + f (c.0, items c.1) ≤ cells_sum f (expanded all)
  summed_room all left rest c n e s = omega (arith, left_sum left rest c e, s)

  pub summed_next : (all left rest : List Cell) (c : Cell) (n m : ℕ) → left ≡ c ∷ rest → Summed all left n → m ≡ n + f (c.0, items c.1) → Summed all rest m
  summed_next all left rest c n m e s is = omega (arith, left_sum left rest c e, s, is)

  pub summed_last : (all left : List Cell) (n : ℕ) → left ≡ [] → Summed all left n → n ≡ cells_sum f (expanded all)
  summed_last all left n e s = omega (arith, ap (λ (cs : List Cell). cells_sum f (expanded cs)) e, s)

-- ---- elements

count_items : (p : Element × ℕ) (ps : List (Element × ℕ)) → length (items (p ∷ ps)) ≡ p.1 + length (items ps)
count_items p ps = omega (arith, length-append (replicate p.1 p.0) (items ps), length-replicate p.1 p.0)

sum_items : (f : Element → ℕ) (p : Element × ℕ) (ps : List (Element × ℕ)) → sum_by f (items (p ∷ ps)) ≡ p.1 * f p.0 + sum_by f (items ps)
sum_items f p ps = omega (arith, sum_by-items f (p ∷ ps), sum_by-items f ps)

-- n is the number of the elements that aren't left
abbrev pub Counted : List (Element × ℕ) → List (Element × ℕ) → ℕ → Type 0
Counted all left n = n + length (items left) ≡ length (items all)

pub counted_first : (all left : List (Element × ℕ)) → left ≡ all → Counted all left 0
counted_first all left e = omega (arith, ap (λ (es : List (Element × ℕ)). length (items es)) e)

count_left : (left rest : List (Element × ℕ)) (p : Element × ℕ) → left ≡ p ∷ rest → length (items left) ≡ p.1 + length (items rest)
count_left left rest p e = ap (λ (es : List (Element × ℕ)). length (items es)) e ∙ count_items p rest

pub counted_room : (all left rest : List (Element × ℕ)) (p : Element × ℕ) (n : ℕ) → left ≡ p ∷ rest → Counted all left n → n + p.1 ≤ length (items all)
counted_room all left rest p n e s = omega (arith, count_left left rest p e, s)

pub counted_next : (all left rest : List (Element × ℕ)) (p : Element × ℕ) (n : ℕ) → left ≡ p ∷ rest → Counted all left n → Counted all rest (n + p.1)
counted_next all left rest p n e s = omega (arith, count_left left rest p e, s)

pub counted_last : (all left : List (Element × ℕ)) (n : ℕ) → left ≡ [] → Counted all left n → n ≡ length (items all)
counted_last all left n e s = omega (arith, ap (λ (es : List (Element × ℕ)). length (items es)) e, s)

-- a product that is no more than the cap
exact_times : (n w most : ℕ) → n * w ≤ most → n * min w most ≡ n * w
exact_times zero w most h = omega arith
exact_times (suc n) w most h = let few : w ≤ most = omega (arith, h) in let is : min w most ≡ w = grind arith in ap (λ (k : ℕ). suc n * k) is

-- n is the weight of the elements that aren't left
module _ (f : Element → ℕ) where
  abbrev pub Weighed : List (Element × ℕ) → List (Element × ℕ) → ℕ → Type 0
  Weighed all left n = n + sum_by f (items left) ≡ sum_by f (items all)

  pub weighed_first : (all left : List (Element × ℕ)) → left ≡ all → Weighed all left 0
  weighed_first all left e = omega (arith, ap (λ (es : List (Element × ℕ)). sum_by f (items es)) e)

  weight_left : (left rest : List (Element × ℕ)) (p : Element × ℕ) → left ≡ p ∷ rest → sum_by f (items left) ≡ p.1 * f p.0 + sum_by f (items rest)
  weight_left left rest p e = ap (λ (es : List (Element × ℕ)). sum_by f (items es)) e ∙ sum_items f p rest

  -- one more, whose weight is exact, since all together weigh less than the cap
  once : (all left rest : List (Element × ℕ)) (p : Element × ℕ) (n w most : ℕ) → left ≡ p ∷ rest → w ≡ min (f p.0) most → Weighed all left n → sum_by f (items all) ≤ most → p.1 * w ≡ p.1 * f p.0
  once all left rest p n w most e is s light = ap (λ (k : ℕ). p.1 * k) is ∙ exact_times p.1 (f p.0) most (omega (arith, weight_left left rest p e, s, light))

  pub weighed_room : (all left rest : List (Element × ℕ)) (p : Element × ℕ) (n w most : ℕ) → left ≡ p ∷ rest → w ≡ min (f p.0) most → Weighed all left n → sum_by f (items all) ≤ most
      → n + p.1 * w ≤ sum_by f (items all)
  weighed_room all left rest p n w most e is s light = omega (arith, weight_left left rest p e, once all left rest p n w most e is s light, s)

  pub weighed_next : (all left rest : List (Element × ℕ)) (p : Element × ℕ) (n w most : ℕ) → left ≡ p ∷ rest → w ≡ min (f p.0) most → Weighed all left n → sum_by f (items all) ≤ most
      → Weighed all rest (n + p.1 * w)
  weighed_next all left rest p n w most e is s light = omega (arith, weight_left left rest p e, once all left rest p n w most e is s light, s)

  pub weighed_last : (all left : List (Element × ℕ)) (n : ℕ) → left ≡ [] → Weighed all left n → n ≡ sum_by f (items all)
  weighed_last all left n e s = omega (arith, ap (λ (es : List (Element × ℕ)). sum_by f (items es)) e, s)
