-- How many bytes the canonical bytes of a layout are.
use Rattle.std.proofs.Common.{◌≡◌, ℕ, ◌+◌, ◌-◌, ◌*◌, ◌≤◌, Bool, true, false, List, ◌∷◌, ◌++◌, length, replicate, length-append, refl, arith, []}
use Rattle.std.specs.Prelude.{◌==◌, if◌then◌else◌, sum_by}
use Rattle.std.specs.List.{AllByRecursion}
use Rattle.std.proofs.lemmas.List.Sums.{sum_by-cons}
use Rattle.oas_num.specs.Ratio.{Ratio}
use Rattle.oas_num.specs.Writing.{shortest}
use Rattle.oas_elements.specs.declared.element.Element.{Element}
use Rattle.oas_elements.specs.Weight.{weight_of}
use Rattle.oas_elements.specs.Meaning.{cells_weight}
use Rattle.oas_form.specs.Records.{Cells}
use Rattle.oas_form.specs.Bytes.{string_bytes, element_bytes, elements_bytes, cells_bytes, unit_bytes, head_bytes, end_bytes, canonical_bytes}
use Rattle.oas_form.specs.Spelling.{HasPoint, CanonicalLength}
use Rattle.oas_form.proofs.Lengths.{length-shortest, length-string}
use Rattle.oas_form.proofs.AllKinds.{of_element}

pub length-elements : (es : List Element) → AllByRecursion HasPoint es → length (elements_bytes es) ≤ 64 * sum_by weight_of es
length-elements [] h = omega arith
length-elements (e ∷ es) h = omega (arith, sum_by-cons weight_of e es, length-append (element_bytes e) (elements_bytes es), (of_element e).short h.0, length-elements es h.1)

-- ---- the file

pub length-cells : (cs : Cells) → AllByRecursion (λ c. AllByRecursion HasPoint c.1) cs → length (cells_bytes cs) ≤ 64 * cells_weight cs
length-cells [] h = omega arith
length-cells (c ∷ cs) h =
    omega (
      arith,
      length-append (14 ∷ (string_bytes c.0 ++ elements_bytes c.1)) (cells_bytes cs),
      length-append (string_bytes c.0)
          (elements_bytes c.1),
      length-string c.0,
      length-elements c.1 h.0,
      length-cells cs h.1,
    )

length-by : (whole part : Bool) (n d : ℕ) → length (if whole then 0 ∷ shortest n else (if part then 2 ∷ shortest d else 4 ∷ (shortest n ++ shortest d))) ≤ 21
length-by true part n d = omega (arith, length-shortest n)
length-by false true n d = omega (arith, length-shortest d)
length-by false false n d = omega (arith, length-append (shortest n) (shortest d), length-shortest n, length-shortest d)

length-unit : (u : Ratio) → length (unit_bytes u) ≤ 21
unfolding unit_bytes
length-unit u = length-by (u.den == 1) (u.num == 1) u.num u.den

pub length-head : (u : Ratio) → length (head_bytes u) ≤ 52
unfolding head_bytes
length-head u = omega (arith, length-append (unit_bytes u) (0 ∷ replicate 12 0), length-unit u)

length-end : length end_bytes ≡ 256
unfolding end_bytes
length-end = refl

pub canonical_length : CanonicalLength
unfolding canonical_bytes
canonical_length m h = omega (
  arith,
  length-append (head_bytes m.unit) (cells_bytes m.cells ++ end_bytes),
  length-append
      (cells_bytes m.cells) end_bytes,
  length-head m.unit,
  length-cells m.cells h,
  length-end,
)
