-- How deltas are spelled (SEMI P39, Deltas).
use Rattle.std.specs.Prelude.{ℕ, ℤ, pos, neg_ℤ, ◌+◌, ◌*◌, ◌/◌, ◌%◌, ◌==◌, if◌then◌else◌, Bool, List, Option, Some, None}
use Rattle.oas_num.specs.declared.deltas.Delta1.{Delta1}
use Rattle.oas_num.specs.declared.deltas.Delta2.{Delta2}
use Rattle.oas_num.specs.declared.deltas.Delta3.{Delta3}
use Rattle.oas_num.specs.declared.deltas.GDelta.{GDelta}
use Rattle.oas_num.specs.Grammar.{IsPair, IsThere, IsImage}
use Rattle.oas_num.specs.Integers.{IsUnsigned, IsSigned, signed_of}
use Rattle.oas_num.specs.Style.{Style, Any, Shortest, unsigned_in, code}
use Rattle.oas_num.specs.declared.refusals.Why.{Why}
use Rattle.oas_num.specs.Pieces.{PairTook, ThereTook}
use Rattle.oas_num.specs.Reading.{IntegerMay}

-- a step by its two components: east is +x, north is +y
abbrev pub step : ℤ → ℤ → GDelta
step x y = record { dx = x; dy = y }

-- this far in one of eight directions; a diagonal goes this far along both axes: E, N, W, S, NE, NW, SW, SE
abbrev pub toward : ℕ → ℕ → GDelta
toward direction far =
    if direction == 0 then step (pos far) (pos 0) else
    (if direction == 1 then step (pos 0) (pos far) else
    (if direction == 2 then step (neg_ℤ (pos far)) (pos 0) else
    (if direction == 3 then step (pos 0) (neg_ℤ (pos far)) else
    (if direction == 4 then step (pos far) (pos far) else
    (if direction == 5 then step (neg_ℤ (pos far)) (pos far) else
    (if direction == 6 then step (neg_ℤ (pos far)) (neg_ℤ (pos far)) else
    step (pos far) (neg_ℤ (pos far))))))))

-- a 1-delta is a signed number
abbrev pub SpellsDelta1 : Delta1 → List ℕ → Type 0
SpellsDelta1 v bytes = IsSigned v.0 bytes

-- the low two bits are the direction, the rest is the distance
abbrev pub delta2_of : ℕ → Delta2
delta2_of n = let far = toward (n % 4) (n / 4) in record { dx = far.dx; dy = far.dy }

abbrev pub SpellsDelta2 : Delta2 → List ℕ → Type 0
SpellsDelta2 = IsImage delta2_of IsUnsigned

-- the low three bits are the direction, the rest is the distance
abbrev pub delta3_of : ℕ → Delta3
delta3_of n = let far = toward (n % 8) (n / 8) in record { dx = far.dx; dy = far.dy }

abbrev pub SpellsDelta3 : Delta3 → List ℕ → Type 0
SpellsDelta3 = IsImage delta3_of IsUnsigned

-- bit 0 says that there is a second number
abbrev pub has_second : ℕ → Bool
has_second first = first % 2 == 1

-- In form 1 bits 1 to 3 are the direction, and the rest is the distance. In form 2 bit 1 of the first number and bit 0 of the
-- second are the signs of the components, and the rest of each is its magnitude.
abbrev pub gdelta_from : ℕ → Option ℕ → GDelta
gdelta_from first None = toward (first / 2 % 8) (first / 16)
gdelta_from first (Some second) = step (signed_of (first / 2)) (signed_of second)

abbrev pub gdelta_of : ℕ × Option ℕ → GDelta
gdelta_of numbers = gdelta_from numbers.0 numbers.1

-- the two numbers of form 2; a component of zero goes east or north
abbrev pub long_numbers : GDelta → ℕ × ℕ
long_numbers d = (2 * code d.dx + 1, code d.dy)

-- the numbers of a g-delta; the first one's bit 0 says whether the second is there
abbrev pub IsNumbers : ℕ × Option ℕ → List ℕ → Type 0
IsNumbers = IsPair IsUnsigned (λ first. IsThere (has_second first) IsUnsigned)

-- a g-delta, in a style: any form, or form 2 by the shortest numbers
abbrev pub gdelta_in : Style → GDelta → List ℕ → Type 0
gdelta_in Any d bytes = IsImage gdelta_of IsNumbers d bytes
gdelta_in Shortest d bytes = IsPair (unsigned_in Shortest) (λ _. unsigned_in Shortest) (long_numbers d) bytes

abbrev pub SpellsGDelta : GDelta → List ℕ → Type 0
SpellsGDelta = gdelta_in Any

-- where a read of a g-delta may fail: in its first number, or in the second, if there is one
abbrev pub GDeltaTook : Why → List ℕ → Type 0
GDeltaTook = PairTook IsUnsigned IntegerMay (λ first. ThereTook (has_second first) IntegerMay)
