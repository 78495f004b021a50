-- How reals are spelled.
use Rattle.std.specs.Prelude.{◌≡◌, ℕ, ◌+◌, ◌/◌, ◌%◌, ◌<◌, ◌≤◌, Bool, true, false, not, ◌==◌, if◌then◌else◌, List, [], Option, Some, None}
use Rattle.oas_num.specs.declared.refusals.Why.{Why}
use Rattle.oas_num.specs.declared.refusals.Why.TheVariants.{Truncated, IntegerRange, FloatReal, RealType, Read, InputTooLong}
use Rattle.oas_num.specs.declared.reals.Real.{Real}
use Rattle.oas_num.specs.Grammar.{IsPair, IsSuch, IsImage, IsThere}
use Rattle.oas_num.specs.Combinators.{IsKeyed}
use Rattle.oas_num.specs.Integers.{IsUnsigned}
use Rattle.oas_num.specs.Style.{Style, Any, Shortest, IsShortest}
use Rattle.oas_num.specs.Pieces.{PairTook, ThereTook}
use Rattle.oas_num.specs.Reading.{IsOutOfRange, IsUnended, IntegerMay}

-- types 2 and 3 have no numerator
abbrev pub has_num : ℕ → Bool
has_num kind = not (kind / 2 == 1)

-- types 0 and 1 have no denominator
abbrev pub has_den : ℕ → Bool
has_den kind = not (kind / 2 == 0)

-- a missing part is 1
abbrev pub part_of : Option ℕ → ℕ
part_of None = 1
part_of (Some part) = part

-- the types that aren't floats
abbrev pub IsFraction : ℕ → Type 0
IsFraction kind = kind < 6

abbrev pub Parts : Type 0
Parts = Option ℕ × Option ℕ

-- the parts that a type has
abbrev pub SpellsParts : ℕ → Parts → List ℕ → Type 0
SpellsParts kind = IsPair (IsThere (has_num kind) IsUnsigned) (λ _. IsThere (has_den kind) IsUnsigned)

-- odd types are negative
abbrev pub real_of : ℕ × Parts → Real
real_of p = record { negative = p.0 % 2 == 1; num = part_of p.1.0; den = part_of p.1.1 }

-- a type, and the parts that it has
abbrev pub SpellsReal : Real → List ℕ → Type 0
SpellsReal = IsImage real_of (IsPair (IsSuch IsFraction IsUnsigned) SpellsParts)

-- the canonical type: a denominator of 1 is left out, or else a numerator of 1
abbrev pub kind_of : Real → ℕ
kind_of r = (if r.den == 1 then 0 else if r.num == 1 then 2 else 4) + (if r.negative then 1 else 0)

-- a part in its shortest spelling, where the type has it, or else 1
abbrev pub IsPart : Bool → ℕ → List ℕ → Type 0
IsPart true part bytes = IsShortest part bytes
IsPart false part bytes = (bytes ≡ []) × (part ≡ 1)

abbrev pub ShortestParts : ℕ → Real → List ℕ → Type 0
ShortestParts kind r bytes = IsPair (IsPart (has_num kind)) (λ _. IsPart (has_den kind)) (r.num, r.den) bytes

-- a real in a style: a reduced p/q is 0 and p where q is 1, else 2 and q where p is 1, else 4, p and q
abbrev pub real_in : Style → Real → List ℕ → Type 0
real_in Any = SpellsReal
real_in Shortest = IsKeyed kind_of IsShortest ShortestParts

-- where a read of a real may fail
abbrev pub RealMay : Why → List ℕ → Type 0
RealMay Truncated last = IsUnended last
RealMay Read last = IsUnended last
RealMay InputTooLong last = IsUnended last
RealMay IntegerRange last = IsOutOfRange last
RealMay FloatReal last = (kind : ℕ) × IsUnsigned kind last × (6 ≤ kind) × (kind < 8)
RealMay RealType last = (kind : ℕ) × IsUnsigned kind last × (8 ≤ kind)
RealMay _ last = ⊥

-- where a read of the parts that a type has may fail
abbrev pub PartsTook : ℕ → Why → List ℕ → Type 0
PartsTook kind = PairTook (IsThere (has_num kind) IsUnsigned) (ThereTook (has_num kind) IntegerMay) (λ _. ThereTook (has_den kind) IntegerMay)

-- where a read of a real may fail: in its type, or in a part that the type has
abbrev pub RealTook : Why → List ℕ → Type 0
RealTook = PairTook (IsSuch IsFraction IsUnsigned) RealMay PartsTook
