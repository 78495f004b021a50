-- How reals of all eight types are spelled (SEMI P39, Reals), and which fractions floats are (IEEE 754).
use Rattle.std.proofs.Common.{◌≡◌, ℕ, ◌+◌, ◌-◌, ◌/◌, ◌%◌, ◌^◌, ◌<◌, List, ◌++◌, arith}
use Rattle.std.specs.Prelude.{◌==◌, if◌then◌else◌}
use Rattle.oas_num.specs.declared.reals.Real.{Real}
use Rattle.oas_num.specs.declared.refusals.Why.{Why}
use Rattle.oas_num.specs.declared.refusals.Why.TheVariants.{Write, FloatReal, RealType}
use Rattle.oas_num.specs.Begun.{HasSome}
use Rattle.oas_num.specs.Grammar.{IsSuch}
use Rattle.oas_num.specs.Pieces.{Unless}
use Rattle.oas_num.specs.Reals.{has_num, has_den, part_of, Parts}
use Rattle.oas_record.specs.FoundParts.{settled_below}
use Rattle.oas_record.specs.Kinds.{Kind}
use Rattle.oas_record.specs.Trees.{IsTest, pair, there, either, such, image_any}
use Rattle.oas_standard.specs.declared.reals.WideReal.{WideReal}
use Rattle.oas_standard.specs.Little.{four, eight, four_zeros, zero_four, zero_eight}
use Rattle.oas_standard.specs.Long.{IsLong, long_number, long_test}

-- ---- floats

-- the exponent field, in a float with a hidden bit of that weight and that many exponents
abbrev pub exponent_of : ℕ → ℕ → ℕ → ℕ
exponent_of hidden exponents bits = bits / hidden % exponents

-- the largest exponent is that of infinities and NaNs
abbrev pub IsFinite : ℕ → ℕ → ℕ → Type 0
IsFinite hidden exponents bits = exponent_of hidden exponents bits + 1 < exponents

-- the smallest exponent has no hidden bit
abbrev pub significand_of : ℕ → ℕ → ℕ → ℕ
significand_of hidden exponents bits = if exponent_of hidden exponents bits == 0 then bits % hidden else hidden + bits % hidden

-- and counts as the next one
abbrev pub place_of : ℕ → ℕ → ℕ → ℕ
place_of hidden exponents bits = if exponent_of hidden exponents bits == 0 then 1 else exponent_of hidden exponents bits

-- the significand times two to the power of the place less that of whole numbers
abbrev pub float_of : ℕ → ℕ → ℕ → ℕ → WideReal
float_of hidden exponents whole bits = record {
  negative = bits / hidden / exponents == 1;
  num = significand_of hidden exponents bits;
  den = 1;
  doubled = place_of hidden exponents bits - whole;
  halved = whole - place_of hidden exponents bits;
}

-- single precision: 23 bits of a fraction, 8 of the exponent
abbrev pub IsFiniteSingle : ℕ → Type 0
IsFiniteSingle = IsFinite (2 ^ 23) 256

abbrev pub single_of : ℕ → WideReal
single_of = float_of (2 ^ 23) 256 150

-- double precision: 52 bits of a fraction, 11 of the exponent
abbrev pub IsFiniteDouble : ℕ → Type 0
IsFiniteDouble = IsFinite (2 ^ 52) 2048

abbrev pub double_of : ℕ → WideReal
double_of = float_of (2 ^ 52) 2048 1075

pub finite_test : (A : Kind ℕ) (hidden exponents : ℕ) → HasSome (IsSuch (IsFinite hidden exponents) A.any) → IsTest A.any (IsFinite hidden exponents) (Unless (IsFinite hidden exponents) FloatReal)
finite_test A hidden exponents some = record {
  settled = λ bits. settled_below (exponent_of hidden exponents bits + 1) exponents;
  some = some;
  never = λ bits h. let e : Write ≡ FloatReal = h.0 in cc;
}

pub single_some : HasSome (IsSuch IsFiniteSingle four.any)
single_some = record { value = 0; bytes = four_zeros; spelled = record { holds = omega arith; spelled = zero_four } }

pub double_some : HasSome (IsSuch IsFiniteDouble eight.any)
double_some = record { value = 0; bytes = four_zeros ++ four_zeros; spelled = record { holds = omega arith; spelled = zero_eight } }

abbrev pub single_bits : Kind ℕ
single_bits = such four IsFiniteSingle (Unless IsFiniteSingle FloatReal) (finite_test four (2 ^ 23) 256 single_some)

abbrev pub single : Kind WideReal
single = image_any single_of single_bits

abbrev pub double_bits : Kind ℕ
double_bits = such eight IsFiniteDouble (Unless IsFiniteDouble FloatReal) (finite_test eight (2 ^ 52) 2048 double_some)

abbrev pub double : Kind WideReal
double = image_any double_of double_bits

-- ---- reals

-- the types that there are
abbrev pub IsRealType : ℕ → Type 0
IsRealType type = type < 8

-- a fraction of a type below 6: odd types are negative, and its parts have any number of bytes
abbrev pub fraction_of : ℕ → Parts → WideReal
fraction_of type parts = record { negative = type % 2 == 1; num = part_of parts.0; den = part_of parts.1; doubled = 0; halved = 0 }

abbrev pub fraction : ℕ → Kind WideReal
fraction type = image_any (fraction_of type) (pair (there (has_num type) long_number) (λ _. there (has_den type) long_number))

-- what follows a type
abbrev pub real_after : ℕ → Kind WideReal
real_after type = either (type == 6) single (either (type == 7) double (fraction type))

pub real_type_test : IsTest IsLong IsRealType (Unless IsRealType RealType)
real_type_test = long_test IsRealType RealType (λ type. settled_below type 8) (omega arith) (λ e. cc)

abbrev pub real_type : Kind ℕ
real_type = such long_number IsRealType (Unless IsRealType RealType) real_type_test

abbrev pub without_type : ℕ × WideReal → WideReal
without_type p = p.1

-- a type in any number of bytes, and what follows it
abbrev pub wide_real : Kind WideReal
wide_real = image_any without_type (pair real_type real_after)

abbrev pub SpellsWideReal : WideReal → List ℕ → Type 0
SpellsWideReal = wide_real.any

-- where a read of a real may fail
abbrev pub WideRealTook : Why → List ℕ → Type 0
WideRealTook = wide_real.took

-- ---- reals of the profile

-- a real of the profile among them
abbrev pub wide_of : Real → WideReal
wide_of r = record { negative = r.negative; num = r.num; den = r.den; doubled = 0; halved = 0 }
