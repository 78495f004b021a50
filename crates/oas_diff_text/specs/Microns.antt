-- Grid steps as microns.
use Rattle.std.specs.Prelude.{ℕ, ℤ, pos, nat_abs, zero, suc, ◌+◌, ◌*◌, ◌/◌, ◌%◌, ◌-◌, ◌^◌, min, List, [], ◌∷◌, ◌++◌, decimal, if◌then◌else◌}
use Rattle.std.specs.Int.Signed.{lt_z}
use Rattle.oas_num.specs.Ratio.{Ratio}

-- The digits after the point of rest / den, where rest is below den: by long division, up to the last one that isn't zero,
-- and at most this many. A finite decimal with a denominator below 2^64 has no more than 63.
abbrev pub decimals : ℕ → ℕ → ℕ → List ℕ
decimals den zero rest = []
decimals den (suc k) zero = []
decimals den (suc k) (suc r) = (48 + (10 * suc r) / den) ∷ decimals den k ((10 * suc r) % den)

-- a point before them, if there are any
abbrev pub pointed : List ℕ → List ℕ
pointed [] = []
pointed (d ∷ ds) = 46 ∷ d ∷ ds

-- num / den as a decimal number: exact if it is a finite one, or else with its first 64 digits after the point
abbrev pub quotient : ℕ → ℕ → List ℕ
quotient num den = decimal (num / den) ++ pointed (decimals den 64 (num % den))

-- capped to 64 bits: every length of a layout is below 2^62
abbrev pub counted_to : ℕ → ℕ
counted_to n = min n (2 ^ 64 - 1)

-- a length of this many grid steps, where a micron has num / den
abbrev pub length_in : Ratio → ℕ → List ℕ
length_in unit n = quotient (counted_to n * unit.den) unit.num

-- a coordinate
abbrev pub microns : Ratio → ℤ → List ℕ
microns unit z = if lt_z z (pos 0) then 45 ∷ length_in unit (nat_abs z) else length_in unit (nat_abs z)
