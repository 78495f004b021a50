-- How integers are spelled.
use Rattle.std.specs.Prelude.{◌≡◌, ℕ, ℤ, pos, neg_ℤ, ◌/◌, ◌==◌, if◌then◌else◌, ◌+◌, ◌*◌, ◌%◌, ◌^◌, ◌<◌, ◌≤◌, List, [], ◌∷◌, length, ◌⊎◌}
use Rattle.oas_num.specs.declared.integers.Unsigned.{Unsigned}
use Rattle.oas_num.specs.declared.integers.Signed.{Signed}
use Rattle.oas_num.specs.Grammar.{IsImage}

-- bytes of groups with more to follow
abbrev pub IsOpen : List ℕ → Type 0
IsOpen [] = Unit {0}
IsOpen (b ∷ bs) = (128 ≤ b) × (b < 256) × IsOpen bs

-- all except the last are at least 128, and the last is below
abbrev pub IsClosed : List ℕ → Type 0
IsClosed [] = ⊥
IsClosed (b ∷ bs) = ((b < 128) × (bs ≡ [])) ⊎ ((128 ≤ b) × (b < 256) × IsClosed bs)

-- the sum of the low seven bits of each byte, times 128 to the power of its place
abbrev pub value_of : List ℕ → ℕ
value_of [] = 0
value_of (b ∷ bs) = b % 128 + 128 * value_of bs

-- the bytes are a spelling of n
pub record IsUnsigned (n : ℕ) (bytes : List ℕ) : Type 0 where
  pub closed : IsClosed bytes
  pub short : length bytes ≤ 10
  pub value : n ≡ value_of bytes
  pub fits : n < 2 ^ 64

-- bit 0 is the sign, and the rest the magnitude: minus zero is zero
abbrev pub signed_of : ℕ → ℤ
signed_of n = if n % 2 == 0 then pos (n / 2) else neg_ℤ (pos (n / 2))

-- the bytes are a spelling of a signed number
abbrev pub IsSigned : ℤ → List ℕ → Type 0
IsSigned = IsImage signed_of IsUnsigned

-- the same for the types of these numbers
abbrev pub SpellsUnsigned : Unsigned → List ℕ → Type 0
SpellsUnsigned v bytes = IsUnsigned v.0 bytes

abbrev pub SpellsSigned : Signed → List ℕ → Type 0
SpellsSigned v bytes = IsSigned v.0 bytes
