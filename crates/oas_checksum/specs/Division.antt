-- Which division of polynomials over the numbers modulo 2 CRC-32 is. For a message of n bytes, bit i of a number is the
-- coefficient of x^(8 n + 31 - i): the message's first bit is bit 0, and a remainder begins at bit 8 n.
use Rattle.std.specs.Prelude.{◌≡◌, ℕ, ◌+◌, ◌*◌, ◌^◌, ◌<◌, List, [], ◌∷◌, length, bit_xor}
use Rattle.std.specs.List.{All}
use Rattle.oas_checksum.specs.Crc.{divisor, all_ones}

-- the divisor, including x^32
abbrev pub whole_divisor : ℕ
whole_divisor = 1 + 2 * divisor

-- the divisor, shifted to each of these places, all added up
abbrev pub times : List ℕ → ℕ
times [] = 0
times (shift ∷ shifts) = bit_xor (2 ^ shift * whole_divisor) (times shifts)

-- the dividend is a multiple of the divisor, with these places of a quotient, plus the remainder
pub record IsDivided (places dividend remainder : ℕ) : Type 0 where
  pub quotient : List ℕ
  pub short : All (λ shift. shift < places) quotient
  pub divided : dividend ≡ bit_xor (times quotient) (2 ^ places * remainder)

-- a message as a number, its first byte the lowest
abbrev pub number_of : List ℕ → ℕ
number_of [] = 0
number_of (byte ∷ bytes) = byte + 256 * number_of bytes

-- the message, with its first 32 bits inverted, leaves that remainder, which has no power above x^31
abbrev pub Leaves : List ℕ → ℕ → Type 0
Leaves bytes remainder = IsDivided (8 * length bytes) (bit_xor (number_of bytes) all_ones) remainder × (remainder < 2 ^ 32)
