-- CRC-32 (ISO 3309). The message is a polynomial over the numbers modulo 2. Its first 32 bits are inverted, it is divided by
-- x^32 + x^26 + x^23 + x^22 + x^16 + x^12 + x^11 + x^10 + x^8 + x^7 + x^5 + x^4 + x^2 + x + 1, and the remainder is inverted.
-- The lowest bit of each byte comes first, so in numbers the lowest bit is that of the highest power.
use Rattle.std.specs.Prelude.{◌≡◌, ℕ, zero, suc, ◌/◌, ◌%◌, List, fold, bit_xor, if◌then◌else◌, ◌==◌}

-- the powers of the divisor below x^32, with that of x^31 in the lowest bit
abbrev pub divisor : ℕ
divisor = 0xEDB88320

abbrev pub all_ones : ℕ
all_ones = 0xFFFFFFFF

-- one bit of the division: all powers rise by one, and where that gives x^32 the divisor is subtracted
abbrev pub after_bit : ℕ → ℕ
after_bit register = if register % 2 == 1 then bit_xor (register / 2) divisor else register / 2

-- several bits of it
unfoldable pub after_bits : ℕ → ℕ → ℕ
after_bits zero register = register
after_bits (suc count) register = after_bits count (after_bit register)

-- a byte comes in at the highest powers
abbrev pub after_byte : ℕ → ℕ → ℕ
after_byte register byte = after_bits 8 (bit_xor register byte)

-- the register after a message; it begins with ones so that the first 32 bits are inverted
abbrev pub register_of : List ℕ → ℕ
register_of bytes = fold after_byte all_ones bytes

abbrev pub IsRegister : ℕ → List ℕ → Type 0
IsRegister register bytes = register ≡ register_of bytes

-- the CRC-32 of a message: the remainder, inverted
abbrev pub crc32 : List ℕ → ℕ
crc32 bytes = bit_xor (register_of bytes) all_ones
