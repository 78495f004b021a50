-- What sums are.
use Rattle.std.specs.Prelude.{◌≡◌, ℕ, List}
use Rattle.oas_checksum.specs.Crc.{IsRegister}
use Rattle.oas_checksum.specs.ByteSums.{checksum32}

-- the sums, a register and a sum, are those of the bytes
pub record AreSums (sums : ℕ × ℕ) (bytes : List ℕ) : Type 0 where
  pub register : IsRegister sums.0 bytes
  pub sum : sums.1 ≡ checksum32 bytes
