-- Sums of the bytes that a signature would be of, while more are given.
use Rattle.std.specs.Prelude.{◌≡◌, ℕ, ◌-◌, ◌≤◌, ◌/◌, ◌%◌, List, [], ◌∷◌, ◌++◌, length, drop, Option, None, Some}
use Rattle.oas_checksum.specs.Signed.{signed}
use Rattle.oas_checksum.specs.Sums.{AreSums}

-- the last four bytes, or all where there are fewer
abbrev pub last_four : List ℕ → List ℕ
last_four bytes = drop (length bytes - 4) bytes

-- the most significant `count` of the four bytes of a number, the least significant first
abbrev pub held : ℕ → ℕ → List ℕ
held number count = drop (4 - count) (number % 256 ∷ number / 256 % 256 ∷ number / 65536 % 256 ∷ number / 16777216 ∷ [])

-- one more byte: of five the first is dropped
abbrev pub Shifts : List ℕ → ℕ → Option ℕ → List ℕ → Type 0
Shifts old byte None new = (new ≡ old ++ byte ∷ []) × (length new ≤ 4)
Shifts old byte (Some first) new = (old ++ byte ∷ [] ≡ first ∷ new) × (length new ≡ 4)

-- the sums are those of the bytes before the last four, which are these
pub record AreSigned (sums : (ℕ × ℕ) × List ℕ) (bytes : List ℕ) : Type 0 where
  pub before : AreSums sums.0 (signed bytes)
  pub last : sums.1 ≡ last_four bytes
