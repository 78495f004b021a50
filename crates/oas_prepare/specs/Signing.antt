-- What a signature is, by the sums of the bytes that it covers.
use Rattle.std.specs.Prelude.{ℕ, List}
use Rattle.oas_narrow.specs.Signed.{signed}
use Rattle.oas_narrow.specs.Sums.{AreSums}
use Rattle.oas_narrow.specs.Validation.{Validation}
use Rattle.oas_narrow.specs.Preparable.{IsValid}

-- a file with these sums is complete
abbrev pub IsRight : Validation → ℕ × ℕ → Type 0
IsRight validation sums = (bytes : List ℕ) → AreSums sums (signed bytes) → IsValid validation bytes

-- it isn't
abbrev pub IsWrong : Validation → ℕ × ℕ → Type 0
IsWrong validation sums = (bytes : List ℕ) → AreSums sums (signed bytes) → IsValid validation bytes → ⊥
