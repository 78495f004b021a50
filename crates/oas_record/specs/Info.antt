-- Info bytes: which fields a record gives.
use Rattle.std.specs.Prelude.{ℕ, ◌==◌, Bool, not, bit_and, List}
use Rattle.oas_num.specs.Grammar.{IsSuch, IsByte}
use Rattle.oas_num.specs.Style.{Style, Any, Shortest}
use Rattle.oas_num.specs.declared.refusals.Why.{Why}
use Rattle.oas_num.specs.declared.refusals.Why.TheVariants.{InfoByte}
use Rattle.oas_num.specs.Reading.{ByteMay}
use Rattle.oas_num.specs.Pieces.{SuchTook, Unless}

-- the bit of that weight is set
abbrev pub has : ℕ → ℕ → Bool
has info weight = not (bit_and info weight == 0)

-- an info byte that meets this condition, and in the shortest style also that one
abbrev pub info_in : (ℕ → Type 0) → (ℕ → Type 0) → Style → ℕ → List ℕ → Type 0
info_in allowed canonical Any = IsSuch allowed IsByte
info_in allowed canonical Shortest = IsSuch (λ info. allowed info × canonical info) IsByte

-- where a read of an info byte may fail
abbrev pub InfoTook : (ℕ → Type 0) → Why → List ℕ → Type 0
InfoTook allowed = SuchTook IsByte ByteMay (Unless allowed InfoByte)
