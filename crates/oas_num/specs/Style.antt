-- The two styles of spelling: any that the standard allows, or the shortest, which a canonical file has.
use Rattle.std.specs.Prelude.{◌≡◌, ℕ, ℤ, pos, negsuc, ◌+◌, ◌*◌, ◌≤◌, List, length}
use Rattle.oas_num.specs.Integers.{IsUnsigned, IsSigned, signed_of}

pub data Style : Type 0 where
  Any : Style
  Shortest : Style

-- no spelling of the number is shorter
pub record IsShortest (n : ℕ) (bytes : List ℕ) : Type 0 where
  pub spelled : IsUnsigned n bytes
  pub least : (others : List ℕ) → IsUnsigned n others → length bytes ≤ length others

-- no spelling is shorter, and zero has no sign
pub record IsShortestSigned (z : ℤ) (bytes : List ℕ) : Type 0 where
  pub from : ℕ
  pub is : signed_of from ≡ z
  pub plain : from ≡ 1 → ⊥
  pub shortest : IsShortest from bytes

-- an unsigned number, in a style
abbrev pub unsigned_in : Style → ℕ → List ℕ → Type 0
unsigned_in Any = IsUnsigned
unsigned_in Shortest = IsShortest

-- a signed number, in a style
abbrev pub signed_in : Style → ℤ → List ℕ → Type 0
signed_in Any = IsSigned
signed_in Shortest = IsShortestSigned

-- the number that spells a signed number: the sign in its lowest bit
abbrev pub code : ℤ → ℕ
code (pos n) = 2 * n
code (negsuc n) = 2 * n + 3
