-- Numbers in a fixed number of bytes, the least significant first.
use Rattle.std.proofs.Common.{ℕ, ◌+◌, ◌*◌, ◌^◌, List, [], ◌∷◌, ◌++◌, refl}
use Rattle.oas_num.specs.declared.refusals.Why.{Why}
use Rattle.oas_record.specs.Kinds.{Kind, byte, zero_byte}
use Rattle.oas_record.specs.Trees.{pair, image_any}

abbrev pub FourBytes : Type 0
FourBytes = ℕ × (ℕ × (ℕ × ℕ))

abbrev pub four_of : FourBytes → ℕ
four_of b = b.0 + b.1.0 * 2 ^ 8 + b.1.1.0 * 2 ^ 16 + b.1.1.1 * 2 ^ 24

-- a number in four bytes
abbrev pub four : Kind ℕ
four = image_any four_of (pair byte (λ _. pair byte (λ _. pair byte (λ _. byte))))

abbrev pub IsFour : ℕ → List ℕ → Type 0
IsFour = four.any

abbrev pub four_zeros : List ℕ
four_zeros = 0 ∷ 0 ∷ 0 ∷ 0 ∷ []

pub zero_four : IsFour 0 four_zeros
zero_four = record {
  from = (0, (0, (0, 0)));
  is = refl;
  spelled = record {
    front = 0 ∷ [];
    back = 0 ∷ 0 ∷ 0 ∷ [];
    first = zero_byte;
    second = record { front = 0 ∷ []; back = 0 ∷ 0 ∷ []; first = zero_byte; second = record { front = 0 ∷ []; back = 0 ∷ []; first = zero_byte; second = zero_byte; joined = refl }; joined = refl };
    joined = refl;
  };
}

abbrev pub FourTook : Why → List ℕ → Type 0
FourTook = four.took

abbrev pub eight_of : ℕ × ℕ → ℕ
eight_of halves = halves.0 + halves.1 * 2 ^ 32

-- a number in eight bytes
abbrev pub eight : Kind ℕ
eight = image_any eight_of (pair four (λ _. four))

abbrev pub IsEight : ℕ → List ℕ → Type 0
IsEight = eight.any

pub zero_eight : IsEight 0 (four_zeros ++ four_zeros)
zero_eight = record { from = (0, 0); is = refl; spelled = record { front = four_zeros; back = four_zeros; first = zero_four; second = zero_four; joined = refl } }

abbrev pub EightTook : Why → List ℕ → Type 0
EightTook = eight.took
