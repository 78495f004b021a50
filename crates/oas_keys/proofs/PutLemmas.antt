-- What several calls put, as one list.
use Rattle.std.proofs.Common.{◌≡◌, ℕ, ℤ, List, ◌++◌, ap, ◌∙◌, append_assoc, w64, to_z, of_z, FitsSigned}
use Rattle.std.proofs.lemmas.Int.{to_z-of_z}
use Rattle.oas_keys.specs.Numbers.{signed_key}

-- one call after others
pub puts : (new x was bytes more : List ℕ) → new ≡ x ++ more → x ≡ was ++ bytes → new ≡ was ++ (bytes ++ more)
puts new x was bytes more h k = h ∙ ap (λ (t : List ℕ). t ++ more) k ∙ append_assoc was bytes more

-- a pair, and what follows it
pub after_pair : (old x new a b r : List ℕ) → new ≡ x ++ r → x ≡ old ++ (a ++ b) → new ≡ old ++ (a ++ (b ++ r))
after_pair old x new a b r h k = puts new x old (a ++ b) r h k ∙ ap (λ (t : List ℕ). old ++ t) (append_assoc a b r)

-- a pair of signed numbers as they are passed
pub passed : (x y : ℤ) → FitsSigned w64 x → FitsSigned w64 y → signed_key (to_z w64 (of_z w64 x)) ++ signed_key (to_z w64 (of_z w64 y)) ≡ signed_key x ++ signed_key y
passed x y p q =
    ap (λ (z : ℤ). signed_key z ++ signed_key (to_z w64 (of_z w64 y))) (to_z-of_z w64 x p)
    ∙ ap (λ (z : ℤ). signed_key x ++ signed_key z) (to_z-of_z w64 y q)
