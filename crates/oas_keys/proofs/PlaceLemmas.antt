-- How a signed number at a place is put.
use Rattle.std.proofs.Common.{◌≡◌, ℕ, ◌+◌, ◌-◌, ◌/◌, ◌%◌, ◌^◌, ◌<◌, ◌≤◌, List, [], ◌∷◌, ◌++◌, ap, ◌∙◌, arith}
use Rattle.std.proofs.lemmas.Bool.Decides.{nat_tests}
use Rattle.oas_keys.specs.Numbers.{digits, number_in, signed_classes, signed_start}

-- in one byte
pub about : (n b : ℕ) (new was : List ℕ) → new ≡ was ++ b ∷ [] → signed_start ≤ n + 31 → n < signed_start + 32 → b + signed_start ≡ n + 128
    → new ≡ was ++ number_in signed_classes 1 n
about n b new was is l h e = is ∙ ap (λ (t : List ℕ). was ++ t) (byte n b l h e)
  where
    byte : (n b : ℕ) → signed_start ≤ n + 31 → n < signed_start + 32 → b + signed_start ≡ n + 128 → b ∷ [] ≡ number_in signed_classes 1 n
    byte n b l h e = grind (arith, nat_tests)

-- below those in one byte, in two
pub below_two : (at n : ℕ) → at ≡ n → signed_start ≤ n + 10271 → n + 31 < signed_start →
    (57 + (at - (signed_start - 10271)) / 2 ^ 8) ∷ digits 1 ((at - (signed_start - 10271)) % 2 ^ 8) ≡ number_in signed_classes 1 n
below_two at n e l h = grind (arith, nat_tests)

-- in three
pub below_three : (at n : ℕ) → at ≡ n → signed_start ≤ n + 2107423 → n + 10271 < signed_start →
    (25 + (at - (signed_start - 2107423)) / 2 ^ 16) ∷ digits 2 ((at - (signed_start - 2107423)) % 2 ^ 16) ≡ number_in signed_classes 1 n
below_three at n e l h = grind (arith, nat_tests)

-- in four
pub below_four : (at n : ℕ) → at ≡ n → signed_start ≤ n + 270542879 → n + 2107423 < signed_start →
    (9 + (at - (signed_start - 270542879)) / 2 ^ 24) ∷ digits 3 ((at - (signed_start - 270542879)) % 2 ^ 24) ≡ number_in signed_classes 1 n
below_four at n e l h = grind (arith, nat_tests)

-- above those in two bytes
pub above_two : (at n : ℕ) → at ≡ n → signed_start + 32 ≤ n → n < signed_start + 10272 →
    (160 + (at - (signed_start + 32)) / 2 ^ 8) ∷ digits 1 ((at - (signed_start + 32)) % 2 ^ 8) ≡ number_in signed_classes 1 n
above_two at n e l h = grind (arith, nat_tests)

-- in three
pub above_three : (at n : ℕ) → at ≡ n → signed_start + 10272 ≤ n → n < signed_start + 2107424 →
    (200 + (at - (signed_start + 10272)) / 2 ^ 16) ∷ digits 2 ((at - (signed_start + 10272)) % 2 ^ 16) ≡ number_in signed_classes 1 n
above_three at n e l h = grind (arith, nat_tests)

-- in four
pub above_four : (at n : ℕ) → at ≡ n → signed_start + 2107424 ≤ n → n < signed_start + 270542880 →
    (232 + (at - (signed_start + 2107424)) / 2 ^ 24) ∷ digits 3 ((at - (signed_start + 2107424)) % 2 ^ 24) ≡ number_in signed_classes 1 n
above_four at n e l h = grind (arith, nat_tests)
