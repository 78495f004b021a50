-- What is read or skipped of a signed number.
use Rattle.std.proofs.Common.{◌≡◌, ℕ, ◌+◌, ◌<◌, ◌≤◌, ◌^◌, ℤ, List, [], ◌∷◌, ◌++◌, length, drop, get_or, suc, refl, sym, ap, ◌∙◌, arith}
use Rattle.std.proofs.lemmas.Int.{ints}
use Rattle.oas_keys.specs.Numbers.{number_in, signed_classes, signed_key, place, IsStep}
use Rattle.oas_keys.specs.Reading.{more_with}
use Rattle.oas_keys.specs.Laws.NumberLaws.{signed_is, signed_fit, place_is}
use Rattle.oas_keys.proofs.ReadingLemmas.{never_empty}
use Rattle.oas_keys.proofs.FirstLemmas.{Begin, Front, front}

-- its place is small
pub placed : (x : ℤ) → IsStep x → place x < 2 ^ 64
placed x step = omega (arith, ints, (place_is x step).0, step.below)

-- its bytes are those of its place
pub by_place : (x : ℤ) (bytes rest : List ℕ) → bytes ≡ signed_key x ++ rest → bytes ≡ number_in signed_classes 1 (place x) ++ rest
by_place x bytes rest is = is ∙ ap (λ (t : List ℕ). t ++ rest) (signed_is x)

-- so there are some
pub signed_some : (x : ℤ) (bytes rest : List ℕ) → bytes ≡ signed_key x ++ rest → 0 < length bytes
signed_some x [] rest is = absurd (never_empty signed_classes (place x) [] rest (by_place x [] rest is) refl)
signed_some x (b ∷ bs) rest is = omega arith

-- what comes after its first byte
pub signed_front : (x : ℤ) (first least more : ℕ) (rest bytes : List ℕ) → IsStep x → bytes ≡ signed_key x ++ rest
    → first ≡ get_or bytes 0 0 → Begin signed_classes 1 first least more → Front least more (place x) rest bytes
signed_front x first least more rest bytes step is was b = front signed_classes (place x) first least more rest bytes signed_fit (placed x step) (by_place x _ rest is) was b

-- these are as many bytes as the first says, and then the rest
pub record Passed (more : ℕ) (rest bytes : List ℕ) : Type 0 where
  pub long : 1 + more ≤ length bytes
  pub rest_is : drop (1 + more) bytes ≡ rest

pub passed : (x : ℤ) (bytes rest : List ℕ) (byte more : ℕ) → IsStep x → bytes ≡ signed_key x ++ rest → byte ≡ get_or bytes 0 0
    → more ≡ more_with signed_classes 1 byte → Passed more rest bytes
passed x bytes rest byte more step is was e =
    let h = signed_front x byte _ more rest bytes step is was (record { least_is = refl; more_is = sym e }) in
    let long = h.long in
    let one : 1 + more ≡ suc more = omega arith in
    record { long = omega arith; rest_is = ap (λ (k : ℕ). drop k bytes) one ∙ h.rest_is }
