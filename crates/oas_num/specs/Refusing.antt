-- What a refusal says of an input, by which inputs are accepted.
use Rattle.std.specs.Prelude.{◌≡◌, ◌≢◌, ℕ, Bool, true, false, List, [], ◌++◌, IsTrue}
use Rattle.oas_num.specs.declared.refusals.Why.{Why}
use Rattle.oas_num.specs.declared.refusals.Why.TheVariants.{Truncated, Read, InputTooLong, Write, Memory}
use Rattle.oas_num.specs.Script.{Script, Consumed, IsAtEnd, HasFailed, IsTooLong}
use Rattle.oas_num.specs.Reading.{is_cut}

-- The bytes decided, and not the source's end, a device or the memory.
abbrev pub decides : Why → Bool
decides Truncated = false
decides Read = false
decides InputTooLong = false
decides Write = false
decides Memory = false
decides _ = true

-- the reason is about the file, and not about a device, a limit of the source, or the memory
abbrev pub is_of_file : Why → Bool
is_of_file Read = false
is_of_file InputTooLong = false
is_of_file Write = false
is_of_file Memory = false
is_of_file _ = true

-- No accepted input begins with what was taken, or the source has ended and what was taken is none, or a device or the memory
-- failed. Where the input was cut off, no accepted one goes on from what was taken.
pub record IsRefusedBy (Accepted : List ℕ → Type 0) (old : Script) (why : Why) (new : Script) : Type 0 where
  pub bytes : List ℕ
  pub takes : Consumed old bytes new
  pub decided : IsTrue (decides why) → (more : List ℕ) → Accepted (bytes ++ more) → ⊥
  pub cut : IsTrue (is_cut why) → (front rest : List ℕ) → front ++ rest ≡ bytes → Accepted front → rest ≡ []
  pub truncated : why ≡ Truncated → (Accepted bytes → ⊥) × IsAtEnd new
  pub device : why ≡ Read → HasFailed new
  pub too_long : why ≡ InputTooLong → IsTooLong new
  pub reading : why ≢ Write
