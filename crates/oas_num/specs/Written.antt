-- What a writer took of bytes that it was given.
use Rattle.std.specs.Prelude.{◌≡◌, ℕ, List, ◌++◌, length, Option}
use Rattle.oas_num.specs.Devices.{Calls, TakesAll, FailsAfter}
use Rattle.oas_num.specs.declared.refusals.Refusal.{Refusal}
use Rattle.oas_num.specs.declared.refusals.Why.TheVariants.{Write as NotWritten}

-- it took all of the bytes, this many
pub record IsWritten {W : Type 0} (calls : W → Calls) (old : W) (bytes : List ℕ) (new : W) (count : ℕ) : Type 0 where
  pub count_is : count ≡ length bytes
  pub took : TakesAll (calls old) bytes (calls new)

-- it failed after it took a prefix of the bytes, as long as the refusal's place says
pub record IsCutOff {W : Type 0} (calls : W → Calls) (old : W) (bytes : List ℕ) (new : W) (refusal : Refusal) : Type 0 where
  pub reason : refusal.why ≡ NotWritten
  pub front : List ℕ
  pub back : List ℕ
  pub joined : bytes ≡ front ++ back
  pub took : FailsAfter (calls old) front (calls new)
  pub place : refusal.at ≡ length front
