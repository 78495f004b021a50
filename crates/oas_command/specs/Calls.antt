-- What the calls that a run makes promise for their results, clause by clause, each for one or two sources.
use Rattle.oas_num.specs.Devices.{Calls}
use Rattle.std.specs.Prelude.{◌≡◌, ℕ, Bool, List, Option, Result, IfOk, IfErr, ◌⊎◌}
use Rattle.oas_num.specs.declared.refusals.Refusal.{Refusal}
use Rattle.oas_num.specs.declared.refusals.Why.TheVariants.{Write}
use Rattle.oas_num.specs.Script.{Script}
use Rattle.oas_elements.specs.declared.limits.Limits.{Limits}
use Rattle.oas_canon.specs.Deciding.{HasNoMemory, IsReasoned}
use Rattle.oas_canon.specs.Reading.{IsRefused, IsPlaced, Refuses}
use Rattle.oas_canon.specs.declared.profile.TheConstants.{PROFILE}
use Rattle.oas_canon.specs.declared.rekeying.Rekeyed.{Rekeyed}
use Rattle.oas_canon.specs.declared.rekeying.Rekeyed.TheVariants.{NotProfile1}
use Rattle.oas_canon.specs.declared.sameness.Which.{Which}
use Rattle.oas_canon.specs.declared.sameness.Which.TheVariants.{First, Second}
use Rattle.oas_canon.specs.Rekeying.{Rekeys, IsRekeyedInPart, StaysSo}
use Rattle.oas_canon.specs.Run.{IsTaken, IsDone, IsCut, IsJudged, IsKeyed, IsCompared, Exactly, ExactlyBoth}

-- `canonicalize`: all was read, and the canonical file of it was written; or it is refused, at an offset and for a reason
-- that the bytes taken decide, and nothing was written; or the writer failed, and took a prefix of the canonical file. It is
-- refused exactly where it isn't accepted.
pub record Canonicalizes {W : Type 0} (calls : W → Calls) (limits : Limits) (old : Script) (before : W) (answer : Result ℕ Refusal) (new : Script) (after : W) : Type 0 where
  pub done : IfOk answer (λ n. IsDone limits PROFILE old new (calls before) (calls after) n)
  pub refused : IfErr answer (λ refusal. (refusal.why ≡ Write) ⊎ IsRefused limits old refusal.why new)
  pub placed : IfErr answer (λ refusal. (refusal.why ≡ Write) ⊎ IsPlaced limits old refusal new)
  pub decided : IfErr answer (λ refusal. (refusal.why ≡ Write) ⊎ IsReasoned limits old refusal new)
  pub nothing : IfErr answer (λ refusal. (refusal.why ≡ Write) ⊎ (after ≡ before))
  pub cut : IfErr answer (λ refusal. refusal.why ≡ Write → IsCut limits PROFILE old new (calls before) (calls after) refusal.at)
  pub exactly : Exactly limits old answer new

-- `is_canonical`: all was read, and the result is whether it is canonical; or it is refused, as above or out of memory at the
-- current part. It is refused exactly where it isn't accepted.
pub record Judges (limits : Limits) (old : Script) (found : Result Bool Refusal) (new : Script) : Type 0 where
  pub judged : IfOk found (λ yes. IsJudged limits PROFILE old new yes)
  pub refused : IfErr found (λ refusal. IsRefused limits old refusal.why new)
  pub placed : IfErr found (λ refusal. IsPlaced limits old refusal new)
  pub decided : IfErr found (λ refusal. HasNoMemory limits old refusal new ⊎ IsReasoned limits old refusal new)
  pub exactly : Exactly limits old found new

-- `key`: all was read, and the result is the SHA-256 of its canonical file; or it is refused, as above. It is refused exactly
-- where it isn't accepted.
pub record Keys (limits : Limits) (old : Script) (found : Result (List ℕ) Refusal) (new : Script) : Type 0 where
  pub keyed : IfOk found (λ digest. IsKeyed limits PROFILE old new digest)
  pub refused : IfErr found (λ refusal. IsRefused limits old refusal.why new)
  pub placed : IfErr found (λ refusal. IsPlaced limits old refusal new)
  pub decided : IfErr found (λ refusal. IsReasoned limits old refusal new)
  pub exactly : Exactly limits old found new

-- `same_files`: both were read, the second after the first, and the result is whether they mean the same layout; or the first
-- is refused, and nothing of the second is read; or all of the first was read, and the second is refused. They are refused
-- exactly where they aren't accepted.
pub record Compares {T : Type 0} (script : T → Script) (limits : Limits) (old new : Script) (before after : T) (found : Result Bool (Which × Refusal)) : Type 0 where
  pub compared : IfOk found (λ same. IsCompared limits PROFILE old new (script before) (script after) same)
  pub first : IfErr found (λ e. e.0 ≡ First → Refuses limits old e.1 new × (after ≡ before))
  pub second : IfErr found (λ e. e.0 ≡ Second → ((bytes : List ℕ) × IsTaken limits old bytes new) × Refuses limits (script before) e.1 (script after))
  pub exactly : ExactlyBoth limits old new (script before) (script after) found

-- `rekey`: all was read, which is canonical by profile one, and its canonical file by profile two was written, unchanged
-- where it was that already; or it isn't canonical by profile one, and nothing was written; or it is refused, as above, and
-- nothing was written; or the writer failed, and took a prefix of the canonical file by profile two. It is refused exactly
-- where it isn't accepted.
pub record RekeysFile {W : Type 0} (calls : W → Calls) (limits : Limits) (old : Script) (before : W) (answer : Result Rekeyed Refusal) (new : Script) (after : W) : Type 0 where
  pub rekeyed : IfOk answer (λ rekeyed. Rekeys limits old new (calls before) (calls after) rekeyed)
  pub again : IfOk answer (λ rekeyed. StaysSo limits old.rest (calls before) (calls after) rekeyed)
  pub unwritten : IfOk answer (λ rekeyed. rekeyed ≡ NotProfile1 → after ≡ before)
  pub refused : IfErr answer (λ refusal. (refusal.why ≡ Write) ⊎ IsRefused limits old refusal.why new)
  pub placed : IfErr answer (λ refusal. (refusal.why ≡ Write) ⊎ IsPlaced limits old refusal new)
  pub decided : IfErr answer (λ refusal. (refusal.why ≡ Write) ⊎ (HasNoMemory limits old refusal new ⊎ IsReasoned limits old refusal new))
  pub nothing : IfErr answer (λ refusal. (refusal.why ≡ Write) ⊎ (after ≡ before))
  pub cut : IfErr answer (λ refusal. refusal.why ≡ Write → IsRekeyedInPart limits old new (calls before) (calls after) refusal.at)
  pub exactly : Exactly limits old answer new
