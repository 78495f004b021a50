-- Questions about what a file is prepared to: what each call finds, and how its run ends.
use Rattle.std.specs.Prelude.{◌≡◌, ℕ, List, Option, Result, Ok, Err, IfOk, IfErr}
use Rattle.oas_num.specs.Devices.{Calls, TakesAll}
use Rattle.sha2.specs.Sha256.{sha256}
use Rattle.oas_num.specs.declared.refusals.Refusal.{Refusal}
use Rattle.oas_num.specs.Script.{Script}
use Rattle.oas_num.specs.Written.{IsCutOff}
use Rattle.oas_elements.specs.declared.limits.Limits.{Limits}
use Rattle.oas_explain.specs.Label.{Label}
use Rattle.oas_explain.specs.Lines.{named_key_line}
use Rattle.oas_explain.specs.ProfileConstants.{PROFILE}
use Rattle.oas_prepare.specs.NarrowDropping.{Dropping}
use Rattle.oas_prepare.specs.Report.{Report}
use Rattle.oas_prepare.specs.Rejection.{Rejection}
use Rattle.oas_prepare.specs.Rejections.{refused}
use Rattle.oas_prepare.specs.Run.{IsTaken, Stops, Exactly}

-- ---- how a run ends

-- what was left out, or the rejection
abbrev pub reported : {T : Type 0} → Result (T × Report) Rejection → Result Report Rejection
reported (Ok both) = Ok both.1
reported (Err rejection) = Err rejection

-- what was found where its text was written, or why that was not
abbrev pub answered : {T : Type 0} → T → Result ℕ Refusal → Result T Rejection
answered found (Ok count) = Ok found
answered found (Err refusal) = Err (refused refusal)

-- the writer failed, and took a prefix of the text, as long as the rejection's place says
pub record IsUndelivered {W : Type 0} (calls : W → Calls) (before : W) (text : List ℕ) (after : W) (rejection : Rejection) : Type 0 where
  pub refusal : Refusal
  pub is : rejection ≡ refused refusal
  pub cut : IsCutOff calls before text after refusal

-- The text of what was found was written, or the writer failed after a prefix of it. Where nothing was found nothing was
-- written.
abbrev pub Delivers : {T W : Type 0} → (W → Calls) → (T → List ℕ) → W → Result T Rejection → Result T Rejection → W → Type 0
Delivers calls text before (Ok found) (Ok answer) after = (answer ≡ found) × TakesAll (calls before) (text found) (calls after)
Delivers calls text before (Ok found) (Err rejection) after = IsUndelivered calls before (text found) after rejection
Delivers calls text before (Err rejection) answer after = (answer ≡ Err rejection) × (after ≡ before)

-- ---- its key

-- KEY  NAME
abbrev pub key_text : Label → List ℕ × Report → List ℕ
key_text label found = named_key_line label found.0

-- a file was taken that is prepared, and this is the SHA-256 of the canonical file that it is prepared to
pub record IsKeyed (limits : Limits) (dropping : Dropping) (old new : Script) (digest : List ℕ) (report : Report) : Type 0 where
  pub canonical : List ℕ
  pub taken : IsTaken limits PROFILE dropping old new canonical report
  pub hashed : digest ≡ sha256 canonical

-- `prepared_key`: all was read, and the result is the SHA-256 of the canonical file that `prepare` writes for it, and what is
-- left out; or it stops as `prepare` does. It stops exactly where the file isn't prepared.
pub record KeysPrepared (limits : Limits) (dropping : Dropping) (old : Script) (found : Result (List ℕ × Report) Rejection) (new : Script) : Type 0 where
  pub keyed : IfOk found (λ both. IsKeyed limits dropping old new both.0 both.1)
  pub stopped : IfErr found (λ e. Stops limits dropping old e new)
  pub exactly : Exactly limits dropping old (reported found) new
