-- How a run ends: what was read and written, its status, and what it puts on its error output.
use Rattle.oas_num.specs.Devices.{Calls}
use Rattle.std.specs.Prelude.{◌≡◌, ℕ, List, Option, Result, Ok, Err, IfOk, IfErr, ◌⊎◌}
use Rattle.oas_num.specs.declared.refusals.Why.TheVariants.{Write as NotWritten}
use Rattle.oas_num.specs.Script.{Script}
use Rattle.oas_elements.specs.declared.limits.Limits.{Limits}
use Rattle.oas_explain.specs.ProfileConstants.{PROFILE}
use Rattle.oas_prepare.specs.WideWhy.TheVariants.{Profile as ByProfile}
use Rattle.oas_prepare.specs.NarrowDropping.{Dropping}
use Rattle.oas_prepare.specs.Report.{Report}
use Rattle.oas_prepare.specs.Rejection.{Rejection}
use Rattle.oas_prepare.specs.Dropping.{nothing_left_out}
use Rattle.oas_prepare.specs.Reasons.{IsReasoned}
use Rattle.oas_prepare.specs.Run.{IsDone, IsCut, IsStopped, IsPlaced, Exactly}
use Rattle.oas_explain.specs.Runs.{Tells}
use Rattle.oas_preparing.specs.Lines.{report_line, rejection_line}

-- `prepare`: all was read, and the canonical file of what its records are translated to was written; or it stops, at a place
-- and for a reason that the bytes taken decide, and nothing was written; or the writer failed, and took a prefix of the
-- canonical file. It stops exactly where the file isn't prepared.
pub record Prepares {W : Type 0} (calls : W → Calls) (limits : Limits) (dropping : Dropping) (old : Script) (before : W) (answer : Result Report Rejection) (new : Script) (after : W) : Type 0 where
  pub done : IfOk answer (λ report. IsDone limits PROFILE dropping old new (calls before) (calls after) report)
  pub stopped : IfErr answer (λ e. (e.why ≡ ByProfile NotWritten) ⊎ IsStopped limits dropping old e.why new)
  pub placed : IfErr answer (λ e. (e.why ≡ ByProfile NotWritten) ⊎ IsPlaced limits dropping old e new)
  pub reasoned : IfErr answer (λ e. (e.why ≡ ByProfile NotWritten) ⊎ IsReasoned limits dropping old e new)
  pub nothing : IfErr answer (λ e. (e.why ≡ ByProfile NotWritten) ⊎ (after ≡ before))
  pub cut : IfErr answer (λ e. e.why ≡ ByProfile NotWritten → IsCut limits PROFILE dropping old new (calls before) (calls after) e)
  pub exactly : Exactly limits dropping old answer new

-- 0 after a result, 1 after a rejection
abbrev pub status_of : Result Report Rejection → ℕ
status_of (Ok report) = 0
status_of (Err rejection) = 1

-- the line of what was left out, and the line of a rejection
abbrev pub said : List ℕ → Result Report Rejection → List ℕ
said name (Ok report) = report_line name report
said name (Err rejection) = rejection_line name rejection

-- that line was put; where nothing was left out the sink is unchanged
abbrev pub Ends : {K : Type 0} → (K → List ℕ → K → Type 0) → (K → ℕ) → List ℕ → K → Result Report Rejection → K → Type 0
Ends given failures name old (Ok report) new = Tells given failures old (report_line name report) new × (report ≡ nothing_left_out → new ≡ old)
Ends given failures name old (Err rejection) new = Tells given failures old (rejection_line name rejection) new
