-- Whether a file is the canonical file that it is prepared to: what is found, and how the run ends.
use Rattle.std.specs.Prelude.{◌≡◌, ◌↔◌, ℕ, ◌-◌, Bool, List, Result, Ok, Err, IfOk, IfErr, IsTrue}
use Rattle.oas_num.specs.declared.refusals.Why.TheVariants.{Memory}
use Rattle.oas_num.specs.Script.{Script}
use Rattle.oas_elements.specs.declared.limits.Limits.{Limits}
use Rattle.oas_explain.specs.Label.{Label}
use Rattle.oas_explain.specs.Lines.{named_check_line}
use Rattle.oas_explain.specs.Runs.{verdict_status}
use Rattle.oas_explain.specs.ProfileConstants.{PROFILE}
use Rattle.oas_prepare.specs.NarrowDropping.{Dropping}
use Rattle.oas_prepare.specs.Report.{Report}
use Rattle.oas_prepare.specs.Rejection.{Rejection}
use Rattle.oas_prepare.specs.Rejections.{refused}
use Rattle.oas_prepare.specs.Run.{IsTaken, Stops, Exactly}
use Rattle.oas_preparing.specs.Answers.{reported}

-- ---- what is found

-- a file was taken that is prepared, and this is whether its bytes are the canonical file that it is prepared to
pub record IsChecked (limits : Limits) (dropping : Dropping) (old new : Script) (answer : Bool) (report : Report) : Type 0 where
  pub canonical : List ℕ
  pub taken : IsTaken limits PROFILE dropping old new canonical report
  pub equal : IsTrue answer ↔ (taken.bytes ≡ canonical)

-- `prepared_check`: all was read, and the result is whether it is the canonical file that `prepare` writes for it, and what is
-- left out; or it stops as `prepare` does. It stops exactly where the file isn't prepared.
pub record ChecksPrepared (limits : Limits) (dropping : Dropping) (old : Script) (found : Result (Bool × Report) Rejection) (new : Script) : Type 0 where
  pub checked : IfOk found (λ both. IsChecked limits dropping old new both.0 both.1)
  pub stopped : IfErr found (λ e. Stops limits dropping old e new)
  pub exactly : Exactly limits dropping old (reported found) new

-- out of memory at END, which is the last 256 bytes of a file
abbrev pub unkept : ℕ → Rejection
unkept length = refused (record { at = length - 256; why = Memory })

-- ---- how the run ends

-- NAME: canonical, or NAME: not canonical
abbrev pub check_text : Label → Bool × Report → List ℕ
check_text label found = named_check_line label found.0

-- 0 for a file that is canonical, 3 for another, 1 after a rejection
abbrev pub check_status : Result (Bool × Report) Rejection → ℕ
check_status (Ok found) = verdict_status (Ok found.0)
check_status (Err rejection) = 1
