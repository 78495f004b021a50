-- What the error output has once an outlet before it was given the line of a run.
use Rattle.oas_num.specs.Devices.{Calls}
use Rattle.std.proofs.Common.{ℕ, List, Option, Result, Ok, Err, MutBor}
use Rattle.oas_num.specs.Outlet.{Outlet}
use Rattle.oas_num.specs.Outlets.{Opens, IsGiven, failures_of}
use Rattle.oas_prepare.specs.Report.{Report}
use Rattle.oas_prepare.specs.Rejection.{Rejection}
use Rattle.oas_explain.proofs.MessageLemmas.{GivenLine, told}
use Rattle.oas_preparing.specs.Lines.{report_line, rejection_line}
use Rattle.oas_preparing.specs.Runs.{said, Ends}

module _ {W : Type 0} (calls : W → Calls) (writer : MutBor W) where
  pub ended : (o now : Outlet W) (name : List ℕ) (answer : Result Report Rejection) → Opens writer o → Ends (IsGiven calls) failures_of name o answer now →
      GivenLine calls writer o (said name answer) now
  ended o now name (Ok report) opens ends = told calls writer o now (report_line name report) opens ends.0
  ended o now name (Err rejection) opens tells = told calls writer o now (rejection_line name rejection) opens tells
