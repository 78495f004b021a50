-- A file that is judged as it is read, so that a canonical one isn't read by the standard.
use Rattle.std.specs.Prelude.{◌≡◌, Option, None, Some, Result, Ok, Err}
use Rattle.oas_num.specs.Script.{Script}
use Rattle.oas_elements.specs.declared.limits.Limits.{Limits}
use Rattle.oas_explain.specs.ProfileConstants.{PROFILE}
use Rattle.oas_prepare.specs.Dropping.{nothing_left_out}
use Rattle.oas_prepare.specs.Finishing.{IsReadPrepared}
use Rattle.oas_prepare.specs.Attempts.{GivesAgain}
use Rattle.oas_prepare.specs.NarrowDropping.{Dropping}
use Rattle.oas_prepare.specs.ReadGiven.{IsGiven}
use Rattle.oas_prepare.specs.Rejection.{Rejection}
use Rattle.oas_prepare.specs.Report.{Report}
use Rattle.oas_prepare.specs.Run.{Stops}
use Rattle.oas_prepare.specs.TheGiven.{Given}
use Rattle.oas_prepare.specs.TheGiven.TheVariants.{Canonical, Layout}

-- something is so of a source that gives what this one gives
pub record OfAgain (old : Script) (run : Script → Script → Type 0) : Type 0 where
  pub again : Script
  pub last : Script
  pub gives : GivesAgain old again
  pub ran : run again last

-- and has a result; out of memory for the file's bytes there is none
abbrev pub OnAgain : {A : Type 0} → Script → (Script → A → Script → Type 0) → Option A → Type 0
OnAgain old run None = Unit {0}
OnAgain old run (Some result) = OfAgain old (λ again last. run again result last)

-- all that was given is a canonical file, of which nothing is left out, or was read by the standard; or it isn't prepared
abbrev pub ReadsJudged : Limits → Dropping → Script → Result (Given × Report) Rejection → Script → Type 0
ReadsJudged limits dropping old (Ok (Canonical bytes, report)) new = IsGiven limits PROFILE old bytes.items new × (report ≡ nothing_left_out)
ReadsJudged limits dropping old (Ok (Layout l, report)) new = IsReadPrepared limits PROFILE dropping old l report new
ReadsJudged limits dropping old (Err e) new = Stops limits dropping old e new
