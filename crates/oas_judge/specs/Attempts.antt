-- What reading a source as a canonical file does.
use Rattle.std.specs.Prelude.{◌≡◌, ℕ, ◌≤◌, Option, None, Some, IfSome}
use Rattle.oas_num.specs.Script.{Script, Consumed}
use Rattle.oas_elements.specs.declared.limits.Limits.{Limits}
use Rattle.oas_elements.specs.declared.profile.Profile.{Profile}
use Rattle.oas_judge.specs.declared.attempts.Attempt.{Attempt}
use Rattle.oas_judge.specs.declared.attempts.Attempt.TheVariants.{Canonical, Taken}
use Rattle.oas_judge.specs.Given.{IsGiven}

-- all that it gave is a canonical form, or these bytes were taken, or memory ran out for them
abbrev pub ReadsCanonical : Limits → Profile → Script → Option Attempt → Script → Type 0
ReadsCanonical limits profile old None new = Unit {0}
ReadsCanonical limits profile old (Some (Canonical bytes)) new = IsGiven limits profile old bytes.items new
ReadsCanonical limits profile old (Some (Taken bytes)) new = Consumed old bytes.items new

-- ---- what was taken, once more

-- It gives what the other gives from there on: as many bytes before it, and the same ones after it, where these are known. Its
-- limit may be larger.
pub record GivesAgain (old again : Script) : Type 0 where
  pub history : again.history ≡ old.history
  pub given : again.given ≡ old.given
  pub limit : old.limit ≤ again.limit
  pub reliable : again.reliable ≡ old.reliable
  pub rest : IfSome old.rest (λ rest. again.rest ≡ Some rest)
