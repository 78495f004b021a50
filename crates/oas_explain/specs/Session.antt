-- What holds for all runs of a command line.
use Rattle.std.specs.Prelude.{◌≡◌, ◌^◌, Bool, true, false}
use Rattle.oas_elements.specs.Limits.{AreLimits}
use Rattle.oas_explain.specs.declared.session.Session.{Session}

-- the limits of `--large`, or those without it; refusals are explained and progress is shown where that is asked for
pub record HoldsFor (is_large explains shows_progress : Bool) (session : Session) : Type 0 where
  pub large : is_large ≡ true → AreLimits session.limits (2 ^ 26) (2 ^ 30) (2 ^ 38)
  pub standard : is_large ≡ false → AreLimits session.limits (2 ^ 24) (2 ^ 28) (2 ^ 36)
  pub explained : explains ≡ true → session.explains ≡ true
  pub shown : session.shows_progress ≡ shows_progress
