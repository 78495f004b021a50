-- What re-keying does: the canonical form by profile one becomes that by profile two.
use Rattle.std.specs.Prelude.{◌≡◌, ℕ, List, length, Option, None, Some}
use Rattle.oas_num.specs.Devices.{Calls, TakesAll}
use Rattle.oas_num.specs.Script.{Script, Rest}
use Rattle.oas_elements.specs.declared.limits.Limits.{Limits}
use Rattle.oas_elements.specs.declared.profile.Profile.TheVariants.{One, Two}
use Rattle.oas_judge.specs.Canonical.{CanonicalForm}
use Rattle.oas_canon.specs.declared.rekeying.Rekeyed.{Rekeyed}
use Rattle.oas_canon.specs.declared.rekeying.Rekeyed.TheVariants.{Done, NotProfile1}
use Rattle.oas_canon.specs.Run.{IsTaken, IsDone, IsCut}

-- a canonical file by profile one was taken, and its canonical form by profile two was written, with this many bytes
pub record IsRekeyed (limits : Limits) (old new : Script) (before after : Calls) (n : ℕ) : Type 0 where
  pub done : IsDone limits Two old new before after n
  pub own : CanonicalForm limits One done.bytes

-- the same, and the writer failed after it took this many bytes
pub record IsRekeyedInPart (limits : Limits) (old new : Script) (before after : Calls) (at : ℕ) : Type 0 where
  pub cut : IsCut limits Two old new before after at
  pub own : CanonicalForm limits One cut.bytes

-- a file was taken that is no canonical form by profile one
pub record IsOther (limits : Limits) (old new : Script) : Type 0 where
  pub bytes : List ℕ
  pub taken : IsTaken limits old bytes new
  pub other : CanonicalForm limits One bytes → ⊥

abbrev pub Rekeys : Limits → Script → Script → Calls → Calls → Rekeyed → Type 0
Rekeys limits old new before after (Done n) = IsRekeyed limits old new before after n
Rekeys limits old new before after NotProfile1 = IsOther limits old new

-- for known bytes: a canonical form by profile two is written unchanged
abbrev pub StaysSo : Limits → Option Rest → Calls → Calls → Rekeyed → Type 0
StaysSo limits None before after rekeyed = Unit {0}
StaysSo limits (Some rest) before after rekeyed = CanonicalForm limits Two rest.bytes → (rekeyed ≡ Done (length rest.bytes)) × TakesAll before rest.bytes after
