-- The script of a source whose integers are shortened.
use Rattle.std.specs.Prelude.{◌≡◌, ℕ, ◌+◌, ◌-◌, ◌^◌, ◌<◌, ◌≤◌, false, [], ◌++◌, Option, None, Some, Result, Ok, Err}
use Rattle.std.proofs.Props.{props}
use base.Fml.{GName}
use Rattle.oas_bytes.specs.declared.sources.SourceFault.{SourceFault}
use Rattle.oas_bytes.specs.declared.sources.SourceFault.TheVariants.{Device, TooLong}
use Rattle.oas_bytes.specs.declared.readers.Ending.{Ending}
use Rattle.oas_bytes.specs.declared.readers.Ending.TheVariants as ending_of
use Rattle.oas_bytes.specs.Script.{Script, Rest, since, Consumed, IsAtEnd, HasFailed, IsTooLong, Next, Consumed-prop, IsAtEnd-prop, HasFailed-prop, IsTooLong-prop}
use Rattle.oas_long_integers.specs.declared.places.Place.{Place}
use Rattle.oas_long_integers.specs.Places.{shortened, after}

-- what will still be given, where that is known
abbrev pub short_rest : Place → Option Rest → Option Rest
short_rest place None = None
short_rest place (Some rest) = Some (record { bytes = shortened place rest.bytes; goes_on = false })

-- A fault of either kind is given as one of the device: a source that gives fewer bytes doesn't reach its limit.
abbrev pub short_settled : Ending → Option (Result (Option ℕ) SourceFault)
short_settled ending_of.Open = None
short_settled ending_of.Ended = Some (Ok None)
short_settled ending_of.Failed = Some (Err Device)
short_settled ending_of.TooLong = Some (Err Device)

-- What is given is what was given before, and then the bytes of the source since then in their shortened form: as many as the
-- source gave, less those that were kept back.
abbrev pub short_script : Script → Place → Script → Place → ℕ → Ending → Script
short_script start first s place kept ending = record {
  history = start.history ++ shortened first (since start s);
  given = s.given - kept;
  limit = s.limit;
  reliable = false;
  failures = s.failures + 1;
  rest = short_rest place s.rest;
  settled = short_settled ending;
}

-- the source ended like this
abbrev pub IsEnding : Ending → Script → Type 0
IsEnding ending_of.Open now = Unit {0}
IsEnding ending_of.Ended now = IsAtEnd now
IsEnding ending_of.Failed now = HasFailed now
IsEnding ending_of.TooLong now = IsTooLong now

-- how it ended where it returns this
abbrev pub ending_by : SourceFault → Ending
ending_by Device = ending_of.Failed
ending_by TooLong = ending_of.TooLong

-- The source is the one that was handed in, and is after bytes of which this many were kept back.
pub record IsShortened (start : Script) (name : GName) (first : Place) (same : GName) (now : Script) (place : Place) (kept : ℕ) (ending : Ending) : Type 0 where
  pub same_source : same ≡ name
  pub takes : Consumed start (since start now) now
  pub stands : place ≡ after first (since start now)
  pub fewer : start.given + kept ≤ now.given
  pub ended : IsEnding ending now

-- ---- a byte of the source

-- a byte was taken for which nothing is given
pub record Silent (old new : Script) : Type 0 where
  pub unsettled : old.settled ≡ None
  pub takes : Consumed old [] new

-- the result of one byte: its shortened form is given, or nothing for it
abbrev pub Steps : Script → Result (Option (Option ℕ)) SourceFault → Script → Type 0
Steps old (Ok (Some (Some byte))) new = Next old (Ok (Some byte)) new
Steps old (Ok (Some None)) new = Silent old new
Steps old (Ok None) new = Next old (Ok None) new
Steps old (Err fault) new = Next old (Err fault) new

-- how many bytes were kept back then
abbrev pub Counts : ℕ → Result (Option (Option ℕ)) SourceFault → ℕ → Type 0
Counts old (Ok (Some None)) new = (new ≡ old + 1) × (new < 2 ^ 64)
Counts old _ new = new ≡ old

-- ---- each of these has at most one proof

IsEnding-prop : (ending : Ending) (now : Script) → IsProp (IsEnding ending now)
IsEnding-prop ending_of.Open now = Prim.hlevel props
IsEnding-prop ending_of.Ended now = IsAtEnd-prop now
IsEnding-prop ending_of.Failed now = HasFailed-prop now
IsEnding-prop ending_of.TooLong now = IsTooLong-prop now

pub IsShortened-prop : (start : Script) (name : GName) (first : Place) (same : GName) (now : Script) (place : Place) (kept : ℕ) (ending : Ending) → IsProp (IsShortened start name first same now place kept ending)
IsShortened-prop start name first same now place kept ending = Prim.hlevel (Consumed-prop, IsEnding-prop, props)
