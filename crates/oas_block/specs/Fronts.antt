-- The script of a source that gives a fixed number of another source's next bytes.
use Rattle.std.specs.Prelude.{◌≡◌, ℕ, zero, suc, ◌+◌, ◌≤◌, Bool, false, List, [], ◌∷◌, length, take, Option, None, Some, Result, Ok}
use Rattle.std.proofs.Props.{props}
use base.Fml.{GName}
use Rattle.oas_num.specs.SourceFault.{SourceFault}
use Rattle.oas_num.specs.Script.{Script, Rest, since, Consumed, Consumed-prop}

-- whether a byte follows these, where they are fewer than this many
abbrev pub goes_on_in : ℕ → List ℕ → Bool → Bool
goes_on_in zero bytes goes_on = false
goes_on_in (suc left) [] goes_on = goes_on
goes_on_in (suc left) (b ∷ bytes) goes_on = goes_on_in left bytes goes_on

-- this many of the bytes that are still to be given, where they are known
abbrev pub front_rest : ℕ → Option Rest → Option Rest
front_rest left None = None
front_rest left (Some rest) = Some (record { bytes = take left rest.bytes; goes_on = goes_on_in left rest.bytes rest.goes_on })

-- none is left, or what the source returns
abbrev pub settled_in : ℕ → Option (Result (Option ℕ) SourceFault) → Option (Result (Option ℕ) SourceFault)
settled_in zero settled = Some (Ok None)
settled_in (suc left) settled = settled

-- after the last of them the bytes have ended, and before it the source decides
abbrev pub prefix_script : Script → ℕ → Script
prefix_script s left = record {
  history = s.history;
  given = s.given;
  limit = s.limit;
  reliable = s.reliable;
  failures = s.failures;
  rest = front_rest left s.rest;
  settled = settled_in left s.settled;
}

-- The source is the one that was handed in, and of this many bytes it gave all except these since then.
pub record IsFront (start : Script) (name : GName) (count : ℕ) (same : GName) (now : Script) (left : ℕ) : Type 0 where
  pub same_source : same ≡ name
  pub takes : Consumed start (since start now) now
  pub counted : length (since start now) + left ≡ count
  pub within : left ≡ 0 → now.given ≤ now.limit

-- ---- it has one proof at most

pub IsFront-prop : (start : Script) (name : GName) (count : ℕ) (same : GName) (now : Script) (left : ℕ) → IsProp (IsFront start name count same now left)
IsFront-prop start name count same now left = Prim.hlevel (Consumed-prop, props)
