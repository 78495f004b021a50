-- What a reader's source gave, and what it will give.
use Rattle.std.specs.Prelude.{◌≡◌, ℕ, ◌+◌, ◌-◌, min, ◌<◌, ◌≤◌, false, List, ◌++◌, length, take, drop, Option, Some, None, Result, Ok, Err, nat_lt, slice_range}
use Rattle.oas_bytes.specs.declared.sources.SourceFault.{SourceFault}
use Rattle.oas_bytes.specs.declared.sources.SourceFault.TheVariants.{Device, TooLong}
use Rattle.oas_bytes.specs.declared.readers.Ending.{Ending}
use Rattle.oas_bytes.specs.declared.readers.Ending.TheVariants as endings
use Rattle.oas_bytes.specs.Script.{Script, Rest, IsAtEnd, HasFailed, IsTooLong}

-- of the bytes that are left, as many may be given as there is room
abbrev pub rest_of : List ℕ → ℕ → Rest
rest_of left room = record { bytes = take room left; goes_on = nat_lt room (length left) }

-- what the window has, and then what the reader has
abbrev pub rest_from : Option (List ℕ) → List ℕ → ℕ → Option Rest
rest_from None held room = None
rest_from (Some known) held room = Some (rest_of (held ++ known) room)

-- what every call returns once an ending is found
abbrev pub settled_by : Ending → Option (Result (Option ℕ) SourceFault)
settled_by endings.Open = None
settled_by endings.Ended = Some (Ok None)
settled_by endings.Failed = Some (Err Device)
settled_by endings.TooLong = Some (Err TooLong)

-- how often the reader failed: it is not called again
abbrev pub failures_by : Ending → ℕ
failures_by endings.Failed = 1
failures_by _ = 0

-- A reader's source. It gave the first of those bytes that the calls of `read` returned; it is still to give what the window
-- holds from start to end, then what the reader has left, in order, however the reader cuts it. Any reader may fail.
abbrev pub reader_script : Option (List ℕ) → List ℕ → List ℕ → ℕ → ℕ → ℕ → ℕ → Ending → Script
reader_script known returned window start end at limit ending = record {
  history = take at returned;
  given = at;
  limit = limit;
  reliable = false;
  failures = failures_by ending;
  rest = rest_from known (slice_range window start end) (limit - at);
  settled = settled_by ending;
}

-- what contracts see of a reader's source: its script, the bytes of the window that may be given, and those that the calls of
-- `read` returned
pub record Reading : Type 0 where
  pub script : Script
  pub at_hand : List ℕ
  pub returned : List ℕ

-- the ending is as it was found
abbrev pub EndsSo : Ending → Script → Type 0
EndsSo endings.Open s = Unit {0}
EndsSo endings.Ended s = IsAtEnd s
EndsSo endings.Failed s = HasFailed s
EndsSo endings.TooLong s = IsTooLong s

-- once the ending is found no byte waits to be given
abbrev pub WaitsOnly : Ending → ℕ → ℕ → Type 0
WaitsOnly endings.Open start end = Unit {0}
WaitsOnly endings.Ended start end = end ≤ start
WaitsOnly endings.Failed start end = end ≤ start
WaitsOnly endings.TooLong start end = end ≤ start

-- what holds for every reader's source: of the window's bytes, which end at `filled`, those before `end` may be given
pub record IsSoundReader (known : Option (List ℕ)) (returned window : List ℕ) (start end filled before limit : ℕ) (ending : Ending) : Type 0 where
  pub ordered : start ≤ end
  pub within : filled ≤ length window
  pub some : 0 < length window
  pub below : before + start ≤ limit
  pub under : end ≡ min filled (limit - before)
  pub counted : length returned ≡ before + filled
  pub behind : drop (before + start) returned ≡ slice_range window start filled
  pub waits : WaitsOnly ending start end
  pub ends : EndsSo ending (reader_script known returned window start filled (before + start) limit ending)
