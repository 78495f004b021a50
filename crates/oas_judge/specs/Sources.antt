-- A source whose bytes are kept, and one that gives such bytes once more before it goes on.
use Rattle.std.specs.Prelude.{◌≡◌, ℕ, ◌+◌, ◌-◌, ◌<◌, ◌≤◌, max, Bool, false, IsTrue, List, [], ◌∷◌, ◌++◌, length, take, Option, None, Some, IfSome, if◌then◌else◌}
use Rattle.std.proofs.Props.{props}
use base.Fml.{GName}
use Rattle.oas_num.specs.Script.{Script, Rest, since, Consumed, Consumed-prop}

-- The source is the one that was handed in, and these are all bytes that it gave since then, where there was memory for them.
pub record IsKept (start : Script) (name same : GName) (now : Script) (first : ℕ) (kept : Option (List ℕ)) : Type 0 where
  pub same_source : same ≡ name
  pub takes : Consumed start (since start now) now
  pub begins : first ≡ start.given
  pub all : IfSome kept (λ bytes. bytes ≡ since start now)

-- ---- what was kept, and then the source

-- the bytes that are left of what was kept come before those that are still to be given
abbrev pub with_left : List ℕ → Option Rest → Option Rest
with_left left None = None
with_left left (Some rest) = Some (record { bytes = left ++ rest.bytes; goes_on = rest.goes_on })

-- It gave all that the source gave, but for what is left. It has an answer for every call only once the source was asked.
abbrev pub joined_script : Script → List ℕ → Bool → ℕ → Script
joined_script now left asked limit = record {
  history = take (length now.history - length left) now.history;
  given = now.given - length left;
  limit = limit;
  reliable = now.reliable;
  failures = now.failures;
  rest = with_left left now.rest;
  settled = if asked then now.settled else None;
}

-- no less than the source's limit, and room for what was kept
abbrev pub limit_with : Script → List ℕ → ℕ
limit_with start kept = max start.limit (start.given + length kept)

-- what is left is at hand, or else what the source has at hand
abbrev pub hand_of : List ℕ → List ℕ → List ℕ
hand_of [] source = source
hand_of (x ∷ xs) source = x ∷ xs

-- The source and what was kept are those that were handed in, and the source gave what was kept first. As long as some of
-- that is left to be given once more it gave just that.
pub record IsJoined (start : Script) (whole : List ℕ) (name same : GName) (now : Script) (kept : List ℕ) (at : ℕ) (asked : Bool) : Type 0 where
  pub same_source : same ≡ name
  pub same_kept : kept ≡ whole
  pub takes : Consumed start (since start now) now
  pub few : at ≤ length kept
  pub past : start.given + length kept ≤ now.given
  pub waits : at < length kept → Consumed start kept now × (asked ≡ false)
  pub within : IsTrue asked → now.given ≤ now.limit

-- ---- each of these has at most one proof

All-prop : (kept : Option (List ℕ)) (bytes : List ℕ) → IsProp (IfSome kept (λ all. all ≡ bytes))
All-prop None bytes = Prim.hlevel props
All-prop (Some all) bytes = Prim.hlevel props

pub IsKept-prop : (start : Script) (name same : GName) (now : Script) (first : ℕ) (kept : Option (List ℕ)) → IsProp (IsKept start name same now first kept)
IsKept-prop start name same now first kept = Prim.hlevel (Consumed-prop, All-prop, props)

pub IsJoined-prop : (start : Script) (whole : List ℕ) (name same : GName) (now : Script) (kept : List ℕ) (at : ℕ) (asked : Bool) → IsProp (IsJoined start whole name same now kept at asked)
IsJoined-prop start whole name same now kept at asked = Prim.hlevel (Consumed-prop, props)
