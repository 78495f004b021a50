-- What a source gave, and what it is still to give.
use Rattle.std.specs.Prelude.{◌≡◌, ℕ, ◌+◌, ◌<◌, ◌≤◌, min, Bool, true, false, List, [], ◌∷◌, ◌++◌, length, take, drop, Option, Some, None, Result, Ok, Err, IfSome, if◌then◌else◌, nat_lt, ◌==◌}
use Rattle.std.proofs.Props.{props}
use Rattle.oas_bytes.specs.declared.sources.SourceFault.{SourceFault}
use Rattle.oas_bytes.specs.declared.sources.SourceFault.TheVariants.{Device, TooLong}

-- the bytes that are still to be given, and whether a byte stands after the limit
pub record Rest : Type 0 where
  pub bytes : List ℕ
  pub goes_on : Bool

-- the bytes that were given, how many they are, of how many at most; whether the device cannot fail; how often it failed; what is still to be given, where that is known; and the answer that every call has from now on, once there is one
pub record Script : Type 0 where
  pub history : List ℕ
  pub given : ℕ
  pub limit : ℕ
  pub reliable : Bool
  pub failures : ℕ
  pub rest : Option Rest
  pub settled : Option (Result (Option ℕ) SourceFault)

-- what was still to be given is these bytes, and then what is still to be given now
abbrev pub Gave : Option Rest → List ℕ → Option Rest → Type 0
Gave None bytes new = Unit {0}
Gave (Some old) bytes None = ⊥
Gave (Some old) bytes (Some new) = (old.bytes ≡ bytes ++ new.bytes) × (new.goes_on ≡ old.goes_on)

-- the bytes that are still to be given, where they are known
abbrev pub left_of : Option Rest → List ℕ
left_of None = []
left_of (Some rest) = rest.bytes

-- the bytes that were given from old to new
abbrev pub since : Script → Script → List ℕ
since old new = drop (length old.history) new.history

-- from old to new these bytes were given
pub record Consumed (old : Script) (bytes : List ℕ) (new : Script) : Type 0 where
  pub history : new.history ≡ old.history ++ bytes
  pub given : new.given ≡ old.given + length bytes
  pub limit : new.limit ≡ old.limit
  pub reliable : new.reliable ≡ old.reliable
  pub failures : old.failures ≤ new.failures
  pub rest : Gave old.rest bytes new.rest

-- no byte is left, and whether one stands after the limit
abbrev pub NoneLeft : Option Rest → Bool → Type 0
NoneLeft None goes_on = Unit {0}
NoneLeft (Some rest) goes_on = (rest.bytes ≡ []) × (rest.goes_on ≡ goes_on)

-- the bytes have ended
pub record IsAtEnd (s : Script) : Type 0 where
  pub settled : s.settled ≡ Some (Ok None)
  pub none : NoneLeft s.rest false

-- the device has failed, and was one that can
pub record HasFailed (s : Script) : Type 0 where
  pub settled : s.settled ≡ Some (Err Device)
  pub unreliable : s.reliable ≡ false
  pub failed : 0 < s.failures

-- a byte stands after the limit, and was asked for
pub record IsTooLong (s : Script) : Type 0 where
  pub settled : s.settled ≡ Some (Err TooLong)
  pub all : s.given ≡ s.limit
  pub none : NoneLeft s.rest true

-- what a call answers, and what it leaves
abbrev pub Answers : Script → Result (Option ℕ) SourceFault → Script → Type 0
Answers old (Ok (Some byte)) new = (byte < 256) × Consumed old (byte ∷ []) new
Answers old (Ok None) new = Consumed old [] new × IsAtEnd new
Answers old (Err Device) new = Consumed old [] new × HasFailed new
Answers old (Err TooLong) new = Consumed old [] new × IsTooLong new

-- one call of `next`
pub record Next (old : Script) (answer : Result (Option ℕ) SourceFault) (new : Script) : Type 0 where
  pub again : IfSome old.settled (λ settled. answer ≡ settled)
  pub within : new.given ≤ new.limit
  pub answers : Answers old answer new

-- how many of the bytes are given under the limit
abbrev pub last_at : List ℕ → ℕ → ℕ
last_at bytes limit = min limit (length bytes)

-- a slice's source, after it gave some bytes: no device stands behind it
abbrev pub slice_script : List ℕ → ℕ → ℕ → Script
slice_script bytes limit at = record {
  history = take at (take limit bytes);
  given = at;
  limit = limit;
  reliable = true;
  failures = 0;
  rest = Some (record { bytes = drop at (take limit bytes); goes_on = nat_lt limit (length bytes) });
  settled = if at == last_at bytes limit then Some (if nat_lt limit (length bytes) then Err TooLong else Ok None) else None;
}

-- ---- each of these has at most one proof

Gave-prop : (old : Option Rest) (bytes : List ℕ) (new : Option Rest) → IsProp (Gave old bytes new)
Gave-prop None bytes new = Prim.hlevel props
Gave-prop (Some old) bytes None = Prim.hlevel props
Gave-prop (Some old) bytes (Some new) = Prim.hlevel props

pub Consumed-prop : (old : Script) (bytes : List ℕ) (new : Script) → IsProp (Consumed old bytes new)
Consumed-prop old bytes new = Prim.hlevel (Gave-prop, props)

NoneLeft-prop : (rest : Option Rest) (goes_on : Bool) → IsProp (NoneLeft rest goes_on)
NoneLeft-prop None goes_on = Prim.hlevel props
NoneLeft-prop (Some rest) goes_on = Prim.hlevel props

pub IsAtEnd-prop : (s : Script) → IsProp (IsAtEnd s)
IsAtEnd-prop s = Prim.hlevel (NoneLeft-prop, props)

pub HasFailed-prop : (s : Script) → IsProp (HasFailed s)
HasFailed-prop s = Prim.hlevel props

pub IsTooLong-prop : (s : Script) → IsProp (IsTooLong s)
IsTooLong-prop s = Prim.hlevel (NoneLeft-prop, props)
