-- What the calls of a device did.
use Rattle.std.specs.Prelude.{◌≡◌, ℕ, ◌+◌, ◌<◌, ◌≤◌, List, length, take, Option, Result, Ok, Err}
use Rattle.std.specs.Io.KnownBytes.{Appends, Keeps}

-- the bytes that it holds, where they are known, and how many of its calls failed
pub record Calls : Type 0 where
  pub contents : Option (List ℕ)
  pub failures : ℕ

-- it took these bytes, and no call failed
pub record TakesAll (old : Calls) (bytes : List ℕ) (new : Calls) : Type 0 where
  pub took : Appends old.contents new.contents bytes
  pub failures : new.failures ≡ old.failures

-- it took these bytes, and then one call failed
pub record FailsAfter (old : Calls) (bytes : List ℕ) (new : Calls) : Type 0 where
  pub took : Appends old.contents new.contents bytes
  pub failures : new.failures ≡ old.failures + 1

-- what a call of `write` did: it took the first of these bytes, and failed if it took none of some
pub record Took (old : Calls) (bytes : List ℕ) (count : ℕ) (new : Calls) : Type 0 where
  pub took : Appends old.contents new.contents (take count bytes)
  pub fits : count ≤ length bytes
  pub some : 0 < count → new.failures ≡ old.failures
  pub none : 0 < length bytes → count ≡ 0 → new.failures ≡ old.failures + 1

-- a call kept the bytes that it holds, and failed
pub record Failed (old : Calls) (new : Calls) : Type 0 where
  pub kept : Keeps old.contents new.contents
  pub failures : new.failures ≡ old.failures + 1

abbrev pub Wrote : {E : Type 0} → Calls → List ℕ → Result ℕ E → Calls → Type 0
Wrote old bytes (Ok count) new = Took old bytes count new
Wrote old bytes (Err fault) new = Failed old new

-- what a call of `flush` did
pub record Kept (old : Calls) (new : Calls) : Type 0 where
  pub kept : Keeps old.contents new.contents
  pub failures : new.failures ≡ old.failures

abbrev pub Flushed : {E : Type 0} → Calls → Result Unit E → Calls → Type 0
Flushed old (Ok done) new = Kept old new
Flushed old (Err fault) new = Failed old new
