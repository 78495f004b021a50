-- What a run over sources and a writer does.
use Rattle.std.specs.Prelude.{◌≡◌, ℕ, Bool, false, List, ◌++◌, length, Option, Some, None, Result, Ok, Err, IsTrue, ◌⊎◌, ◌↔◌}
use Rattle.oas_num.specs.Devices.{Calls, TakesAll, FailsAfter}
use Rattle.sha2.specs.Sha256.{sha256}
use Rattle.oas_num.specs.declared.refusals.Refusal.{Refusal}
use Rattle.oas_num.specs.declared.refusals.Why.TheVariants.{Write, Memory}
use Rattle.oas_num.specs.Script.{Script, Rest, Consumed, IsAtEnd}
use Rattle.oas_elements.specs.declared.limits.Limits.{Limits}
use Rattle.oas_elements.specs.declared.profile.Profile.{Profile}
use Rattle.oas_elements.specs.Meaning.{Meaning, SameLayout}
use Rattle.oas_judge.specs.Acceptance.{Accepted, Means}
use Rattle.oas_judge.specs.Canonical.{CanonicalForm, IsCanonicalOf}
use Rattle.oas_canon.specs.declared.sameness.Which.{Which}
use Rattle.oas_canon.specs.declared.sameness.Which.TheVariants.{First, Second}

-- all that the source gave is this file, which is accepted
pub record IsTaken (limits : Limits) (old : Script) (bytes : List ℕ) (new : Script) : Type 0 where
  pub takes : Consumed old bytes new
  pub ended : IsAtEnd new
  pub accepted : Accepted limits bytes

-- ---- to a writer

-- a file was taken, and its canonical form was written, with this many bytes
pub record IsDone (limits : Limits) (profile : Profile) (old new : Script) (before after : Calls) (n : ℕ) : Type 0 where
  pub bytes : List ℕ
  pub taken : IsTaken limits old bytes new
  pub canonical : List ℕ
  pub is : IsCanonicalOf limits profile bytes canonical
  pub count : n ≡ length canonical
  pub written : TakesAll before canonical after

-- a file was taken, and the writer failed after it took this many bytes of its canonical form
pub record IsCut (limits : Limits) (profile : Profile) (old new : Script) (before after : Calls) (at : ℕ) : Type 0 where
  pub bytes : List ℕ
  pub taken : IsTaken limits old bytes new
  pub canonical : List ℕ
  pub is : IsCanonicalOf limits profile bytes canonical
  pub front : List ℕ
  pub back : List ℕ
  pub joined : canonical ≡ front ++ back
  pub took : FailsAfter before front after
  pub place : at ≡ length front

-- ---- to a result

-- a file was taken, and this is the SHA-256 of its canonical form
pub record IsKeyed (limits : Limits) (profile : Profile) (old new : Script) (digest : List ℕ) : Type 0 where
  pub bytes : List ℕ
  pub taken : IsTaken limits old bytes new
  pub canonical : List ℕ
  pub is : IsCanonicalOf limits profile bytes canonical
  pub hashed : digest ≡ sha256 canonical

-- a file was taken, and the result is whether it is a canonical form
pub record IsJudged (limits : Limits) (profile : Profile) (old new : Script) (yes : Bool) : Type 0 where
  pub bytes : List ℕ
  pub taken : IsTaken limits old bytes new
  pub answer : IsTrue yes ↔ CanonicalForm limits profile bytes

-- two files were taken, and the result is whether they mean the same layout
pub record IsCompared (limits : Limits) (profile : Profile) (old new mid last : Script) (same : Bool) : Type 0 where
  pub first : List ℕ
  pub second : List ℕ
  pub taken_first : IsTaken limits old first new
  pub taken_second : IsTaken limits mid second last
  pub one : Meaning
  pub other : Meaning
  pub means_one : Means first one
  pub means_other : Means second other
  pub answer : IsTrue same ↔ SameLayout profile one other

-- ---- for known bytes

-- A result says that the file is accepted, and a refusal that it is not, unless the writer or the memory failed.
abbrev pub IsDecided : {T : Type 0} → Limits → Option Rest → Result T Refusal → Type 0
IsDecided limits None answer = Unit {0}
IsDecided limits (Some rest) (Ok value) = Accepted limits rest.bytes
IsDecided limits (Some rest) (Err refusal) = (refusal.why ≡ Write) ⊎ ((refusal.why ≡ Memory) ⊎ (Accepted limits rest.bytes → ⊥))

-- there is no byte after the source's limit
abbrev pub IsWithinSource : Option Rest → Type 0
IsWithinSource None = Unit {0}
IsWithinSource (Some rest) = rest.goes_on ≡ false

-- for a file whose bytes are known and end within the source's limit, over a device that has not failed
abbrev pub Exactly : {T : Type 0} → Limits → Script → Result T Refusal → Script → Type 0
Exactly limits old answer new = IsWithinSource old.rest → new.failures ≡ 0 → IsDecided limits old.rest answer

-- the same for two files: a result says it for both, a refusal for the one that it names
abbrev pub ExactlyBoth : Limits → Script → Script → Script → Script → Result Bool (Which × Refusal) → Type 0
ExactlyBoth limits old new mid last (Ok same) = Exactly limits old (Ok same) new × Exactly limits mid (Ok same) last
ExactlyBoth limits old new mid last (Err (First, refusal)) = Exactly {T = Bool} limits old (Err refusal) new
ExactlyBoth limits old new mid last (Err (Second, refusal)) = Exactly {T = Bool} limits mid (Err refusal) last
