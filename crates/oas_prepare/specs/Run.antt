-- What preparing a file does.
use Rattle.std.specs.Prelude.{◌≡◌, ℕ, false, List, [], ◌++◌, length, Option, Some, None, Result, Ok, Err, IsTrue, ◌⊎◌}
use Rattle.oas_num.specs.Devices.{Calls, TakesAll, FailsAfter}
use Rattle.oas_num.specs.declared.refusals.Why.TheVariants.{Write, Memory}
use Rattle.oas_num.specs.Refusing.{IsRefusedBy}
use Rattle.oas_num.specs.Script.{Script, Rest, Consumed, IsAtEnd}
use Rattle.oas_elements.specs.declared.limits.Limits.{Limits}
use Rattle.oas_elements.specs.declared.profile.Profile.{Profile}
use Rattle.oas_elements.specs.Meaning.{Meaning, SameLayout}
use Rattle.oas_canon.specs.Acceptance.{Means}
use Rattle.oas_canon.specs.Canonical.{CanonicalForm}
use Rattle.oas_narrow.specs.declared.dropping.Dropping.{Dropping}
use Rattle.oas_narrow.specs.declared.dropping.Report.{Report}
use Rattle.oas_narrow.specs.WideWhy.{WideWhy}
use Rattle.oas_narrow.specs.WideWhy.TheVariants as wide
use Rattle.oas_narrow.specs.declared.places.Place.TheVariants.{File}
use Rattle.oas_narrow.specs.declared.places.Rejection.{Rejection}
use Rattle.oas_narrow.specs.Reasons.{plain_of}
use Rattle.oas_narrow.specs.Narrowing.{report_of}
use Rattle.oas_narrow.specs.Preparable.{Formed, Preparable, WideMeans, IsValid}
use Rattle.oas_prepare.specs.Deciding.{is_of_file}
use Rattle.oas_prepare.specs.Places.{StopsAt, IsPlace}
use Rattle.oas_prepare.specs.Reasons.{IsReasoned}

-- c is the canonical form of what the file's records are translated to, and that was left out
pub record IsPreparedAs (limits : Limits) (profile : Profile) (dropping : Dropping) (bytes c : List ℕ) (report : Report) : Type 0 where
  pub formed : Formed limits dropping bytes
  pub form : CanonicalForm limits profile c
  pub source : Meaning
  pub target : Meaning
  pub means : WideMeans bytes source
  pub becomes : Means c target
  pub same : SameLayout profile source target
  pub left_out : report ≡ report_of formed.records

-- All that the source gave is a file that is prepared, and its signature is right.
pub record IsTaken (limits : Limits) (profile : Profile) (dropping : Dropping) (old new : Script) (canonical : List ℕ) (report : Report) : Type 0 where
  pub bytes : List ℕ
  pub takes : Consumed old bytes new
  pub ended : IsAtEnd new
  pub is : IsPreparedAs limits profile dropping bytes canonical report
  pub valid : IsValid is.formed.end.validation bytes

-- a file was taken, and its canonical form was written
pub record IsDone (limits : Limits) (profile : Profile) (dropping : Dropping) (old new : Script) (before after : Calls) (report : Report) : Type 0 where
  pub canonical : List ℕ
  pub taken : IsTaken limits profile dropping old new canonical report
  pub written : TakesAll before canonical after

-- a file was taken, and the writer failed after it took this many bytes of its canonical form
pub record IsCut (limits : Limits) (profile : Profile) (dropping : Dropping) (old new : Script) (before after : Calls) (rejection : Rejection) : Type 0 where
  pub canonical : List ℕ
  pub report : Report
  pub taken : IsTaken limits profile dropping old new canonical report
  pub front : List ℕ
  pub back : List ℕ
  pub joined : canonical ≡ front ++ back
  pub took : FailsAfter before front after
  pub place : rejection.place ≡ File (length front)

-- No file that is prepared begins with what was taken, or the source has ended and what was taken is none, or a device or the
-- memory failed. Where the input was cut off, no file that is prepared goes on from what was taken.
abbrev pub IsStopped : Limits → Dropping → Script → WideWhy → Script → Type 0
IsStopped limits dropping old why new = IsRefusedBy (Preparable limits dropping) old (plain_of why) new

-- The rejection's place is in the file, or in a block that is there. Where the source had given nothing before: it is one at
-- which each file stops that continues what was taken; where the source has ended, nothing continues it.
pub record IsPlaced (limits : Limits) (dropping : Dropping) (old : Script) (rejection : Rejection) (new : Script) : Type 0 where
  pub bytes : List ℕ
  pub takes : Consumed old bytes new
  pub there : IsPlace old bytes rejection.place
  pub placed : old.given ≡ 0 → IsTrue (is_of_file rejection.why) → (more : List ℕ) → (IsAtEnd new → more ≡ []) → StopsAt limits dropping (bytes ++ more) rejection.place

abbrev pub Stops : Limits → Dropping → Script → Rejection → Script → Type 0
Stops limits dropping old rejection new = IsStopped limits dropping old rejection.why new × IsPlaced limits dropping old rejection new × IsReasoned limits dropping old rejection new

-- ---- for known bytes

-- A result says that the file is prepared, and a rejection that it is not, unless the writer or the memory failed.
abbrev pub IsDecided : Limits → Dropping → Option Rest → Result Report Rejection → Type 0
IsDecided limits dropping None answer = Unit {0}
IsDecided limits dropping (Some rest) (Ok report) = Preparable limits dropping rest.bytes
IsDecided limits dropping (Some rest) (Err rejection) =
    (rejection.why ≡ wide.Profile Write) ⊎ ((rejection.why ≡ wide.Profile Memory) ⊎ (Preparable limits dropping rest.bytes → ⊥))

-- there is no byte after the source's limit
abbrev pub IsWithinSource : Option Rest → Type 0
IsWithinSource None = Unit {0}
IsWithinSource (Some rest) = rest.goes_on ≡ false

-- for a file whose bytes are known and end within the source's limit, over a device that has not failed
abbrev pub Exactly : Limits → Dropping → Script → Result Report Rejection → Script → Type 0
Exactly limits dropping old answer new = IsWithinSource old.rest → new.failures ≡ 0 → IsDecided limits dropping old.rest answer
