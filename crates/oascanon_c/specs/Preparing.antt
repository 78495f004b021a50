-- What preparing promises of the bytes that it was given.
use Rattle.std.specs.Prelude.{◌≡◌, ℕ, ◌≤◌, ◌/◌, ◌%◌, ◌==◌, nat_lt, List, length, Option, Some, None, if◌then◌else◌}
use Rattle.oas_num.specs.declared.refusals.Why.TheVariants.{Memory}
use Rattle.oas_num.specs.Script.{Script}
use Rattle.oas_elements.specs.declared.limits.Limits.{Limits}
use Rattle.oas_elements.specs.declared.profile.Profile.TheVariants.{Two}
use Rattle.oas_elements.specs.Limits.{IsLimits}
use Rattle.oas_elements.specs.Contents.{Contents}
use Rattle.oas_prepare.specs.Canonical.{CanonicalForm}
use Rattle.oas_prepare.specs.NarrowDropping.{Dropping}
use Rattle.oas_prepare.specs.Report.{Report}
use Rattle.oas_prepare.specs.Rejection.{Rejection}
use Rattle.oas_prepare.specs.Preparable.{Preparable, IsValid}
use Rattle.oas_prepare.specs.WideWhy.TheVariants as wide
use Rattle.oas_prepare.specs.Finishing.{IsReadPrepared}
use Rattle.oas_prepare.specs.Reasons.{IsReasoned}
use Rattle.oas_prepare.specs.Run.{IsPreparedAs, IsStopped, IsPlaced}
use Rattle.oascanon_c.specs.declared.bounds.Bounds.{Bounds}
use Rattle.oascanon_c.specs.declared.wide_answers.WideAnswer.{WideAnswer}
use Rattle.oascanon_c.specs.declared.wide_answers.WideAnswer.TheVariants.{Prepared, NotLimits, UnknownDrop, Stopped}
use Rattle.oascanon_c.specs.Buffers.{Within, over}
use Rattle.oascanon_c.specs.Rooms.{Puts}

-- the kinds of records that bits name: bit 0 properties, bit 1 names of layers, bit 2 extensions; no other bit names any
abbrev pub dropping_of : ℕ → Option Dropping
dropping_of bits = if nat_lt bits 8 then Some (record { properties = bits % 2 == 1; layer_names = bits / 2 % 2 == 1; extensions = bits / 4 == 1 }) else None

-- the bytes are a canonical file, no more of them than an input may have
pub record IsCanonicalFile (limits : Limits) (bytes : List ℕ) : Type 0 where
  pub form : CanonicalForm limits Two bytes
  pub fits : length bytes ≤ limits.input

-- all of the bytes are a file that is prepared, with this layout, and that is left out
abbrev pub IsPreparedFrom : Limits → Dropping → List ℕ → Contents → Report → Type 0
IsPreparedFrom limits dropping bytes l report = (left : Script) × IsReadPrepared limits Two dropping (over limits bytes) l report left

-- the bytes are prepared to this canonical file, and that is left out; no more of them than an input may have
pub record IsPreparedTo (limits : Limits) (dropping : Dropping) (bytes canonical : List ℕ) (report : Report) : Type 0 where
  pub is : IsPreparedAs limits Two dropping bytes canonical report
  pub valid : IsValid is.formed.end.validation bytes
  pub fits : length bytes ≤ limits.input

-- These bytes aren't prepared, at this place and for this reason, as `prepare` says. Those that can be, and are of allowed
-- length, are refused for lack of memory alone.
pub record IsStoppedFor (limits : Limits) (dropping : Dropping) (bytes : List ℕ) (rejection : Rejection) : Type 0 where
  pub left : Script
  pub stopped : IsStopped limits dropping (over limits bytes) rejection.why left
  pub placed : IsPlaced limits dropping (over limits bytes) rejection left
  pub reasoned : IsReasoned limits dropping (over limits bytes) rejection left
  pub rightly : length bytes ≤ limits.input → Preparable limits dropping bytes → rejection.why ≡ wide.Profile Memory

-- the same within limits, and without the kinds of records that bits name
abbrev pub Naming : Bounds → ℕ → (Limits → Dropping → Type 0) → Type 0
Naming b kinds P = Within b (λ limits. (dropping : Dropping) × (dropping_of kinds ≡ Some dropping) × P limits dropping)

-- no limits, or bits that name no kind; or the canonical form of what the records are translated to is put; or the file is
-- refused. Without an answer the room is as it was.
abbrev pub Prepares : Bounds → ℕ → List ℕ → List ℕ → WideAnswer → List ℕ → Type 0
Prepares b kinds bytes old (Prepared answer report) new =
    Naming b kinds (λ limits dropping. (canonical : List ℕ) × IsPreparedTo limits dropping bytes canonical report × Puts canonical old answer new)
Prepares b kinds bytes old NotLimits new = (IsLimits b.elements b.weight b.input → ⊥) × (new ≡ old)
Prepares b kinds bytes old UnknownDrop new = (dropping_of kinds ≡ None) × (new ≡ old)
Prepares b kinds bytes old (Stopped rejection) new = Naming b kinds (λ limits dropping. IsStoppedFor limits dropping bytes rejection) × (new ≡ old)
