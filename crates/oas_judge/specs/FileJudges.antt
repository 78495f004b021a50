-- What a judge of a file represents.
use Rattle.std.specs.Prelude.{◌≡◌, ◌↔◌, ℕ, Bool, false, ◌&&◌, IsTrue, List, [], ◌∷◌, ◌++◌, is_some, unwrap_or, IfSome}
use Rattle.std.specs.List.{AllByRecursion}
use Rattle.oas_num.specs.Script.{Script, Consumed}
use Rattle.oas_num.specs.Style.{Any}
use Rattle.oas_record.specs.declared.heads.Head.{Head}
use Rattle.oas_record.specs.declared.records.Record.{Record}
use Rattle.oas_record.specs.Heads.{head_in}
use Rattle.oas_elements.specs.declared.limits.Limits.{Limits}
use Rattle.oas_elements.specs.declared.profile.Profile.{Profile}
use Rattle.oas_writing.specs.Acceptance.{Allowed}
use Rattle.oas_writing.specs.Gathering.{inner_in}
use Rattle.oas_writing.specs.Bytes.{head_bytes, end_bytes}
use Rattle.oas_writing.specs.Judging.{Entry, entry_records, Stands}
use Rattle.oas_judge.specs.declared.candidates.Candidate.{Candidate}
use Rattle.oas_judge.specs.declared.judge.FileJudge.{FileJudge}
use Rattle.oas_judge.specs.Candidates.{IsCandidate}

-- whether all so far is known to be as in a canonical file
abbrev pub holds : FileJudge → Bool
holds j = unwrap_or j.begins false && j.form.holds

-- the head has the canonical bytes
pub record IsFront (head : Head) (start : List ℕ) : Type 0 where
  pub flag : head.flag_in_end ≡ false
  pub bytes : head_bytes head.unit ≡ start

-- It judges by this profile, and represents a file with this head and these entries. Of the head nothing is known if there was
-- no memory for its bytes.
pub record IsJudging (profile : Profile) (j : FileJudge) (head : Head) (start : List ℕ) (entries : List Entry) : Type 0 where
  pub by : j.profile ≡ profile
  pub begins : IfSome j.begins (λ yes. IsTrue yes ↔ IsFront head start)
  pub stands : IsTrue (unwrap_or j.begins false) → Stands profile j.form entries

-- the head of a file was taken, and it represents that alone
pub record BeginsJudging (profile : Profile) (old : Script) (head : Head) (j : FileJudge) (new : Script) : Type 0 where
  pub start : List ℕ
  pub spelled : head_in Any head start
  pub takes : Consumed old start new
  pub judging : IsJudging profile j head start []

-- these entries were read, in a file with this START, and are allowed
pub record AreEntries (limits : Limits) (head : Head) (entries : List Entry) : Type 0 where
  pub each : AllByRecursion (λ e. inner_in head.flag_in_end e.0 e.1) entries
  pub allowed : Allowed limits (entry_records entries)

-- It represents one more entry: a record whose candidate it was given, with these bytes.
abbrev pub GoesOn : List ℕ → FileJudge → Candidate → FileJudge → Type 0
GoesOn known old candidate new = (limits : Limits) (profile : Profile) (head : Head) (start : List ℕ) (entries : List Entry) (r : Record) (bytes : List ℕ) →
    AreEntries limits head (entries ++ (r, bytes) ∷ []) → (IsTrue (holds old) → IsCandidate profile candidate r) → (IsTrue (holds old) → known ≡ bytes) →
    IsJudging profile old head start entries → IsJudging profile new head start (entries ++ (r, bytes) ∷ [])

-- it represents one more entry: this record, with these bytes
pub record GoesOnTaking (known : List ℕ) (old : FileJudge) (r : Record) (new : FileJudge) : Type 0 where
  pub candidate : Candidate
  pub says : IsTrue (holds old) → IsCandidate old.profile candidate r
  pub goes_on : GoesOn known old candidate new

-- it says of a file that ends with this END whether that is canonical
pub record Decides (j : FileJudge) (last : List ℕ) (yes : Bool) : Type 0 where
  pub known : IsTrue (is_some j.begins)
  pub says : IsTrue yes ↔ (IsTrue (holds j) × (end_bytes ≡ last))
