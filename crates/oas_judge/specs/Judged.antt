-- A file whose records are judged, as far as they were taken; and judging a whole file.
use Rattle.std.specs.Prelude.{◌≡◌, ◌↔◌, ℕ, ◌+◌, Bool, IsTrue, List, [], ◌++◌, length}
use Rattle.std.specs.List.{AllByRecursion}
use Rattle.oas_num.specs.Script.{Script, Consumed, IsAtEnd}
use Rattle.oas_num.specs.Style.{Any}
use Rattle.oas_record.specs.declared.heads.Head.{Head}
use Rattle.oas_record.specs.declared.records.Record.TheVariants.{End}
use Rattle.oas_record.specs.Records.{record_in}
use Rattle.oas_elements.specs.declared.limits.Limits.{Limits}
use Rattle.oas_elements.specs.declared.profile.Profile.{Profile}
use Rattle.oas_elements.specs.Contents.{Contents}
use Rattle.oas_writing.specs.Stores.{Store}
use Rattle.oas_writing.specs.Stands.{ReaderState, Represents}
use Rattle.oas_writing.specs.Acceptance.{Accepted}
use Rattle.oas_writing.specs.Gathering.{inner_in, HasTaken}
use Rattle.oas_writing.specs.Reading.{IsRead}
use Rattle.oas_writing.specs.Canonical.{CanonicalForm}
use Rattle.oas_writing.specs.Judging.{Entry, entry_records, entry_bytes}
use Rattle.oas_judge.specs.declared.judge.FileJudge.{FileJudge}
use Rattle.oas_judge.specs.FileJudges.{IsJudging, BeginsJudging}

-- ---- what was taken

module _ {C : Type 0} where
  -- the head of a file that was judged, and a reader with no records
  pub record HasBegun (t : Store C) (profile : Profile) (head : Head) (now : Script) (s : ReaderState C) (j : FileJudge) : Type 0 where
    pub origin : Script
    pub begun : BeginsJudging profile origin head j now
    pub stands : Represents t s []

  -- the head and some entries were taken, and the judge represents them
  pub record HasSeen (t : Store C) (profile : Profile) (head : Head) (start : List ℕ) (origin : Script) (first : ReaderState C) (now : Script) (s : ReaderState C) (j : FileJudge) : Type 0 where
    pub entries : List Entry
    pub takes : Consumed origin (start ++ entry_bytes entries) now
    pub each : AllByRecursion (λ e. inner_in head.flag_in_end e.0 e.1) entries
    pub taken : HasTaken t first s (entry_records entries)
    pub judging : IsJudging profile j head start entries

  -- the head, all entries and END were taken; END begins at that offset
  pub record HasSeenAll (t : Store C) (profile : Profile) (head : Head) (start : List ℕ) (origin : Script) (first : ReaderState C) (at : ℕ) (now : Script) (s : ReaderState C) (j : FileJudge) : Type 0 where
    pub entries : List Entry
    pub last : List ℕ
    pub takes : Consumed origin ((start ++ entry_bytes entries) ++ last) now
    pub each : AllByRecursion (λ e. inner_in head.flag_in_end e.0 e.1) entries
    pub end : record_in Any head.flag_in_end End last
    pub place : at ≡ origin.given + length (start ++ entry_bytes entries)
    pub taken : HasTaken t first s (entry_records entries)
    pub judging : IsJudging profile j head start entries

-- ---- a file

-- an accepted file was taken to its end, and the result is whether it is a canonical form
pub record IsJudged (limits : Limits) (profile : Profile) (old : Script) (yes : Bool) (new : Script) : Type 0 where
  pub bytes : List ℕ
  pub takes : Consumed old bytes new
  pub ended : IsAtEnd new
  pub accepted : Accepted limits bytes
  pub answer : IsTrue yes ↔ CanonicalForm limits profile bytes

-- its layout was read too
pub record IsReadAndJudged (limits : Limits) (judged_by kept_by : Profile) (old : Script) (l : Contents) (yes : Bool) (new : Script) : Type 0 where
  pub read : IsRead limits kept_by old l new
  pub answer : IsTrue yes ↔ CanonicalForm limits judged_by read.bytes
