-- What taking a block does, after its head was read.
use Rattle.std.specs.Prelude.{◌≡◌, ℕ, ◌<◌, ◌≤◌, Bool, List, [], ◌++◌, length, Option, None, Some, Result, Ok, Err, IsTrue, ◌⊎◌}
use Rattle.oas_num.specs.declared.refusals.Why.TheVariants as why
use Rattle.oas_num.specs.Grammar.{IsEach}
use Rattle.oas_num.specs.Reading.{ReadsValue}
use Rattle.oas_num.specs.Script.{Script, Consumed, IsAtEnd, HasFailed, IsTooLong}
use Rattle.oas_narrow.specs.BlockEnd.{BlockEnd}
use Rattle.oas_narrow.specs.BlockEnd.TheVariants.{Whole}
use Rattle.oas_narrow.specs.Blocks.{Represents}
use Rattle.oas_elements.specs.declared.limits.Limits.{Limits}
use Rattle.oas_narrow.specs.Stores.{Store}
use Rattle.oas_narrow.specs.BlockHead.{BlockHead}
use Rattle.oas_narrow.specs.WideEnd.{WideEnd}
use Rattle.oas_narrow.specs.WideWhy.{WideWhy}
use Rattle.oas_narrow.specs.WideWhy.TheVariants as wide
use Rattle.oas_narrow.specs.WideRecord.{WideRecord}
use Rattle.oas_narrow.specs.declared.dropping.Dropping.{Dropping}
use Rattle.oas_narrow.specs.declared.places.Place.{Place}
use Rattle.oas_narrow.specs.declared.places.Place.TheVariants.{File, Block}
use Rattle.oas_narrow.specs.declared.places.Rejection.{Rejection}
use Rattle.oas_narrow.specs.Preparable.{AllPrepared}
use Rattle.oas_narrow.specs.WideFiles.{inner_in, end_in, head_in}
use Rattle.oas_prepare.specs.Deciding.{decides}
use Rattle.oas_prepare.specs.DataReasons.{DecidedInData, DecidedBy, run_out_why, why_in}
use Rattle.oas_prepare.specs.Gathering.{FailsOne, HasTakenOne, StopsOne}
use Rattle.oas_prepare.specs.Places.{StopsInData, EndsInData, IsVain, at_file}
use Rattle.oas_prepare.specs.Taking.{State, Stands, SameRun}

-- ---- one record

-- none can be read, or it isn't prepared, or there is END or a block, which are not allowed in one
pub data StopsInside {C : Type 0} (t : Store C) (in_end : Bool) (old : Script) (first : State C) (e : Rejection) (new : Script) : Type 0 where
  Unread : FailsOne in_end old e new → StopsInside t in_end old first e new
  NotTaken : StopsOne t in_end old first e new → StopsInside t in_end old first e new
  EndInside : (end : WideEnd) → e ≡ at_file old.given (wide.Profile (why.OutOfPlace 2)) → ReadsValue (end_in in_end) old end new → StopsInside t in_end old first e new
  BlockInside : (head : BlockHead) → e ≡ at_file old.given wide.CblockNested → ReadsValue (head_in in_end) old head new → StopsInside t in_end old first e new

abbrev pub ConsumesInside : {C : Type 0} → Store C → Bool → Script → State C → Result (Unit {0}) Rejection → Script → State C → Type 0
ConsumesInside t in_end old first (Ok done) new p = HasTakenOne t in_end old first new p
ConsumesInside t in_end old first (Err e) new p = StopsInside t in_end old first e new

-- ---- all records of the data

-- all bytes are records that are prepared after those before the block, and this is the result of both
pub record HasInner {C : Type 0} (t : Store C) (in_end : Bool) (first : State C) (records : List WideRecord) (bytes : List ℕ) (p : State C) : Type 0 where
  pub inner : List WideRecord
  pub each : IsEach (inner_in in_end) inner bytes
  pub prepared : AllPrepared first.reader.limits first.dropping (records ++ inner)
  pub stands : Stands t p (records ++ inner)
  pub same : SameRun first p

-- that is where the last of the data's records begins, where a run of PADs is one; there is none only where there are no data
abbrev pub IsLast : Limits → Dropping → Bool → List WideRecord → List ℕ → Option ℕ → Type 0
IsLast limits dropping in_end records plain None = plain ≡ []
IsLast limits dropping in_end records plain (Some within) = EndsInData limits dropping in_end records plain within

-- the data ran out, or they decided
abbrev pub IsOfData : WideWhy → Type 0
IsOfData reason = (reason ≡ wide.Profile why.Truncated) ⊎ IsTrue (decides reason)

-- at a record of the data it stops for the reason that they decide, or out of memory
pub record StopsInner (limits : Limits) (dropping : Dropping) (in_end : Bool) (records : List WideRecord) (plain : List ℕ) (e : Rejection) : Type 0 where
  pub within : ℕ
  pub place : e.place ≡ File within
  pub decided : DecidedInData limits dropping in_end records plain within e.why
  pub reason : (e.why ≡ wide.Profile why.Memory) ⊎ (IsOfData e.why × StopsInData limits dropping in_end records plain within)

-- After records that are prepared, the data are such records, or it stops at one.
abbrev pub ConsumesData : {C : Type 0} → Store C → Bool → List ℕ → State C → Result (Option ℕ) Rejection → State C → Type 0
ConsumesData t in_end plain first (Ok last) p = (records : List WideRecord) → Stands t first records → AllPrepared first.reader.limits first.dropping records →
    HasInner t in_end first records plain p × IsLast first.reader.limits first.dropping in_end records plain last
ConsumesData t in_end plain first (Err e) p =
    (records : List WideRecord) → Stands t first records → AllPrepared first.reader.limits first.dropping records → StopsInner first.reader.limits first.dropping in_end records plain e

-- ---- reasons and places

abbrev pub place_in : ℕ → Place → Place
place_in block (File within) = Block block within
place_in block (Block other within) = Block other within

-- what stops it in the data, in the block at that offset
abbrev pub in_block : ℕ → BlockEnd → Rejection → Rejection
in_block block end e = record { place = place_in block e.place; why = why_in end e.why }

-- the last record of the data, if there is one, or else the block
abbrev pub place_of_last : ℕ → Option ℕ → Place
place_of_last block None = File block
place_of_last block (Some within) = Block block within

-- after the last record of the data
abbrev pub ended_by : ℕ → BlockEnd → Option ℕ → Result (Unit {0}) Rejection
ended_by block Whole last = Ok tt
ended_by block end last = Err (record { place = place_of_last block last; why = run_out_why end })

-- ---- the block

-- its bytes were taken, and the records of the data that they encode
pub record HasTaken {C : Type 0} (t : Store C) (in_end : Bool) (head : BlockHead) (old : Script) (first : State C) (records : List WideRecord) (new : Script) (p : State C) : Type 0 where
  pub bytes : List ℕ
  pub takes : Consumed old bytes new
  pub plain : List ℕ
  pub is : Represents head bytes plain
  pub made : HasInner t in_end first records plain p

-- at the block, or in it
abbrev pub IsAtBlock : ℕ → Place → Type 0
IsAtBlock at (File place) = place ≡ at
IsAtBlock at (Block block within) = block ≡ at

-- the source ended or stopped before the block's end
abbrev pub IsCutBy : WideWhy → Script → Type 0
IsCutBy (wide.Profile why.Truncated) new = IsAtEnd new
IsCutBy (wide.Profile why.Read) new = HasFailed new
IsCutBy (wide.Profile why.InputTooLong) new = IsTooLong new
IsCutBy _ new = ⊥

-- no block with that head begins with these bytes
pub record NoData (head : BlockHead) (bytes : List ℕ) : Type 0 where
  pub within : length bytes ≤ head.deflated
  pub none : (more plain : List ℕ) → Represents head (bytes ++ more) plain → ⊥

-- It stops out of memory, since the source ended or stopped, since no block begins with the bytes that were taken, or at a
-- record of the data, or of what a stream gives that doesn't end as it should.
pub data StopsBlock (limits : Limits) (dropping : Dropping) (in_end : Bool) (at : ℕ) (head : BlockHead) (old : Script) (records : List WideRecord) (e : Rejection) (new : Script) : Type 0 where
  ForMemory : (bytes : List ℕ) → Consumed old bytes new → IsAtBlock at e.place → e.why ≡ wide.Profile why.Memory → StopsBlock limits dropping in_end at head old records e new
  CutOff : (bytes : List ℕ) → Consumed old bytes new → length bytes < head.deflated → e.place ≡ File at → IsCutBy e.why new → StopsBlock limits dropping in_end at head old records e new
  ByBytes : (bytes : List ℕ) → Consumed old bytes new → NoData head bytes → e.place ≡ File at → IsTrue (decides e.why) → StopsBlock limits dropping in_end at head old records e new
  InVain : (bytes plain : List ℕ) (within : ℕ) → Consumed old bytes new → IsVain head plain bytes → e.place ≡ Block at within → IsTrue (decides e.why)
      → StopsInData limits dropping in_end records plain within ⊎ EndsInData limits dropping in_end records plain within → StopsBlock limits dropping in_end at head old records e new
  AtInner : (bytes plain : List ℕ) (within : ℕ) → Consumed old bytes new → Represents head bytes plain → e.place ≡ Block at within → IsTrue (decides e.why)
      → StopsInData limits dropping in_end records plain within → StopsBlock limits dropping in_end at head old records e new

-- the bytes of the block decide the place and the reason
pub record ReasonsBlock (limits : Limits) (dropping : Dropping) (in_end : Bool) (at : ℕ) (head : BlockHead) (old : Script) (records : List WideRecord) (e : Rejection) (new : Script) : Type 0 where
  pub place : IsAtBlock at e.place
  pub decided : DecidedBy limits dropping in_end records head old new e.place e.why

-- A block with this head, which begins at that offset, is taken with its records, or stops the file.
abbrev pub ConsumesBlock : {C : Type 0} → Store C → Bool → ℕ → BlockHead → Script → State C → Result (Unit {0}) Rejection → Script → State C → Type 0
ConsumesBlock t in_end at head old first (Ok done) new p =
    (old.given ≤ new.given) × ((records : List WideRecord) → Stands t first records → AllPrepared first.reader.limits first.dropping records → HasTaken t in_end head old first records new p)
ConsumesBlock t in_end at head old first (Err e) new p =
    (records : List WideRecord) → Stands t first records → AllPrepared first.reader.limits first.dropping records →
    StopsBlock first.reader.limits first.dropping in_end at head old records e new × ReasonsBlock first.reader.limits first.dropping in_end at head old records e new
