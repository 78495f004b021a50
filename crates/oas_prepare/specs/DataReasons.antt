-- The reason for which a block's data stop, and which of their bytes decide it.
use Rattle.std.specs.Prelude.{◌≡◌, ◌≢◌, ℕ, ◌^◌, Bool, List, [], ◌++◌, length, IsTrue}
use Rattle.oas_num.specs.declared.refusals.Why.TheVariants as why
use Rattle.oas_num.specs.Grammar.{IsEach}
use Rattle.oas_num.specs.Reading.{NoneWithin}
use Rattle.oas_num.specs.Script.{Script}
use Rattle.oas_narrow.specs.BlockEnd.{BlockEnd}
use Rattle.oas_narrow.specs.BlockEnd.TheVariants.{Whole, Unfinished, Other}
use Rattle.oas_narrow.specs.BlockFault.{BlockFault}
use Rattle.oas_narrow.specs.BlockFault.TheVariants as fault
use Rattle.oas_narrow.specs.Reading.{EndsBlock, FailsBlock}
use Rattle.oas_elements.specs.declared.limits.Limits.{Limits}
use Rattle.oas_narrow.specs.BlockHead.{BlockHead}
use Rattle.oas_narrow.specs.WideEnd.{WideEnd}
use Rattle.oas_narrow.specs.WideWhy.{WideWhy}
use Rattle.oas_narrow.specs.WideWhy.TheVariants as wide
use Rattle.oas_narrow.specs.WideRecord.{WideRecord}
use Rattle.oas_narrow.specs.WideRecords.{wide_record_in, WideRecordTook}
use Rattle.oas_narrow.specs.declared.dropping.Dropping.{Dropping}
use Rattle.oas_narrow.specs.declared.places.Place.{Place}
use Rattle.oas_narrow.specs.declared.places.Place.TheVariants.{File, Block}
use Rattle.oas_narrow.specs.Preparable.{AllPrepared}
use Rattle.oas_narrow.specs.WideFiles.{inner_in, end_in, head_in}
use Rattle.oas_prepare.specs.Deciding.{is_cut}
use Rattle.oas_prepare.specs.Places.{EndsInData}
use Rattle.oas_prepare.specs.Taking.{MayStop}

-- ---- in the data

-- no record can be read there: where the data ran out, all of them were taken
pub record IsUnread (in_end : Bool) (left : List ℕ) (reason : WideWhy) : Type 0 where
  pub taken : List ℕ
  pub rest : List ℕ
  pub joined : left ≡ taken ++ rest
  pub took : WideRecordTook in_end reason taken
  pub cut : IsTrue (is_cut reason) → (rest ≡ []) × NoneWithin (wide_record_in in_end) taken

-- END is there, or the head of a block
pub record IsEndThere (in_end : Bool) (left : List ℕ) (reason : WideWhy) : Type 0 where
  pub end : WideEnd
  pub taken : List ℕ
  pub rest : List ℕ
  pub joined : left ≡ taken ++ rest
  pub spelled : end_in in_end end taken
  pub is : reason ≡ wide.Profile (why.OutOfPlace 2)

pub record IsBlockThere (in_end : Bool) (left : List ℕ) (reason : WideWhy) : Type 0 where
  pub head : BlockHead
  pub taken : List ℕ
  pub rest : List ℕ
  pub joined : left ≡ taken ++ rest
  pub spelled : head_in in_end head taken
  pub is : reason ≡ wide.CblockNested

-- There is a record that isn't prepared after those before it.
pub record IsNotPrepared (limits : Limits) (dropping : Dropping) (in_end : Bool) (records : List WideRecord) (left : List ℕ) (reason : WideWhy) : Type 0 where
  pub next : WideRecord
  pub taken : List ℕ
  pub rest : List ℕ
  pub joined : left ≡ taken ++ rest
  pub spelled : inner_in in_end next taken
  pub is : MayStop limits dropping records next reason

pub data StopsFor (limits : Limits) (dropping : Dropping) (in_end : Bool) (records : List WideRecord) (left : List ℕ) (reason : WideWhy) : Type 0 where
  Unread : IsUnread in_end left reason → StopsFor limits dropping in_end records left reason
  EndThere : IsEndThere in_end left reason → StopsFor limits dropping in_end records left reason
  BlockThere : IsBlockThere in_end left reason → StopsFor limits dropping in_end records left reason
  NotPrepared : IsNotPrepared limits dropping in_end records left reason → StopsFor limits dropping in_end records left reason

-- before the place come records that are prepared, and the data go on with what stops there
pub record DecidedInData (limits : Limits) (dropping : Dropping) (in_end : Bool) (records : List WideRecord) (plain : List ℕ) (within : ℕ) (reason : WideWhy) : Type 0 where
  pub before : List ℕ
  pub left : List ℕ
  pub inner : List WideRecord
  pub place : within ≡ length before
  pub joined : plain ≡ before ++ left
  pub goes_on : left ≢ []
  pub each : IsEach (inner_in in_end) inner before
  pub prepared : AllPrepared limits dropping (records ++ inner)
  pub stops : StopsFor limits dropping in_end (records ++ inner) left reason

-- ---- how the data end

-- why a record that continues past the end of the data isn't prepared
abbrev pub run_out_why : BlockEnd → WideWhy
run_out_why Whole = wide.CblockBorder
run_out_why Unfinished = wide.Deflate
run_out_why Other = wide.CblockLength

-- why the file isn't, because of what stops in the data
abbrev pub why_in : BlockEnd → WideWhy → WideWhy
why_in end (wide.Profile why.Truncated) = run_out_why end
why_in end reason = reason

-- why a block isn't read
abbrev pub fault_why : BlockFault → WideWhy
fault_why fault.Kind = wide.CblockType
fault_why fault.Length = wide.CblockLength
fault_why fault.Deflate = wide.Deflate
fault_why (fault.Why reason) = wide.Profile reason
fault_why fault.Full = wide.Profile why.Memory

-- ---- a block, after its head

-- how many bytes of data are held at most (own rule)
abbrev pub data_max : ℕ
data_max = 2 ^ 30

-- At a record of the data; or after them all, at the last of them, where the stream doesn't end as it should.
pub data DecidedWithin (limits : Limits) (dropping : Dropping) (in_end : Bool) (records : List WideRecord) (plain : List ℕ) (end : BlockEnd) (within : ℕ) (reason : WideWhy) : Type 0 where
  AtOne : (inner : WideWhy) → DecidedInData limits dropping in_end records plain within inner → reason ≡ why_in end inner → DecidedWithin limits dropping in_end records plain end within reason
  AtLast : end ≢ Whole → EndsInData limits dropping in_end records plain within → reason ≡ run_out_why end → DecidedWithin limits dropping in_end records plain end within reason

-- all bytes of the block were taken, and it stops in the data that they give
pub record DecidedInBlock (limits : Limits) (dropping : Dropping) (in_end : Bool) (records : List WideRecord) (head : BlockHead) (old new : Script) (within : ℕ) (reason : WideWhy) : Type 0 where
  pub plain : List ℕ
  pub end : BlockEnd
  pub gives : EndsBlock head data_max old plain end new
  pub decided : DecidedWithin limits dropping in_end records plain end within reason

-- it isn't read, or its stream doesn't end as it should, and gives no data
pub data DecidedAtBlock (head : BlockHead) (old new : Script) (reason : WideWhy) : Type 0 where
  NotRead : (fault : BlockFault) → FailsBlock head data_max old fault new → reason ≡ fault_why fault → DecidedAtBlock head old new reason
  NoData : (end : BlockEnd) → end ≢ Whole → EndsBlock head data_max old [] end new → reason ≡ run_out_why end → DecidedAtBlock head old new reason

-- by the bytes of the block: at it, or in it
abbrev pub DecidedBy : Limits → Dropping → Bool → List WideRecord → BlockHead → Script → Script → Place → WideWhy → Type 0
DecidedBy limits dropping in_end records head old new (File at) reason = DecidedAtBlock head old new reason
DecidedBy limits dropping in_end records head old new (Block block within) reason = DecidedInBlock limits dropping in_end records head old new within reason
