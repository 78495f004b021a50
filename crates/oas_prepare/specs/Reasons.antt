-- Which bytes decide that a file isn't prepared: those taken last, after bytes that begin what may be at the rejection's
-- place. Where the input was cut off, nothing that is allowed there was whole before.
-- Where two reasons hold for one place, the definitions say which is given. First a record is read whole. Then it is checked
-- whether it may be left out and whether a cell is open, and then its own conditions. For a file the end of the input is
-- checked before the signature, and that before what END refuses.
use Rattle.std.specs.Prelude.{◌≡◌, ℕ, ◌+◌, false, List, ◌++◌, length, IsTrue, Some, ◌⊎◌}
use Rattle.oas_num.specs.declared.refusals.Why.{Why}
use Rattle.oas_num.specs.declared.refusals.Why.TheVariants as why
use Rattle.oas_num.specs.Begun.{Decides}
use Rattle.oas_num.specs.Ratio.{Ratio}
use Rattle.oas_num.specs.Reading as num
use Rattle.oas_num.specs.Reading.{NoneWithin}
use Rattle.oas_num.specs.Script.{Script, Consumed, IsAtEnd}
use Rattle.oas_record.specs.Heads.{magic, IsMagic, MagicMay}
use Rattle.oas_elements.specs.declared.limits.Limits.{Limits}
use Rattle.oas_canon.specs.Deciding.{EndingMay}
use Rattle.oas_narrow.specs.Stands.{end_refusal}
use Rattle.oas_narrow.specs.BlockHead.{BlockHead}
use Rattle.oas_narrow.specs.WideEnd.{WideEnd}
use Rattle.oas_narrow.specs.WideStart.{WideStart}
use Rattle.oas_narrow.specs.WideWhy.{WideWhy}
use Rattle.oas_narrow.specs.WideWhy.TheVariants as wide
use Rattle.oas_narrow.specs.WideRecord.{WideRecord}
use Rattle.oas_narrow.specs.Heads.{SpellsWideStart, WideStartTook}
use Rattle.oas_narrow.specs.WideRecords.{wide_record_in, WideRecordTook}
use Rattle.oas_narrow.specs.declared.dropping.Dropping.{Dropping}
use Rattle.oas_narrow.specs.declared.places.Place.{Place}
use Rattle.oas_narrow.specs.declared.places.Place.TheVariants.{File, Block}
use Rattle.oas_narrow.specs.declared.places.Rejection.{Rejection}
use Rattle.oas_narrow.specs.Narrowing.{narrowed}
use Rattle.oas_narrow.specs.Preparable.{IsUnitOf, IsValid}
use Rattle.oas_narrow.specs.WideFiles.{inner_in, end_in, head_in}
use Rattle.oas_prepare.specs.Deciding.{is_cut}
use Rattle.oas_prepare.specs.DataReasons.{DecidedBy}
use Rattle.oas_prepare.specs.Places.{IsBefore}
use Rattle.oas_prepare.specs.Taking.{MayStop}

-- ---- the head of a file

-- in the magic
pub record InMagic (taken : List ℕ) (at : ℕ) (reason : WideWhy) : Type 0 where
  pub plain : Why
  pub is : reason ≡ wide.Profile plain
  pub place : at ≡ 0
  pub decides : Decides false IsMagic (MagicMay plain) taken
  pub cut : IsTrue (num.is_cut plain) → NoneWithin IsMagic taken

-- in START
pub record InStart (taken : List ℕ) (at : ℕ) (reason : WideWhy) : Type 0 where
  pub plain : Why
  pub left : List ℕ
  pub is : reason ≡ wide.Profile plain
  pub place : at ≡ 13
  pub joined : taken ≡ magic ++ left
  pub took : WideStartTook plain left
  pub cut : IsTrue (num.is_cut plain) → NoneWithin SpellsWideStart left

-- START was read, with a unit that is no fraction of the profile
pub record AsUnit (taken : List ℕ) (at : ℕ) (reason : WideWhy) : Type 0 where
  pub left : List ℕ
  pub start : WideStart
  pub is : reason ≡ wide.Profile why.FloatReal
  pub place : at ≡ 13
  pub joined : taken ≡ magic ++ left
  pub spelled : SpellsWideStart start left
  pub none : (unit : Ratio) → IsUnitOf start.unit unit → ⊥

-- ---- a record

-- in a record, END or the head of a block
pub record InRecord (limits : Limits) (dropping : Dropping) (taken : List ℕ) (at : ℕ) (reason : WideWhy) : Type 0 where
  pub left : List ℕ
  pub start : WideStart
  pub records : List WideRecord
  pub before : IsBefore limits dropping taken left at start records
  pub took : WideRecordTook start.flag_in_end reason left
  pub cut : IsTrue (is_cut reason) → NoneWithin (wide_record_in start.flag_in_end) left

-- a record that was read isn't prepared after those before it
pub record AsRecord (limits : Limits) (dropping : Dropping) (taken : List ℕ) (at : ℕ) (reason : WideWhy) : Type 0 where
  pub left : List ℕ
  pub start : WideStart
  pub records : List WideRecord
  pub next : WideRecord
  pub before : IsBefore limits dropping taken left at start records
  pub spelled : inner_in start.flag_in_end next left
  pub is : MayStop limits dropping records next reason

-- ---- a block

-- the head of a block was read, and this holds for what was taken after it
pub record BehindHead (limits : Limits) (dropping : Dropping) (old new : Script) (at : ℕ) (place : Place) (reason : WideWhy) : Type 0 where
  pub bytes : List ℕ
  pub start : WideStart
  pub records : List WideRecord
  pub head : BlockHead
  pub begin : List ℕ
  pub mid : Script
  pub takes : Consumed old bytes mid
  pub before : IsBefore limits dropping bytes begin at start records
  pub begun : head_in start.flag_in_end head begin
  pub decided : DecidedBy limits dropping start.flag_in_end records head mid new place reason

-- ---- END

-- why the input doesn't end
abbrev pub TailMay : WideWhy → List ℕ → Type 0
TailMay (wide.Profile reason) tail = EndingMay reason tail
TailMay _ tail = ⊥

-- after END
pub record PastEnd (limits : Limits) (dropping : Dropping) (taken : List ℕ) (at : ℕ) (reason : WideWhy) : Type 0 where
  pub left : List ℕ
  pub start : WideStart
  pub records : List WideRecord
  pub from : ℕ
  pub before : IsBefore limits dropping taken left from start records
  pub end : WideEnd
  pub last : List ℕ
  pub tail : List ℕ
  pub ends : end_in start.flag_in_end end last
  pub joined : left ≡ last ++ tail
  pub place : at ≡ from + length last
  pub is : TailMay reason tail

-- the signature is wrong; or it is right, and END refuses the records, or out of memory
pub data WholeMay (limits : Limits) (records : List WideRecord) (end : WideEnd) (taken : List ℕ) (reason : WideWhy) : Type 0 where
  Unsound : reason ≡ wide.Checksum → (IsValid end.validation taken → ⊥) → WholeMay limits records end taken reason
  Torn : (plain : Why) → reason ≡ wide.Profile plain → IsValid end.validation taken → (plain ≡ why.Memory) ⊎ (end_refusal limits (narrowed records) ≡ Some plain) →
      WholeMay limits records end taken reason

-- all that is read, at END, after which the input ends
pub record AsWhole (limits : Limits) (dropping : Dropping) (old new : Script) (taken : List ℕ) (at : ℕ) (reason : WideWhy) : Type 0 where
  pub left : List ℕ
  pub start : WideStart
  pub records : List WideRecord
  pub before : IsBefore limits dropping taken left at start records
  pub end : WideEnd
  pub ends : end_in start.flag_in_end end left
  pub ended : IsAtEnd new
  pub is : WholeMay limits records end taken reason

-- ---- the file

-- the bytes that were taken decide that the file isn't prepared, there and for that reason
pub data DecidedInFile (limits : Limits) (dropping : Dropping) (old new : Script) (taken : List ℕ) (at : ℕ) (reason : WideWhy) : Type 0 where
  TheMagic : InMagic taken at reason → DecidedInFile limits dropping old new taken at reason
  TheStart : InStart taken at reason → DecidedInFile limits dropping old new taken at reason
  TheUnit : AsUnit taken at reason → DecidedInFile limits dropping old new taken at reason
  TheRecord : InRecord limits dropping taken at reason → DecidedInFile limits dropping old new taken at reason
  TheNext : AsRecord limits dropping taken at reason → DecidedInFile limits dropping old new taken at reason
  TheBlock : BehindHead limits dropping old new at (File at) reason → DecidedInFile limits dropping old new taken at reason
  TheTail : PastEnd limits dropping taken at reason → DecidedInFile limits dropping old new taken at reason
  TheWhole : AsWhole limits dropping old new taken at reason → DecidedInFile limits dropping old new taken at reason

abbrev pub DecidedAt : Limits → Dropping → Script → Script → List ℕ → Place → WideWhy → Type 0
DecidedAt limits dropping old new taken (File at) reason = DecidedInFile limits dropping old new taken at reason
DecidedAt limits dropping old new taken (Block block within) reason = BehindHead limits dropping old new block (Block block within) reason

-- for a source that had given nothing before
pub record IsReasoned (limits : Limits) (dropping : Dropping) (old : Script) (rejection : Rejection) (new : Script) : Type 0 where
  pub bytes : List ℕ
  pub takes : Consumed old bytes new
  pub decided : old.given ≡ 0 → DecidedAt limits dropping old new bytes rejection.place rejection.why
