-- Where a file of the standard that isn't prepared stops.
use Rattle.std.specs.Prelude.{◌≡◌, ◌≢◌, ℕ, ◌+◌, ◌%◌, ◌^◌, ◌<◌, ◌≤◌, Bool, List, [], ◌∷◌, ◌++◌, length, replicate, None, ◌⊎◌}
use Rattle.oas_record.specs.declared.records.Record.TheVariants.{Pad}
use Rattle.oas_record.specs.Found.{NoneIsSpelled}
use Rattle.oas_record.specs.Heads.{magic}
use Rattle.oas_num.specs.Grammar.{IsEach}
use Rattle.oas_num.specs.Script.{Script}
use Rattle.oas_narrow.specs.BlockHead.{BlockHead}
use Rattle.oas_narrow.specs.WideEnd.{WideEnd}
use Rattle.oas_narrow.specs.WideStart.{WideStart}
use Rattle.oas_narrow.specs.Heads.{SpellsWideStart}
use Rattle.oas_num.specs.Ratio.{Ratio}
use Rattle.oas_narrow.specs.Blocks.{Represents}
use Rattle.oas_narrow.specs.Reading.{IsUnfinished, IsOther}
use Rattle.oas_elements.specs.declared.limits.Limits.{Limits}
use Rattle.oas_narrow.specs.Stands.{end_refusal}
use Rattle.oas_narrow.specs.WideRecord.{WideRecord}
use Rattle.oas_narrow.specs.WideRecord.TheVariants.{Profile}
use Rattle.oas_narrow.specs.declared.dropping.Dropping.{Dropping}
use Rattle.oas_narrow.specs.WideWhy.{WideWhy}
use Rattle.oas_narrow.specs.declared.places.Rejection.{Rejection}
use Rattle.oas_narrow.specs.declared.places.Place.{Place}
use Rattle.oas_narrow.specs.declared.places.Place.TheVariants.{File, Block}
use Rattle.oas_narrow.specs.Narrowing.{narrowed}
use Rattle.oas_narrow.specs.Preparable.{IsUnitOf, IsValid, AllPrepared}
use Rattle.oas_narrow.specs.WideFiles.{WidePrefixOf, inner_in, end_in, head_in, block_in}

-- before the magic
pub record AtMagic (b : List ℕ) (at : ℕ) : Type 0 where
  pub place : at ≡ 0
  pub differs : (rest : List ℕ) → b ≢ magic ++ rest

-- START with a unit that is a fraction of the profile
pub record IsStart (start : WideStart) (bytes : List ℕ) : Type 0 where
  pub spelled : SpellsWideStart start bytes
  pub unit : Ratio
  pub is_unit : IsUnitOf start.unit unit

-- after the magic, where no such START follows
pub record AtStart (b : List ℕ) (at : ℕ) : Type 0 where
  pub left : List ℕ
  pub place : at ≡ 13
  pub joined : b ≡ magic ++ left
  pub none : NoneIsSpelled IsStart left

-- before the place come the magic, START and records that are prepared, and this is all
pub record IsBefore (limits : Limits) (dropping : Dropping) (b left : List ℕ) (at : ℕ) (start : WideStart) (ws : List WideRecord) : Type 0 where
  pub before : List ℕ
  pub front : WidePrefixOf start ws before
  pub prepared : AllPrepared limits dropping ws
  pub place : at ≡ length before
  pub joined : b ≡ before ++ left

-- a record by which they are still prepared
pub record IsNext (limits : Limits) (dropping : Dropping) (in_end : Bool) (ws : List WideRecord) (w : WideRecord) (bytes : List ℕ) : Type 0 where
  pub spelled : inner_in in_end w bytes
  pub prepared : AllPrepared limits dropping (ws ++ w ∷ [])

-- at a record: there is neither END nor one that is prepared, nor a block, whatever its data are
pub record AtRecord (limits : Limits) (dropping : Dropping) (b : List ℕ) (at : ℕ) : Type 0 where
  pub left : List ℕ
  pub start : WideStart
  pub records : List WideRecord
  pub before : IsBefore limits dropping b left at start records
  pub no_end : NoneIsSpelled (end_in start.flag_in_end) left
  pub no_record : NoneIsSpelled (IsNext limits dropping start.flag_in_end records) left
  pub no_block : NoneIsSpelled (block_in start.flag_in_end) left

-- after END, where a byte follows
pub record AfterEnd (limits : Limits) (dropping : Dropping) (b : List ℕ) (at : ℕ) : Type 0 where
  pub left : List ℕ
  pub start : WideStart
  pub records : List WideRecord
  pub from : ℕ
  pub before : IsBefore limits dropping b left from start records
  pub end : WideEnd
  pub last : List ℕ
  pub byte : ℕ
  pub rest : List ℕ
  pub ends : end_in start.flag_in_end end last
  pub joined : left ≡ last ++ (byte ∷ rest)
  pub place : at ≡ from + length last

-- at END, with nothing after it, where it refuses the records or says wrongly that the file is complete
pub record AtEnd (limits : Limits) (dropping : Dropping) (b : List ℕ) (at : ℕ) : Type 0 where
  pub left : List ℕ
  pub start : WideStart
  pub records : List WideRecord
  pub before : IsBefore limits dropping b left at start records
  pub end : WideEnd
  pub ends : end_in start.flag_in_end end left
  pub torn : end_refusal limits (narrowed records) ≡ None → IsValid end.validation b → ⊥

-- an offset at which it stops
pub data StopsInFile (limits : Limits) (dropping : Dropping) (b : List ℕ) (at : ℕ) : Type 0 where
  ByMagic : AtMagic b at → StopsInFile limits dropping b at
  ByStart : AtStart b at → StopsInFile limits dropping b at
  ByRecord : AtRecord limits dropping b at → StopsInFile limits dropping b at
  AfterLast : AfterEnd limits dropping b at → StopsInFile limits dropping b at
  ByEnd : AtEnd limits dropping b at → StopsInFile limits dropping b at

-- ---- in a block

-- in its data: before the place come records that are prepared, and there is none at it, though the data go on
pub record StopsInData (limits : Limits) (dropping : Dropping) (in_end : Bool) (records : List WideRecord) (plain : List ℕ) (within : ℕ) : Type 0 where
  pub before : List ℕ
  pub left : List ℕ
  pub inner : List WideRecord
  pub place : within ≡ length before
  pub joined : plain ≡ before ++ left
  pub goes_on : left ≢ []
  pub each : IsEach (inner_in in_end) inner before
  pub prepared : AllPrepared limits dropping (records ++ inner)
  pub no_record : NoneIsSpelled (IsNext limits dropping in_end (records ++ inner)) left

-- ---- the last record of a block's data

-- this many PADs
abbrev pub pads : ℕ → List WideRecord
pads count = replicate count (Profile Pad)

-- the bytes aren't records followed by a PAD of one byte
abbrev pub NoPadLast : Bool → List ℕ → Type 0
NoPadLast in_end bytes = (ws : List WideRecord) (front : List ℕ) → IsEach (inner_in in_end) ws front → bytes ≢ front ++ 0 ∷ []

-- After these bytes of the data come this many PADs of one byte, up to its end. They are a run (own rule): none comes before
-- them, or they begin at a multiple of 2^20 bytes of the data, and they don't go on past the next multiple.
pub record IsRun (in_end : Bool) (before : List ℕ) (count : ℕ) : Type 0 where
  pub some : 0 < count
  pub begins : (length before % 2 ^ 20 ≡ 0) ⊎ NoPadLast in_end before
  pub within : length before % 2 ^ 20 + count ≤ 2 ^ 20

-- what counts as one record after these bytes of the data: all PADs of a run, or a record that is no PAD of one byte
pub data CountsAsOne (in_end : Bool) (before : List ℕ) (ws : List WideRecord) (bytes : List ℕ) : Type 0 where
  AsRun : (count : ℕ) → IsRun in_end before count → pads count ≡ ws → replicate count 0 ≡ bytes → CountsAsOne in_end before ws bytes
  AsOther : (w : WideRecord) → inner_in in_end w bytes → bytes ≢ 0 ∷ [] → w ∷ [] ≡ ws → CountsAsOne in_end before ws bytes

-- in data that are records that are prepared: at the last of them, or at the first PAD of the run that the last is in
pub record EndsInData (limits : Limits) (dropping : Dropping) (in_end : Bool) (records : List WideRecord) (plain : List ℕ) (within : ℕ) : Type 0 where
  pub before : List ℕ
  pub last : List ℕ
  pub inner : List WideRecord
  pub ws : List WideRecord
  pub place : within ≡ length before
  pub joined : plain ≡ before ++ last
  pub each : IsEach (inner_in in_end) inner before
  pub one : CountsAsOne in_end before ws last
  pub prepared : AllPrepared limits dropping (records ++ (inner ++ ws))

-- the stream of these bytes doesn't end as it should, and gives this
abbrev pub IsVain : BlockHead → List ℕ → List ℕ → Type 0
IsVain head plain packed = (length packed ≡ head.deflated) × (IsUnfinished plain packed ⊎ IsOther head plain packed)

-- in a block with that head and these bytes: they encode data in which it stops there, or none, and it stops in what their
-- stream gives, or at the last record of that
pub data StopsInBytes (limits : Limits) (dropping : Dropping) (in_end : Bool) (records : List WideRecord) (head : BlockHead) (packed : List ℕ) (within : ℕ) : Type 0 where
  ByData : (plain : List ℕ) → Represents head packed plain → StopsInData limits dropping in_end records plain within → StopsInBytes limits dropping in_end records head packed within
  ByStream : (plain : List ℕ) → IsVain head plain packed → StopsInData limits dropping in_end records plain within ⊎ EndsInData limits dropping in_end records plain within →
      StopsInBytes limits dropping in_end records head packed within

-- at a block: its head is there, and it stops in the bytes after it
pub record AtBlock (limits : Limits) (dropping : Dropping) (b : List ℕ) (at within : ℕ) : Type 0 where
  pub left : List ℕ
  pub start : WideStart
  pub records : List WideRecord
  pub before : IsBefore limits dropping b left at start records
  pub head : BlockHead
  pub begin : List ℕ
  pub packed : List ℕ
  pub rest : List ℕ
  pub begun : head_in start.flag_in_end head begin
  pub joined : left ≡ begin ++ (packed ++ rest)
  pub stops : StopsInBytes limits dropping start.flag_in_end records head packed within

-- a place at which it stops
abbrev pub StopsAt : Limits → Dropping → List ℕ → Place → Type 0
StopsAt limits dropping b (File at) = StopsInFile limits dropping b at
StopsAt limits dropping b (Block block within) = AtBlock limits dropping b block within

-- in these bytes a block's head is at that offset, after the head of a file and records
pub record HasBlock (old : Script) (bytes : List ℕ) (at : ℕ) : Type 0 where
  pub start : WideStart
  pub records : List WideRecord
  pub before : List ℕ
  pub head : BlockHead
  pub begin : List ℕ
  pub rest : List ℕ
  pub front : WidePrefixOf start records before
  pub begun : head_in start.flag_in_end head begin
  pub joined : bytes ≡ before ++ (begin ++ rest)
  pub place : at ≡ old.given + length before

-- a place in a block is in one that is there
abbrev pub IsPlace : Script → List ℕ → Place → Type 0
IsPlace old bytes (File at) = Unit {0}
IsPlace old bytes (Block block within) = HasBlock old bytes block

-- a rejection at an offset in the file
abbrev pub at_file : ℕ → WideWhy → Rejection
at_file at why = record { place = File at; why = why }
