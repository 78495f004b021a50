-- What the parts of a read do: for one record, for all records, for the end of the input.
use Rattle.std.specs.Prelude.{◌≡◌, ◌⊎◌, ℕ, ◌+◌, Bool, true, false, List, [], ◌∷◌, ◌++◌, length, Option, None, Some, Result, Ok, Err}
use Rattle.oas_num.specs.declared.refusals.Why.{Why}
use Rattle.oas_num.specs.declared.refusals.Why.TheVariants.{TrailingBytes, Read, InputTooLong, Memory}
use Rattle.oas_num.specs.declared.refusals.Refusal.{Refusal}
use Rattle.oas_num.specs.Grammar.{IsSuch}
use Rattle.oas_num.specs.Reading.{ReadsValue, FailsPiece}
use Rattle.oas_num.specs.Script.{Script, Consumed, IsAtEnd, HasFailed, IsTooLong}
use Rattle.oas_num.specs.Style.{Any}
use Rattle.oas_record.specs.declared.heads.Head.{Head}
use Rattle.oas_record.specs.declared.records.Record.{Record}
use Rattle.oas_record.specs.declared.records.Record.TheVariants.{End}
use Rattle.oas_record.specs.Records.{record_in, IsInner}
use Rattle.oas_record.specs.Refusals.{RecordTook}
use Rattle.oas_reader.specs.Stores.{Store}
use Rattle.oas_reader.specs.Standing.{MayRunOut}
use Rattle.oas_reader.specs.Stands.{ReaderState, Represents, refusal as refusal_of}
use Rattle.oas_file.specs.Acceptance.{Allowed}
use Rattle.oas_file.specs.Files.{PrefixOf}
use Rattle.oas_file.specs.Reading.{Refuses}

-- ---- one record

-- a record before END
abbrev pub inner_in : Bool → Record → List ℕ → Type 0
inner_in in_end = IsSuch IsInner (record_in Any in_end)

-- it was taken, or END was, or neither can be
abbrev pub ConsumesNext : Bool → Script → Result (Option Record) Refusal → Script → Type 0
ConsumesNext in_end old (Ok (Some r)) new = ReadsValue (inner_in in_end) old r new
ConsumesNext in_end old (Ok None) new = ReadsValue (record_in Any in_end) old End new
ConsumesNext in_end old (Err refusal) new = (refusal.at ≡ old.given) × FailsPiece (record_in Any in_end) (RecordTook in_end) old refusal.why new

-- ---- all records

module _ {C : Type 0} where
  -- a read that began at an origin has taken the head, and the reader has no records yet
  pub record HasBegun (t : Store C) (head : Head) (now : Script) (s : ReaderState C) : Type 0 where
    pub origin : Script
    pub bytes : List ℕ
    pub takes : Consumed origin bytes now
    pub front : PrefixOf head [] bytes
    pub stands : Represents t s []

  -- what is for the whole file stays
  pub record SameFile (first s : ReaderState C) : Type 0 where
    pub unit : s.unit ≡ first.unit
    pub limits : s.limits ≡ first.limits
    pub profile : s.profile ≡ first.profile

  -- the reader represents records that are allowed
  pub record HasTaken (t : Store C) (first s : ReaderState C) (records : List Record) : Type 0 where
    pub stands : Represents t s records
    pub allowed : Allowed first.limits records
    pub same : SameFile first s

  -- the head and some records were taken
  pub record HasGathered (t : Store C) (origin : Script) (head : Head) (first : ReaderState C) (now : Script) (s : ReaderState C) : Type 0 where
    pub records : List Record
    pub bytes : List ℕ
    pub takes : Consumed origin bytes now
    pub front : PrefixOf head records bytes
    pub taken : HasTaken t first s records

  -- the head, all records and END were taken; END begins at that offset
  pub record HasAll (t : Store C) (origin : Script) (head : Head) (first : ReaderState C) (at : ℕ) (now : Script) (s : ReaderState C) : Type 0 where
    pub records : List Record
    pub bytes : List ℕ
    pub last : List ℕ
    pub takes : Consumed origin (bytes ++ last) now
    pub front : PrefixOf head records bytes
    pub end : record_in Any head.flag_in_end End last
    pub place : at ≡ origin.given + length bytes
    pub taken : HasTaken t first s records

  -- a record was read, and the reader represents it too
  pub record HasTakenOne (t : Store C) (in_end : Bool) (old : Script) (first : ReaderState C) (new : Script) (s : ReaderState C) : Type 0 where
    pub next : Record
    pub read : ReadsValue (inner_in in_end) old next new
    pub taken : (records : List Record) → Represents t first records → (refusal_of first.limits records next ≡ None) × Represents t s (records ++ next ∷ [])
    pub same : SameFile first s

  -- a record was read, and the reader refused it
  pub record RefusesOne (t : Store C) (in_end : Bool) (old : Script) (first : ReaderState C) (refusal : Refusal) (new : Script) : Type 0 where
    pub next : Record
    pub read : ReadsValue (inner_in in_end) old next new
    pub reason : (records : List Record) → Represents t first records
        → (refusal.at ≡ old.given) × (((refusal.why ≡ Memory) × MayRunOut (refusal_of first.limits records next)) ⊎ (refusal_of first.limits records next ≡ Some refusal.why))

  -- the next record was taken, or END was, or it is refused
  abbrev pub ConsumesOne : Store C → Bool → Script → ReaderState C → Result Bool Refusal → Script → ReaderState C → Type 0
  ConsumesOne t in_end old first (Ok true) new s = HasTakenOne t in_end old first new s
  ConsumesOne t in_end old first (Ok false) new s = ReadsValue (record_in Any in_end) old End new × (s ≡ first)
  ConsumesOne t in_end old first (Err refusal) new s = ((refusal.at ≡ old.given) × FailsPiece (record_in Any in_end) (RecordTook in_end) old refusal.why new) ⊎ RefusesOne t in_end old first refusal new

  abbrev pub Gathers : Store C → Head → Script → ReaderState C → Result ℕ Refusal → Script → ReaderState C → Type 0
  Gathers t head old first (Ok at) new s = (b : HasBegun t head old first) → HasAll t b.origin head first at new s
  Gathers t head old first (Err refusal) new s = (b : HasBegun t head old first) → Refuses first.limits b.origin refusal new

-- ---- the end of the input

-- it isn't there, because of a byte, the device, or a byte after the limit
abbrev pub MissesEnd : Script → Why → Script → Type 0
MissesEnd old TrailingBytes new = (byte : ℕ) × Consumed old (byte ∷ []) new
MissesEnd old Read new = Consumed old [] new × HasFailed new
MissesEnd old InputTooLong new = Consumed old [] new × IsTooLong new
MissesEnd old _ new = ⊥

abbrev pub FindsEnd : Script → Result Unit Refusal → Script → Type 0
FindsEnd old (Ok done) new = Consumed old [] new × IsAtEnd new
FindsEnd old (Err refusal) new = (refusal.at ≡ old.given) × MissesEnd old refusal.why new
