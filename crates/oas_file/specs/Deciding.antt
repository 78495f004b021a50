-- Which bytes decide that a file is refused: those taken last, after bytes that begin what may be at the refusal's place.
-- Where the input was cut off, nothing that is allowed there was whole before.
use Rattle.std.specs.Prelude.{◌≡◌, ℕ, ◌+◌, false, List, [], ◌∷◌, ◌++◌, length, IsTrue, ◌⊎◌, Some}
use Rattle.oas_num.specs.declared.refusals.Why.{Why}
use Rattle.oas_num.specs.declared.refusals.Why.TheVariants.{Read, InputTooLong, Memory, TrailingBytes}
use Rattle.oas_num.specs.declared.refusals.Refusal.{Refusal}
use Rattle.oas_num.specs.Begun.{Decides}
use Rattle.oas_num.specs.Reading.{is_cut, NoneWithin}
use Rattle.oas_num.specs.Script.{Script, Consumed}
use Rattle.oas_num.specs.Style.{Any}
use Rattle.oas_record.specs.declared.heads.Head.{Head}
use Rattle.oas_record.specs.declared.records.Record.{Record}
use Rattle.oas_record.specs.declared.records.Record.TheVariants.{End}
use Rattle.oas_record.specs.Heads.{magic, IsMagic, MagicMay, start_in, StartTook}
use Rattle.oas_record.specs.Records.{record_in}
use Rattle.oas_record.specs.Refusals.{RecordTook}
use Rattle.oas_elements.specs.declared.limits.Limits.{Limits}
use Rattle.oas_reader.specs.Standing.{MayRunOut}
use Rattle.oas_reader.specs.Stands.{refusal, end_refusal}
use Rattle.oas_file.specs.Places.{IsBefore}

-- in the magic
pub record InMagic (taken : List ℕ) (at : ℕ) (why : Why) : Type 0 where
  pub place : at ≡ 0
  pub decides : Decides false IsMagic (MagicMay why) taken
  pub cut : IsTrue (is_cut why) → NoneWithin IsMagic taken

-- in START
pub record InStart (taken : List ℕ) (at : ℕ) (why : Why) : Type 0 where
  pub left : List ℕ
  pub place : at ≡ 13
  pub joined : taken ≡ magic ++ left
  pub took : StartTook why left
  pub cut : IsTrue (is_cut why) → NoneWithin (start_in Any) left

-- in a record or END
pub record InRecord (limits : Limits) (taken : List ℕ) (at : ℕ) (why : Why) : Type 0 where
  pub left : List ℕ
  pub head : Head
  pub records : List Record
  pub before : IsBefore limits taken left at head records
  pub took : RecordTook head.flag_in_end why left
  pub cut : IsTrue (is_cut why) → NoneWithin (record_in Any head.flag_in_end) left

-- a record that was read isn't taken after those before it: for the first reason that holds, or out of memory, where none
-- holds, or only that a copy is outside the grid
pub record AsRecord (limits : Limits) (taken : List ℕ) (at : ℕ) (why : Why) : Type 0 where
  pub left : List ℕ
  pub head : Head
  pub records : List Record
  pub next : Record
  pub before : IsBefore limits taken left at head records
  pub spelled : record_in Any head.flag_in_end next left
  pub reason : ((why ≡ Memory) × MayRunOut (refusal limits records next)) ⊎ (refusal limits records next ≡ Some why)

-- why the input doesn't end
abbrev pub EndingMay : Why → List ℕ → Type 0
EndingMay TrailingBytes tail = (byte : ℕ) × (tail ≡ byte ∷ [])
EndingMay Read tail = tail ≡ []
EndingMay InputTooLong tail = tail ≡ []
EndingMay _ tail = ⊥

-- after END
pub record PastEnd (limits : Limits) (taken : List ℕ) (at : ℕ) (why : Why) : Type 0 where
  pub left : List ℕ
  pub head : Head
  pub records : List Record
  pub start : ℕ
  pub before : IsBefore limits taken left start head records
  pub last : List ℕ
  pub tail : List ℕ
  pub end : record_in Any head.flag_in_end End last
  pub joined : left ≡ last ++ tail
  pub place : at ≡ start + length last
  pub reason : EndingMay why tail

-- all that is read, at END: for the first reason that holds, or out of memory
pub record AsWhole (limits : Limits) (taken : List ℕ) (at : ℕ) (why : Why) : Type 0 where
  pub left : List ℕ
  pub head : Head
  pub records : List Record
  pub before : IsBefore limits taken left at head records
  pub end : record_in Any head.flag_in_end End left
  pub reason : (why ≡ Memory) ⊎ (end_refusal limits records ≡ Some why)

-- the bytes that were taken decide that the file is refused there, for that reason
pub data DecidedAt (limits : Limits) (taken : List ℕ) (at : ℕ) (why : Why) : Type 0 where
  TheMagic : InMagic taken at why → DecidedAt limits taken at why
  TheStart : InStart taken at why → DecidedAt limits taken at why
  TheRecord : InRecord limits taken at why → DecidedAt limits taken at why
  TheNext : AsRecord limits taken at why → DecidedAt limits taken at why
  TheTail : PastEnd limits taken at why → DecidedAt limits taken at why
  TheWhole : AsWhole limits taken at why → DecidedAt limits taken at why

-- Where memory may run out for a file whose bytes are kept, record by record, as they are read: at its beginning, in START,
-- or at a record or END that comes after records that are allowed.
pub data OutOfMemoryAt (limits : Limits) (taken : List ℕ) (at : ℕ) : Type 0 where
  ForFirst : at ≡ 0 → OutOfMemoryAt limits taken at
  ForStart : (left : List ℕ) → at ≡ 13 → taken ≡ magic ++ left → OutOfMemoryAt limits taken at
  ForNext : (left : List ℕ) (head : Head) (records : List Record) → IsBefore limits taken left at head records → OutOfMemoryAt limits taken at

-- it did, for a source that had given nothing before
pub record HasNoMemory (limits : Limits) (old : Script) (refused : Refusal) (new : Script) : Type 0 where
  pub reason : refused.why ≡ Memory
  pub bytes : List ℕ
  pub takes : Consumed old bytes new
  pub place : old.given ≡ 0 → OutOfMemoryAt limits bytes refused.at

-- for a source that had given nothing before
pub record IsReasoned (limits : Limits) (old : Script) (refused : Refusal) (new : Script) : Type 0 where
  pub bytes : List ℕ
  pub takes : Consumed old bytes new
  pub decided : old.given ≡ 0 → DecidedAt limits bytes refused.at refused.why
