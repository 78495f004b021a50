-- Where a read of a record may fail.
use Rattle.std.specs.Prelude.{◌≡◌, ◌≢◌, ℕ, ◌<◌, ◌≤◌, Bool, true, false, List, ◌++◌, length, ◌⊎◌, Option, Some, None, Result, Ok, Err}
use Rattle.oas_num.specs.declared.refusals.Why.{Why}
use Rattle.oas_num.specs.declared.refusals.Why.TheVariants.{RecordLeftOut, UnknownRecord, OutOfPlace, EndLength}
use Rattle.oas_num.specs.declared.refusals.Refusal.{Refusal}
use Rattle.oas_num.specs.Integers.{IsUnsigned}
use Rattle.oas_num.specs.Pieces.{PairTook, SuchTook}
use Rattle.oas_num.specs.Reading.{ReadsValue, FailsPiece, IntegerMay}
use Rattle.oas_num.specs.Style.{Any}
use Rattle.oas_num.specs.Script.{Script}
use Rattle.oas_record.specs.declared.records.Record.{Record}
use Rattle.oas_record.specs.Ends.{end_in}
use Rattle.oas_record.specs.Trees.{has_row}
use Rattle.oas_record.specs.Records.{id_of, table, after, record_in}

-- the ids that the profile has, but for START's: those of the table, in which it is nothing where the table-offsets stand
unfoldable pub is_known : ℕ → Bool
is_known id = has_row id (table false)

abbrev pub IsKnown : ℕ → Type 0
IsKnown id = is_known id ≡ true

-- those of the standard that it leaves out
abbrev pub IsLeftOut : ℕ → Type 0
IsLeftOut id = (id ≢ 1) × (id ≤ 34) × (is_known id ≡ false)

-- there is a record with that id
abbrev pub HasRecord : Bool → ℕ → Type 0
HasRecord in_end id = (r : Record) × (bytes : List ℕ) × record_in Any in_end r bytes × (id_of r ≡ id)

-- no record has that id here, for that reason
abbrev pub IsRefusedId : ℕ → Why → Type 0
IsRefusedId id (OutOfPlace n) = (n ≡ id) × (id ≡ 1)
IsRefusedId id (UnknownRecord n) = (n ≡ id) × (34 < id)
IsRefusedId id (RecordLeftOut n) = (n ≡ id) × IsLeftOut id
IsRefusedId id _ = ⊥

-- why an id is refused, if it is
abbrev pub RefusesId : ℕ → Option Why → Type 0
RefusesId id None = IsKnown id
RefusesId id (Some why) = IsRefusedId id why

-- END in all its parts, but not 256 bytes long
pub record IsWrongEnd (in_end : Bool) (bytes : List ℕ) : Type 0 where
  pub id : List ℕ
  pub back : List ℕ
  pub is_end : IsUnsigned 2 id
  pub parts : end_in Any in_end tt back
  pub joined : bytes ≡ id ++ back
  pub wrong : length bytes ≢ 256

-- The tables below say for each reason what all the bytes are that were taken, from the record's first on.

-- where a read of an id may fail
abbrev pub IdTook : Why → List ℕ → Type 0
IdTook = SuchTook IsUnsigned IntegerMay IsRefusedId

-- Where a read of what follows an id may fail. Where nothing follows, nothing fails.
abbrev pub AfterTook : Bool → ℕ → Why → List ℕ → Type 0
AfterTook in_end id = (after in_end id).took

-- where a read of a record may fail: in its id, or in what follows that id; or it is END, whole, and not 256 bytes long
abbrev pub RecordTook : Bool → Why → List ℕ → Type 0
RecordTook in_end why bytes = PairTook IsUnsigned IdTook (AfterTook in_end) why bytes ⊎ ((why ≡ EndLength) × IsWrongEnd in_end bytes)

-- The same as `ReadsPiece`, with the place: the offset of the first byte that the read found.
abbrev pub ReadsAt : {V : Type 0} → (V → List ℕ → Type 0) → (Why → List ℕ → Type 0) → Script → Result V Refusal → Script → Type 0
ReadsAt spells took old (Ok v) new = ReadsValue spells old v new
ReadsAt spells took old (Err refusal) new = (refusal.at ≡ old.given) × FailsPiece spells took old refusal.why new
