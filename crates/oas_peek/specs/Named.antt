-- A placement or a text at the start of some bytes.
use Rattle.std.specs.Prelude.{◌≡◌, ℕ, ◌≤◌, Bool, true, false, IsTrue, List, ◌++◌, length, take, Option, None, Some}
use Rattle.oas_num.specs.Style.{Any, Shortest}
use Rattle.oas_num.specs.Texts.{IsName, IsLabel}
use Rattle.oas_record.specs.declared.references.CellRef.{CellRef}
use Rattle.oas_record.specs.declared.references.CellRef.TheVariants as cell
use Rattle.oas_record.specs.declared.references.TextRef.{TextRef}
use Rattle.oas_record.specs.declared.references.TextRef.TheVariants as text
use Rattle.oas_record.specs.declared.placements.Turn.TheVariants.{Quarters}
use Rattle.oas_record.specs.declared.records.Record.{Record}
use Rattle.oas_record.specs.declared.records.Record.TheVariants as record_of
use Rattle.oas_record.specs.Records.{id_of, after_id, record_in}
use Rattle.oas_record.specs.Kinds.{number}
use Rattle.oas_peek.specs.Fronts.{Left, ConsumesPrefix}
use Rattle.oas_peek.specs.declared.named.Given.{Given}
use Rattle.oas_peek.specs.declared.named.Given.TheVariants.{Modal, Number, Bytes}
use Rattle.oas_peek.specs.declared.named.NamedOnce.{NamedOnce}
use Rattle.oas_peek.specs.declared.named.NamedOnce.TheVariants.{Placement, Text}
use Rattle.oas_peek.specs.declared.named.PeekedNamed.{PeekedNamed}

-- the cell, or the string, that is given
abbrev pub cell_given : Given → Option CellRef
cell_given Modal = None
cell_given (Number number) = Some (cell.Number number)
cell_given (Bytes bytes) = Some (cell.Name bytes.now)

abbrev pub string_given : Given → Option TextRef
string_given Modal = None
string_given (Number number) = Some (text.Number number)
string_given (Bytes bytes) = Some (text.Label bytes.now)

-- its record, which gives no repetition
abbrev pub named_record : NamedOnce → Record
named_record (Placement c quarters flip x y) = record_of.Placement (record { cell = cell_given c; turn = Quarters quarters; flip = flip; spot = (record { x = x; y = y; repetition = None }) })
named_record (Text s textlayer texttype x y) = record_of.Text (record { string = string_given s; textlayer = textlayer; texttype = texttype; spot = (record { x = x; y = y; repetition = None }) })

-- bytes that are given for a name are a name, and those for a string are a string
abbrev pub HasValidCell : Given → Type 0
HasValidCell (Bytes bytes) = IsName bytes.now
HasValidCell _ = Unit {0}

abbrev pub HasValidString : Given → Type 0
HasValidString (Bytes bytes) = IsLabel bytes.now
HasValidString _ = Unit {0}

abbrev pub HasValidName : NamedOnce → Type 0
HasValidName (Placement c quarters flip x y) = HasValidCell c
HasValidName (Text s textlayer texttype x y) = HasValidString s

-- This many of the bytes spell it, in a file with its table-offsets at either place; its name, if it gives one, is valid.
pub record IsPeekedNamed (bytes : List ℕ) (r : PeekedNamed) : Type 0 where
  pub within : r.length ≤ length bytes
  pub named : HasValidName r.element
  pub spelled : (in_end : Bool) → record_in Any in_end (named_record r.element) (take r.length bytes)
  pub shortest : IsTrue r.shortest → (in_end : Bool) → record_in Shortest in_end (named_record r.element) (take r.length bytes)

-- bytes were taken after their length
pub record ConsumesBytes (bytes : List ℕ) (old new : Left) : Type 0 where
  pub mid : Left
  pub len : ConsumesPrefix number (length bytes) old mid
  pub joined : mid.bytes ≡ bytes ++ new.bytes
  pub shortest : new.shortest ≡ mid.shortest

-- what is given was taken, by its number or itself, or nothing is given
abbrev pub ConsumesGiven : Bool → Bool → Given → Left → Left → Type 0
ConsumesGiven here numbered Modal old new = (here ≡ false) × (new ≡ old)
ConsumesGiven here numbered (Number n) old new = (here ≡ true) × (numbered ≡ true) × ConsumesPrefix number n old new
ConsumesGiven here numbered (Bytes bytes) old new = (here ≡ true) × (numbered ≡ false) × ConsumesBytes bytes.now old new

-- what follows the id of a record was taken
pub record ConsumesAfter (id : ℕ) (r : Record) (old new : Left) : Type 0 where
  pub bytes : List ℕ
  pub joined : old.bytes ≡ bytes ++ new.bytes
  pub spelled : (in_end : Bool) → after_id Any in_end id r bytes
  pub shortest : IsTrue new.shortest → IsTrue old.shortest × ((in_end : Bool) → after_id Shortest in_end id r bytes)

-- an element was taken after its id, if its name is valid
pub record ConsumesNamed (id : ℕ) (element : NamedOnce) (old new : Left) : Type 0 where
  pub is : id_of (named_record element) ≡ id
  pub fewer : length new.bytes ≤ length old.bytes
  pub takes : HasValidName element → ConsumesAfter id (named_record element) old new
