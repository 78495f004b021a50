-- The laws of numbers of names. Records are listed newest first, and `given` is a class of name records.
use Rattle.std.specs.Prelude.{◌≡◌, ◌≢◌, ◌↔◌, ℕ, List, ◌∷◌, ◌++◌, Option, None, Some, unwrap_or}
use Rattle.oas_num.specs.declared.refusals.Why.TheVariants.{MixedNumbering, NumberTwice}
use Rattle.oas_record.specs.declared.records.Record.{Record}
use Rattle.oas_reader.specs.declared.names.Numbering.{Numbering}
use Rattle.oas_reader.specs.declared.names.Numbering.TheVariants.{Implicit, Explicit}
use Rattle.oas_reader.specs.Names.{same_string, numbering_given, numbering_of, next_number, named, name_of, name_reason, AllowedNames, Table, table_reason, with_name, TableRepresents}
use Rattle.oas_reader.specs.References.{IsUsed}

-- one of the records gives the number to the string
pub record HasValidName (given : Record → Option (List ℕ × Option ℕ)) (rs : List Record) (number : ℕ) (string : List ℕ) : Type 0 where
  pub after : List Record
  pub by : Record
  pub before : List Record
  pub said : Option ℕ
  pub split : rs ≡ after ++ by ∷ before
  pub gave : given by ≡ Some (string, said)
  pub number_is : number ≡ unwrap_or said (next_number given before)

-- one of the records is a name record of this numbering
pub record HasNumbering (given : Record → Option (List ℕ × Option ℕ)) (rs : List Record) (numbering : Numbering) : Type 0 where
  pub after : List Record
  pub by : Record
  pub before : List Record
  pub string : List ℕ
  pub said : Option ℕ
  pub split : rs ≡ after ++ by ∷ before
  pub gave : given by ≡ Some (string, said)
  pub numbering_is : numbering_given said ≡ numbering

abbrev pub other_numbering : Numbering → Numbering
other_numbering Implicit = Explicit
other_numbering Explicit = Implicit

-- a table that represents the records refuses one more for the reason for which the records do
abbrev pub RefusesAsRecords : (Record → Option (List ℕ × Option ℕ)) → Type 0
RefusesAsRecords given =
    (t : Table (List ℕ)) (before : List Record) (r : Record) → TableRepresents given t before → table_reason same_string t (given r) ≡ name_reason same_string given before r

-- and once it has taken one more that isn't refused, it represents the list with that one
abbrev pub StandsForMore : (Record → Option (List ℕ × Option ℕ)) → Type 0
StandsForMore given =
    (t : Table (List ℕ)) (before : List Record) (r : Record) → TableRepresents given t before → name_reason same_string given before r ≡ None → TableRepresents given (with_name t (given r)) (r ∷ before)

-- in records that are allowed, the numbering is that of each
abbrev pub NumberingIsOfEach : (Record → Option (List ℕ × Option ℕ)) → Type 0
NumberingIsOfEach given =
    (rs : List Record) (numbering : Numbering) → AllowedNames same_string given rs → (numbering_of given rs ≡ Some numbering) ↔ HasNumbering given rs numbering

-- and the string of a number is the one that some record gives it
abbrev pub StringIsGiven : (Record → Option (List ℕ × Option ℕ)) → Type 0
StringIsGiven given =
    (rs : List Record) (number : ℕ) (string : List ℕ) → AllowedNames same_string given rs → (name_of (named given rs) number ≡ Some string) ↔ HasValidName given rs number string

-- a number has no string exactly if no record gives it one
abbrev pub NoStringIsGiven : (Record → Option (List ℕ × Option ℕ)) → Type 0
NoStringIsGiven given =
    (rs : List Record) (number : ℕ) → (name_of (named given rs) number ≡ None) ↔ ((string : List ℕ) → ¬ HasValidName given rs number string)

-- a name record is refused with MixedNumbering exactly after a record of the other numbering
abbrev pub MixedWhere : (Record → Option (List ℕ × Option ℕ)) → Type 0
MixedWhere given =
    (before : List Record) (r : Record) (string : List ℕ) (number : Option ℕ) → AllowedNames same_string given before → given r ≡ Some (string, number) →
    (name_reason same_string given before r ≡ Some MixedNumbering) ↔ HasNumbering given before (other_numbering (numbering_given number))

-- and with NumberTwice exactly if there is no such record, and one gives its number to another string
abbrev pub TwiceWhere : (Record → Option (List ℕ × Option ℕ)) → Type 0
TwiceWhere given =
    (before : List Record) (r : Record) (string : List ℕ) (number : Option ℕ) → AllowedNames same_string given before → given r ≡ Some (string, number) →
    (name_reason same_string given before r ≡ Some NumberTwice) ↔
    ((¬ HasNumbering given before (other_numbering (numbering_given number))) × ((had : List ℕ) × HasValidName given before (unwrap_or number (next_number given before)) had × (had ≢ string)))

-- the first of records that are allowed are allowed
abbrev pub AllowedPrefix : (Record → Option (List ℕ × Option ℕ)) → Type 0
AllowedPrefix given = (later before : List Record) → AllowedNames same_string given (later ++ before) → AllowedNames same_string given before

-- and what a number names then it names from there on
abbrev pub NamesStay : (Record → Option (List ℕ × Option ℕ)) → Type 0
NamesStay given =
    (later before : List Record) (number : ℕ) (string : List ℕ) → AllowedNames same_string given (later ++ before) → name_of (named given before) number
    ≡ Some string → name_of (named given (later ++ before)) number ≡ Some string

-- one of the records uses a number that none of them gives to a string
abbrev pub UsesUnknown : (Record → Option ℕ) → (Record → Option (List ℕ × Option ℕ)) → List Record → Type 0
UsesUnknown used given rs = (number : ℕ) × IsUsed used rs number × ((string : List ℕ) → ¬ HasValidName given rs number string)
