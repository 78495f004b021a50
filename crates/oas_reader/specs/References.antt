-- What references to names mean: cells in CELL and PLACEMENT records, strings in TEXT records, each by itself or by a number.
-- Records are listed newest first; numbers are looked up in the whole file.
use Rattle.std.specs.Prelude.{◌≡◌, ℕ, Bool, false, ◌||◌, List, [], ◌∷◌, ◌++◌, Option, None, Some, is_none}
use Rattle.oas_record.specs.declared.records.Record.{Record}
use Rattle.oas_record.specs.declared.records.Record.TheVariants as record_of
use Rattle.oas_record.specs.declared.references.CellRef.{CellRef}
use Rattle.oas_record.specs.declared.references.CellRef.TheVariants as cell
use Rattle.oas_record.specs.declared.references.TextRef.{TextRef}
use Rattle.oas_record.specs.declared.references.TextRef.TheVariants as text
use Rattle.oas_reader.specs.Names.{cell_names, text_strings, named, name_of}

-- the cell, where each number has these names; None where a number has none
abbrev pub cell_by : List (ℕ × List ℕ) → CellRef → Option (List ℕ)
cell_by names (cell.Number number) = name_of names number
cell_by names (cell.Name name) = Some name

-- the string, likewise
abbrev pub string_by : List (ℕ × List ℕ) → TextRef → Option (List ℕ)
string_by names (text.Number number) = name_of names number
string_by names (text.Label label) = Some label

abbrev pub cell_number : CellRef → Option ℕ
cell_number (cell.Number number) = Some number
cell_number (cell.Name name) = None

abbrev pub string_number : TextRef → Option ℕ
string_number (text.Number number) = Some number
string_number (text.Label label) = None

abbrev pub cell_number_if : Option CellRef → Option ℕ
cell_number_if None = None
cell_number_if (Some c) = cell_number c

abbrev pub string_number_if : Option TextRef → Option ℕ
string_number_if None = None
string_number_if (Some t) = string_number t

-- the number by which a record gives a cell, if it does
abbrev pub cell_used : Record → Option ℕ
cell_used (record_of.Cell c) = cell_number c
cell_used (record_of.Placement p) = cell_number_if p.cell
cell_used _ = None

-- the number by which a record gives a text string, if it does
abbrev pub string_used : Record → Option ℕ
string_used (record_of.Text t) = string_number_if t.string
string_used _ = None

abbrev pub is_unknown : List (ℕ × List ℕ) → Option ℕ → Bool
is_unknown names None = false
is_unknown names (Some number) = is_none (name_of names number)

-- whether a record uses a number that these names don't have
abbrev pub uses_unknown : (Record → Option ℕ) → List (ℕ × List ℕ) → List Record → Bool
uses_unknown used names [] = false
uses_unknown used names (r ∷ rs) = is_unknown names (used r) || uses_unknown used names rs

-- whether a number is used in the file of these records that no name record of it names; refused with UnknownReference at END
abbrev pub lacks_name : List Record → Bool
lacks_name rs = uses_unknown cell_used (named cell_names rs) rs || uses_unknown string_used (named text_strings rs) rs

-- one of the records uses the number
pub record IsUsed (used : Record → Option ℕ) (rs : List Record) (number : ℕ) : Type 0 where
  pub after : List Record
  pub by : Record
  pub before : List Record
  pub split : rs ≡ after ++ by ∷ before
  pub gave : used by ≡ Some number
