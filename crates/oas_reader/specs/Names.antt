-- The numbers that name records give to strings (SEMI P39, CELLNAME record, TEXTSTRING record). Records are listed newest
-- first. `given` is a class of name records: for a record of the class the string, and the number where it gives one; for any
-- other record None.
use Rattle.std.specs.Prelude.{◌≡◌, ◌≢◌, ℕ, ◌+◌, ◌≤◌, nat_eq, ◌==◌, Bool, true, false, not, List, [], ◌∷◌, length, Option, None, Some, unwrap_or}
use Rattle.std.specs.Ordering.{nat_cmp}
use Rattle.std.specs.Cmp.Lexicographic.{pointwise}
use Rattle.std.specs.Map.{lookup}
use Rattle.std.specs.BTreeMap.{insert_entry}
use Rattle.oas_num.specs.declared.refusals.Why.{Why}
use Rattle.oas_num.specs.declared.refusals.Why.TheVariants.{MixedNumbering, NumberTwice}
use Rattle.oas_record.specs.declared.records.Record.{Record}
use Rattle.oas_record.specs.declared.records.Record.TheVariants as record_of
use Rattle.oas_drawing.specs.Reasons.{first_of}
use Rattle.oas_reader.specs.declared.names.Numbering.{Numbering}
use Rattle.oas_reader.specs.declared.names.Numbering.TheVariants.{Implicit, Explicit}

-- the class of CELLNAME records
abbrev pub cell_names : Record → Option (List ℕ × Option ℕ)
cell_names (record_of.CellName name number) = Some (name, number)
cell_names _ = None

-- the class of TEXTSTRING records
abbrev pub text_strings : Record → Option (List ℕ × Option ℕ)
text_strings (record_of.TextString label number) = Some (label, number)
text_strings _ = None

-- the numbering of a record with this number, or with none
abbrev pub numbering_given : Option ℕ → Numbering
numbering_given None = Implicit
numbering_given (Some number) = Explicit

-- one more where no number is given
abbrev pub counted : Option ℕ → ℕ → ℕ
counted None n = n + 1
counted (Some number) n = n

-- whether a class with this numbering already has records of the other one
abbrev pub is_mixed : Option Numbering → Numbering → Bool
is_mixed None numbering = false
is_mixed (Some Implicit) Implicit = false
is_mixed (Some Implicit) Explicit = true
is_mixed (Some Explicit) Implicit = true
is_mixed (Some Explicit) Explicit = false

-- a table's contents: its numbering, and numbers with their strings
pub record Table (S : Type 0) : Type 0 where
  pub numbering : Option Numbering
  pub named : List (ℕ × S)

module _ {S : Type 0} where
  abbrev pub numbering_after : Option (S × Option ℕ) → Option Numbering → Option Numbering
  numbering_after None numbering = numbering
  numbering_after (Some g) numbering = Some (numbering_given g.1)

  -- the numbering of the latest record of the class; None before the first
  abbrev pub numbering_of : (Record → Option (S × Option ℕ)) → List Record → Option Numbering
  numbering_of given [] = None
  numbering_of given (r ∷ before) = numbering_after (given r) (numbering_of given before)

  abbrev pub next_after : Option (S × Option ℕ) → ℕ → ℕ
  next_after None next = next
  next_after (Some g) next = counted g.1 next

  -- the number of the next implicit record: how many there are
  abbrev pub next_number : (Record → Option (S × Option ℕ)) → List Record → ℕ
  next_number given [] = 0
  next_number given (r ∷ before) = next_after (given r) (next_number given before)

  abbrev pub named_after : Option (S × Option ℕ) → ℕ → List (ℕ × S) → List (ℕ × S)
  named_after None next names = names
  named_after (Some g) next names = (unwrap_or g.1 next, g.0) ∷ names

  -- each number with its string, one for each record of the class
  abbrev pub named : (Record → Option (S × Option ℕ)) → List Record → List (ℕ × S)
  named given [] = []
  named given (r ∷ before) = named_after (given r) (next_number given before) (named given before)

  -- the string of a number
  abbrev pub name_of : List (ℕ × S) → ℕ → Option S
  name_of names number = lookup (nat_eq number) names

  -- whether a number has a string that isn't the same as this one
  abbrev pub is_other : (S → S → Bool) → Option S → S → Bool
  is_other same None string = false
  is_other same (Some had) string = not (same had string)

  -- why a record that gives this number, or none, to the string is refused, where the class has this numbering, this next
  -- number and these names
  abbrev pub naming_reason : (S → S → Bool) → Option Numbering → ℕ → List (ℕ × S) → S → Option ℕ → Option Why
  naming_reason same numbering next names string number =
      first_of ((is_mixed numbering (numbering_given number), MixedNumbering) ∷ (is_other same (name_of names (unwrap_or number next)) string, NumberTwice) ∷ [])

  abbrev pub reason_given : (S → S → Bool) → Option Numbering → ℕ → List (ℕ × S) → Option (S × Option ℕ) → Option Why
  reason_given same numbering next names None = None
  reason_given same numbering next names (Some g) = naming_reason same numbering next names g.0 g.1

  -- why a record is refused after these; one that isn't of the class never is
  abbrev pub name_reason : (S → S → Bool) → (Record → Option (S × Option ℕ)) → List Record → Record → Option Why
  name_reason same given before r = reason_given same (numbering_of given before) (next_number given before) (named given before) (given r)

  -- no record is refused after those before it
  abbrev pub AllowedNames : (S → S → Bool) → (Record → Option (S × Option ℕ)) → List Record → Type 0
  AllowedNames same given [] = Unit {0}
  AllowedNames same given (r ∷ before) = AllowedNames same given before × (name_reason same given before r ≡ None)

  abbrev pub no_names : Table S
  no_names = record { numbering = None; named = [] }

  -- why a table refuses what a record gives; the next number of a table is the number of its names
  abbrev pub table_reason : (S → S → Bool) → Table S → Option (S × Option ℕ) → Option Why
  table_reason same t given = reason_given same t.numbering (length t.named) t.named given

  -- a table that has taken what a record gives
  abbrev pub with_name : Table S → Option (S × Option ℕ) → Table S
  with_name t None = t
  with_name t (Some g) = record { numbering = Some (numbering_given g.1); named = insert_entry nat_cmp t.named (unwrap_or g.1 (length t.named)) g.0 }

  -- a table has the numbering of these records, and names each number as they do. As long as none of them gives a number, it
  -- has as many names as there are implicit records, and no number from there on has a name
  pub record TableRepresents (given : Record → Option (S × Option ℕ)) (t : Table S) (rs : List Record) : Type 0 where
    pub numbering : t.numbering ≡ numbering_of given rs
    pub agrees : (number : ℕ) → name_of t.named number ≡ name_of (named given rs) number
    pub next : numbering_of given rs ≢ Some Explicit → length t.named ≡ next_number given rs
    pub free : numbering_of given rs ≢ Some Explicit → (number : ℕ) → next_number given rs ≤ number → name_of (named given rs) number ≡ None

-- the test by which cell names, and text strings, are compared
abbrev pub same_string : List ℕ → List ℕ → Bool
same_string = pointwise ◌==◌
