-- Which records a reader represents. `rs` and `before` list records newest first, except in Represents and `refusal`.
use Rattle.std.specs.Prelude.{◌≡◌, ℕ, ◌+◌, Bool, false, Option, None, List, [], ◌∷◌, length, reverse}
use Rattle.oas_num.specs.Ratio.{Ratio}
use Rattle.oas_num.specs.declared.refusals.Why.{Why}
use Rattle.oas_num.specs.declared.refusals.Refusal.{Refusal}
use Rattle.oas_record.specs.declared.records.Record.{Record}
use Rattle.oas_elements.specs.declared.limits.Limits.{Limits}
use Rattle.oas_elements.specs.declared.profile.Profile.{Profile}
use Rattle.oas_elements.specs.Meaning.{Meaning}
use Rattle.oas_drawing.specs.Modal.{modal_of}
use Rattle.oas_drawing.specs.Drawing.{elements_at}
use Rattle.oas_reader.specs.Names.{Table, TableRepresents, cell_names, text_strings, same_string, name_reason, named}
use Rattle.oas_reader.specs.Meaning.{meaning_by, end_reason, cells_drawn}
use Rattle.oas_reader.specs.Stores.{Store, HoldCells}
use Rattle.oas_reader.specs.Standing.{Standing, open_after, weight_with, reason}

-- whether a cell is open
abbrev pub is_in_cell : List Record → Bool
is_in_cell [] = false
is_in_cell (r ∷ before) = open_after (is_in_cell before) r

-- how many elements are drawn
abbrev pub number_drawn : List Record → ℕ
number_drawn [] = 0
number_drawn (r ∷ before) = number_drawn before + length (elements_at r before)

-- the weight of the cells and the elements, as long as numbers have no names
abbrev pub weight_so_far_of : List Record → ℕ
weight_so_far_of [] = 0
weight_so_far_of (r ∷ before) = weight_so_far_of before + weight_with r (elements_at r before)

-- what the definitions say about these records
abbrev pub seen : List Record → Standing
seen rs = record { modal = modal_of rs; in_cell = is_in_cell rs; count = number_drawn rs; weight = weight_so_far_of rs }

-- why one more record is refused
abbrev pub refused_after : Limits → List Record → Record → Option Why
refused_after limits before r = reason limits (name_reason same_string cell_names before) (name_reason same_string text_strings before) (seen before) r

-- none of the records is refused
abbrev pub Allowed : Limits → List Record → Type 0
Allowed limits [] = Unit {0}
Allowed limits (r ∷ before) = Allowed limits before × (refused_after limits before r ≡ None)

-- what contracts see of a reader
pub record ReaderState (S : Type 0) : Type 0 where
  pub failed : Option Refusal
  pub unit : Ratio
  pub limits : Limits
  pub profile : Profile
  pub standing : Standing
  pub names : Table (List ℕ)
  pub strings : Table (List ℕ)
  pub cells : List S

-- A reader represents the records, oldest first. Its stores, in order, are those of the same cells, and each may represent
-- what the records draw in its cell.
pub record Represents {S : Type 0} (t : Store S) (s : ReaderState S) (rs : List Record) : Type 0 where
  pub sound : s.failed ≡ None
  pub standing : s.standing ≡ seen (reverse rs)
  pub names : TableRepresents cell_names s.names (reverse rs)
  pub strings : TableRepresents text_strings s.strings (reverse rs)
  pub cells : HoldCells t s.cells (cells_drawn elements_at (reverse rs))

-- why a record after these is refused, oldest first
abbrev pub refusal : Limits → List Record → Record → Option Why
refusal limits rs r = refused_after limits (reverse rs) r

-- the meaning of the records, oldest first, each number by the names of the whole file
abbrev pub records_mean : Ratio → List Record → Meaning
records_mean unit rs = meaning_by (named cell_names (reverse rs)) (named text_strings (reverse rs)) unit (cells_drawn elements_at (reverse rs))

-- why END refuses them
abbrev pub end_refusal : Limits → List Record → Option Why
end_refusal limits rs = end_reason (named cell_names (reverse rs)) (named text_strings (reverse rs)) limits (cells_drawn elements_at (reverse rs))
