-- What a record is judged by, why it is refused, and what it changes. m are the variables after it.
use Rattle.std.specs.Prelude.{◌≡◌, ◌⊎◌, ℕ, ◌+◌, nat_lt, Bool, true, false, cond, Option, None, Some, List, [], ◌∷◌, ◌++◌, length, sum_by}
use Rattle.oas_num.specs.declared.refusals.Why.{Why}
use Rattle.oas_num.specs.declared.refusals.Why.TheVariants.{OutOfPlace, TooHeavy, CoordinateRange}
use Rattle.oas_record.specs.declared.references.CellRef.{CellRef}
use Rattle.oas_record.specs.declared.references.CellRef.TheVariants as cell
use Rattle.oas_record.specs.declared.records.Record.{Record}
use Rattle.oas_record.specs.declared.records.Record.TheVariants as record_of
use Rattle.oas_record.specs.Records.{id_of}
use Rattle.oas_elements.specs.declared.limits.Limits.{Limits}
use Rattle.oas_drawing.specs.declared.drawn.Drawn.{Drawn}
use Rattle.oas_drawing.specs.Modal.{ModalState, stepped}
use Rattle.oas_drawing.specs.Drawn.{weight_so_far}
use Rattle.oas_drawing.specs.Drawing.{copies_at, offsets_of}
use Rattle.oas_drawing.specs.Reasons.{first_of, draw_reason}
use Rattle.oas_reader.specs.Meaning.{DrawnCell, in_last}

-- the modal variables, whether a cell is open, how many elements there are, and the weight of all
pub record Standing : Type 0 where
  pub modal : ModalState
  pub in_cell : Bool
  pub count : ℕ
  pub weight : ℕ

-- the weight of a CELL: one and the bytes of its name; a number weighs nothing yet
abbrev pub cell_weight : CellRef → ℕ
cell_weight (cell.Number number) = 0
cell_weight (cell.Name name) = 1 + length name

-- what a record draws
abbrev pub drawn_of : ModalState → Record → List Drawn
drawn_of m r = copies_at m r (offsets_of m r)

-- the weight of a record that draws these
abbrev pub weight_with : Record → List Drawn → ℕ
weight_with (record_of.Cell c) ds = cell_weight c
weight_with r ds = sum_by weight_so_far ds

-- whether a cell is open after a record (SEMI P39, CELL record): a CELL opens one, and a name record closes it
abbrev pub open_after : Bool → Record → Bool
open_after was (record_of.Cell c) = true
open_after was (record_of.CellName name number) = false
open_after was (record_of.TextString label number) = false
open_after was r = was

-- one more record
abbrev pub took_with : Standing → Record → ModalState → Standing
took_with s r m =
    record {
      modal = m;
      in_cell = open_after s.in_cell r;
      count = s.count + length (drawn_of m r);
      weight = s.weight + weight_with r (drawn_of m r);
    }

abbrev pub took : Standing → Record → Standing
took s r = took_with s r (stepped s.modal r)

-- why an element record is refused
abbrev pub element_reason : Limits → Standing → ModalState → Record → Option Why
element_reason limits s m r = cond s.in_cell (draw_reason limits s.count s.weight m r) (Some (OutOfPlace (id_of r)))

-- why a record is refused; `names` and `strings` say it for records that name cells and text strings. The caller handles END
-- (own rule).
abbrev pub reason : Limits → (Record → Option Why) → (Record → Option Why) → Standing → Record → Option Why
reason limits names strings s record_of.Pad = None
reason limits names strings s record_of.End = Some (OutOfPlace (id_of record_of.End))
reason limits names strings s (record_of.CellName name number) = names (record_of.CellName name number)
reason limits names strings s (record_of.TextString label number) = strings (record_of.TextString label number)
reason limits names strings s (record_of.Cell c) = first_of ((nat_lt limits.weight (s.weight + cell_weight c), TooHeavy) ∷ [])
reason limits names strings s record_of.XyAbsolute = None
reason limits names strings s record_of.XyRelative = None
reason limits names strings s r = element_reason limits s (stepped s.modal r) r

-- Where memory may run out for a record that is refused for this reason, or for none: only where it is none, or where a copy
-- is outside the grid, since the copies before it are held one by one.
abbrev pub MayRunOut : Option Why → Type 0
MayRunOut why = (why ≡ None) ⊎ (why ≡ Some CoordinateRange)

-- what is drawn in the cells after one more record
abbrev pub drawn_after : List DrawnCell → ModalState → Record → List DrawnCell
drawn_after ds m (record_of.Cell c) = ds ++ (c, []) ∷ []
drawn_after ds m r = in_last (drawn_of m r) ds
