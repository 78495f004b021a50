-- A record in the shortest style is a CELL by its name, or the record of an element.
use Rattle.std.proofs.Common.{◌≡◌, ℕ, false, List, ◌∙◌}
use Rattle.std.specs.Prelude.{ℤ, ◌⊎◌}
use Rattle.oas_ring.specs.declared.point.Point.{Point}
use Rattle.oas_record.specs.declared.records.Record.{Record}
use Rattle.oas_record.specs.declared.records.Record.TheVariants as record_of
use Rattle.oas_record.specs.declared.references.CellRef.TheVariants as cell
use Rattle.oas_elements.specs.declared.element.Element.{Element}
use Rattle.oas_elements.specs.Weight.{lacks_points}
use Rattle.oas_form.specs.Records.{element_record}

-- the record of an element that has its points
pub record IsDrawn (r : Record) : Type 0 where
  pub element : Element
  pub is : element_record element ≡ r
  pub points : lacks_points element ≡ false

-- a CELL by its name, or such a record
abbrev pub IsPlain : Record → Type 0
IsPlain r = ((name : List ℕ) × (record_of.Cell (cell.Name name) ≡ r)) ⊎ IsDrawn r

-- the record of what was spelled
pub moved_on : (r s : Record) → r ≡ s → IsDrawn r → IsDrawn s
moved_on r s e h = record { element = h.element; is = h.is ∙ e; points = h.points }

-- the point of a position
abbrev pub point_at : ℤ → ℤ → Point
point_at x y = record { x = x; y = y }
