-- A placement or a text without a repetition at hand, by the modal variables.
use Rattle.std.specs.Prelude.{ℕ, ◌+◌, length, Option, None, Some}
use Rattle.std.specs.Option.{option_or}
use Rattle.oas_record.specs.declared.references.CellRef.{CellRef}
use Rattle.oas_record.specs.declared.references.CellRef.TheVariants as cell
use Rattle.oas_record.specs.declared.references.TextRef.{TextRef}
use Rattle.oas_record.specs.declared.references.TextRef.TheVariants as text
use Rattle.oas_record.specs.declared.placements.Turn.TheVariants.{Quarters}
use Rattle.oas_elements.specs.declared.element.Element.TheVariants as element
use Rattle.oas_peek.specs.Named.{cell_given, string_given}
use Rattle.oas_peek.specs.declared.named.NamedOnce.{NamedOnce}
use Rattle.oas_peek.specs.declared.named.NamedOnce.TheVariants as once
use Rattle.oas_drawing.specs.declared.drawn.Drawn.{Drawn}
use Rattle.oas_drawing.specs.declared.drawn.Drawn.TheVariants.{Named, PlacementBy, TextBy}
use Rattle.oas_drawing.specs.declared.once.DrawnOnce.{DrawnOnce}
use Rattle.oas_drawing.specs.declared.once.DrawnOnce.TheVariants as drawn
use Rattle.oas_drawing.specs.declared.kinds.Kind.{Kind}
use Rattle.oas_drawing.specs.declared.kinds.Kind.TheVariants.{Placement, Text}
use Rattle.oas_drawing.specs.Modal.{ModalState}

-- the modal variables once the given name, by its bytes or its number, is the modal one
abbrev pub named_by : ModalState → NamedOnce → ModalState
named_by m (once.Placement c quarters flip x y) = record m { cell = option_or (cell_given c) m.cell }
named_by m (once.Text s textlayer texttype x y) = record m { string = option_or (string_given s) m.string }

-- the weight of an element with a name, as long as its number has none
abbrev pub cell_weight : Option CellRef → Option ℕ
cell_weight None = None
cell_weight (Some (cell.Number number)) = Some 1
cell_weight (Some (cell.Name name)) = Some (1 + length name)

abbrev pub string_weight : Option TextRef → Option ℕ
string_weight None = None
string_weight (Some (text.Number number)) = Some 1
string_weight (Some (text.Label label)) = Some (1 + length label)

-- its kind
abbrev pub named_kind : NamedOnce → Kind
named_kind (once.Placement c quarters flip x y) = Placement (Quarters quarters) flip
named_kind (once.Text s textlayer texttype x y) = Text

-- what is drawn, with a name of its own
abbrev pub drawn_once : DrawnOnce → Drawn
drawn_once (drawn.Placement c x y turns flip) = placed c.now where
  placed : CellRef → Drawn
  placed (cell.Number number) = PlacementBy number x y turns flip
  placed (cell.Name name) = Named (element.Placement name x y turns flip)
drawn_once (drawn.Text s textlayer texttype x y) = written s.now where
  written : TextRef → Drawn
  written (text.Number number) = TextBy number textlayer texttype x y
  written (text.Label label) = Named (element.Text label textlayer texttype x y)
