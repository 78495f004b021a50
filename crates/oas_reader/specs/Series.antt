-- Series: several records that are taken at once, by the last of them, how many elements they draw and the weight of these.
use Rattle.std.specs.Prelude.{◌≡◌, ℕ, ◌+◌, ◌≤◌, true, false, None, Some, List, ◌++◌, length, map, reverse, sum_by}
use Rattle.std.specs.List.{AllByRecursion}
use Rattle.oas_record.specs.declared.records.Record.{Record}
use Rattle.oas_elements.specs.declared.element.Element.{Element}
use Rattle.oas_elements.specs.Weight.{weight_of}
use Rattle.oas_drawing.specs.declared.drawn.Drawn.{Drawn}
use Rattle.oas_drawing.specs.declared.drawn.Drawn.TheVariants.{Named}
use Rattle.oas_drawing.specs.declared.kinds.Kind.{Kind}
use Rattle.oas_drawing.specs.Positions.{IsNear}
use Rattle.oas_drawing.specs.Modal.{ModalState, stepped}
use Rattle.oas_drawing.specs.Drawing.{kind_of, place_of, elements_at}
use Rattle.oas_reader.specs.declared.parts.Parts.{Parts}
use Rattle.oas_reader.specs.Names.{cell_names, text_strings}
use Rattle.oas_reader.specs.Meaning.{DrawnCell, in_last, cells_drawn}
use Rattle.oas_reader.specs.Standing.{Standing}
use Rattle.oas_reader.specs.Stands.{seen, ReaderState}
use Rattle.oas_reader.specs.Stores.{Store, HoldCells}
use Rattle.oas_reader.specs.Parts.{standing, cells, SameFile}

-- ---- what is drawn

-- so many elements, with this weight together
pub record AreCounted (count weight : ℕ) (es : List Element) : Type 0 where
  pub number : length es ≡ count
  pub weighs : sum_by weight_of es ≡ weight

-- between two states of a store so many elements, with this weight together, were drawn, whichever they are
pub record DrawsSeries {S : Type 0} (t : Store S) (old : S) (count weight : ℕ) (new : S) : Type 0 where
  pub cell_is : t.cell new ≡ t.cell old
  pub count_is : t.count new ≡ t.count old + count
  pub sound : t.IsSound old → t.IsSound new
  pub holds : (before : List Drawn) (es : List Element) → AreCounted count weight es → t.Holds old before → t.Holds new (before ++ map Named es)

-- ---- records

-- the standing after a series: the variables are those after its last record alone
abbrev pub after_series : Standing → Record → ℕ → ℕ → Standing
after_series s last count weight = record { modal = stepped s.modal last; in_cell = s.in_cell; count = s.count + count; weight = s.weight + weight }

-- After these records the others are a series that ends with this one: so many elements, with this weight together, are drawn in
-- the last cell, none of them by a number, and none of the records names a cell or a text string. The records are listed oldest
-- first.
pub record IsSeries (rs series : List Record) (last : Record) (count weight : ℕ) : Type 0 where
  pub standing : seen (reverse (rs ++ series)) ≡ after_series (seen (reverse rs)) last count weight
  pub unnaming : AllByRecursion (λ r. (cell_names r ≡ None) × (text_strings r ≡ None)) series
  pub elements : List Element
  pub counted : AreCounted count weight elements
  pub cells : cells_drawn elements_at (reverse (rs ++ series)) ≡ in_last (map Named elements) (cells_drawn elements_at (reverse rs))

-- the last record is an element, and its position is within the limits
pub record LandsNear (m : ModalState) (r : Record) : Type 0 where
  pub kind : Kind
  pub is : kind_of r ≡ Some kind
  pub near : IsNear (place_of (stepped m r) kind)

-- ---- a reader

module _ {S : Type 0} where
  -- a cell is open, coordinates are absolute, and the limits allow so many more elements with this weight
  pub record HasRoom (s : ReaderState S) (count weight : ℕ) : Type 0 where
    pub going : s.failed ≡ None
    pub inside : s.standing.in_cell ≡ true
    pub absolute : s.standing.modal.relative ≡ false
    pub few : s.standing.count + count ≤ s.limits.elements
    pub light : s.standing.weight + weight ≤ s.limits.weight

  -- the same of what a reader keeps
  pub record HasRoomIn (p : Parts S) (count weight : ℕ) : Type 0 where
    pub inside : (standing p).in_cell ≡ true
    pub absolute : p.modal.relative ≡ false
    pub few : p.count + count ≤ p.limits.elements
    pub light : p.weight + weight ≤ p.limits.weight

  -- q is what is kept after a series
  pub record TookSeries (t : Store S) (p : Parts S) (last : Record) (count weight : ℕ) (q : Parts S) : Type 0 where
    pub file : SameFile p q
    pub standing : standing q ≡ after_series (standing p) last count weight
    pub names : q.names ≡ p.names
    pub strings : q.strings ≡ p.strings
    pub cells : (ds : List DrawnCell) (es : List Element) → AreCounted count weight es → HoldCells t (cells p) ds → HoldCells t (cells q) (in_last (map Named es) ds)
