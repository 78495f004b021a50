-- One cell of a layout alone.
use Rattle.std.specs.Prelude.{◌≡◌, ℕ, List, [], ◌∷◌, Some, slice_get}
use Rattle.oas_num.specs.Ratio.{Ratio}
use Rattle.oas_elements.specs.declared.element.Element.{Element}
use Rattle.oas_elements.specs.Meaning.{Meaning}
use Rattle.oas_elements.specs.Contents.{Cell, Contents, IsLayout}

-- this unit, and this cell alone
abbrev pub alone : Ratio → List ℕ × List Element → Meaning
alone unit c = record { unit = unit; cells = c ∷ [] }

-- a layout has this unit, and among its cells this one
pub record HasCell (unit : Ratio) (c : Cell) (l : Contents) : Type 0 where
  pub layout : IsLayout l
  pub unit_is : l.unit ≡ unit
  pub place : ℕ
  pub there : slice_get l.cells place ≡ Some c
