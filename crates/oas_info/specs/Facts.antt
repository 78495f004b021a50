-- The facts of a layout.
use Rattle.std.specs.Prelude.{◌≡◌, length}
use Rattle.oas_elements.specs.Meaning.{Meaning, element_count, cells_weight}
use Rattle.oas_info.specs.declared.facts.Facts.{Facts}
use Rattle.oas_info.specs.Groups.{AreCounts}
use Rattle.oas_info.specs.Names.{AreNames, is_undefined, is_unplaced}

-- what the layout has of each
pub record AreFacts (m : Meaning) (f : Facts) : Type 0 where
  pub unit : f.unit ≡ m.unit
  pub cells : f.cells ≡ length m.cells
  pub elements : f.elements ≡ element_count m.cells
  pub weight : f.weight ≡ cells_weight m.cells
  pub groups : AreCounts m f.groups.entries
  pub undefined : AreNames (is_undefined m) f.undefined.items
  pub unplaced : AreNames (is_unplaced m) f.unplaced.items
