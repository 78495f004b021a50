-- The runs of a draft's cells.
use Rattle.std.specs.Prelude.{◌≡◌, ◌==◌, ℕ, List}
use Rattle.std.specs.List.{IsDistinct}
use Rattle.std.specs.List.Sorted.{IsPermutation, IsStrictlySortedBy}
use Rattle.std.specs.Ordering.{nat_cmp}
use Rattle.std.specs.Cmp.Lexicographic.{slice_cmp, pointwise}
use Rattle.oas_elements.specs.Contents.{Cell, names}
use Rattle.oas_runs.specs.Entries.{Entry}
use Rattle.oas_layout.specs.Keyed.{keyed_cells}
use Rattle.oas_layout.specs.Held.{AreSoundCells}

-- these are the runs of the cells, in their order; no two cells have one name
pub record AreInOrder (cs : List Cell) (rs : List (List ℕ × List Entry)) : Type 0 where
  pub apart : IsDistinct (pointwise ◌==◌) (names cs)
  pub sound : AreSoundCells cs
  pub are : rs ≡ keyed_cells cs

-- these are the runs of the cells, by ascending names
pub record AreByName (cs : List Cell) (rs : List (List ℕ × List Entry)) : Type 0 where
  pub sorted : List Cell
  pub same : IsPermutation cs sorted
  pub ascending : IsStrictlySortedBy (slice_cmp nat_cmp) (names sorted)
  pub sound : AreSoundCells sorted
  pub are : rs ≡ keyed_cells sorted
