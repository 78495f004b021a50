-- The result of cells that are held as keys at END.
use Rattle.std.specs.Prelude.{◌≡◌, ℕ, List, Some}
use Rattle.std.specs.List.{AllByRecursion}
use Rattle.std.specs.List.Sorted.{IsPermutation}
use Rattle.oas_num.specs.Texts.{IsName}
use Rattle.oas_elements.specs.declared.profile.Profile.{Profile}
use Rattle.oas_elements.specs.Sound.{IsSound}
use Rattle.oas_runs.specs.Entries.{Entry}
use Rattle.oas_form.specs.Drawn.{Drawn}
use Rattle.oas_form.specs.Meaning.{DrawnCell, elements_by_name, cells_by_name}
use Rattle.oas_form.specs.References.{cell_by}
use Rattle.oas_form.specs.Stores.{HoldCells}
use Rattle.oas_cells.specs.Compact.{Compact, Keeps, compact_store}
use Rattle.oas_layout.specs.Keyed.{keyed, keyed_cells}
use Rattle.oas_layout.specs.Counting.{counted, counted_cells, keyed_each, AreSound, with_run}

-- each run has a name
abbrev pub AreNamed : List (List ℕ × List Entry) → Type 0
AreNamed rs = AllByRecursion (λ r. IsName r.0) rs

-- the runs with that of one more cell at the end, where it has a name: whatever was drawn in it
pub record PutsRun (profile : Profile) (names strings : List (ℕ × List ℕ)) (c : Compact) (old new : List (List ℕ × List Entry)) : Type 0 where
  pub named : AreNamed old → AreNamed new
  pub sound : (name : List ℕ) → cell_by names c.cell ≡ Some name → (ds : List Drawn) → Keeps profile c ds → AllByRecursion IsSound (elements_by_name names strings ds)
  pub run : (ds : List Drawn) → Keeps profile c ds → new ≡ with_run (cell_by names c.cell) (keyed (counted profile (elements_by_name names strings ds))) old

-- these are the runs of all cells, in any order: whatever was drawn in them
pub record AreRuns (profile : Profile) (names strings : List (ℕ × List ℕ)) (cs : List Compact) (rs : List (List ℕ × List Entry)) : Type 0 where
  pub named : AreNamed rs
  pub sound : (ds : List DrawnCell) → HoldCells (compact_store profile) cs ds → AreSound (cells_by_name names strings ds)
  pub runs : (ds : List DrawnCell) → HoldCells (compact_store profile) cs ds → IsPermutation (keyed_each profile (cells_by_name names strings ds)) rs

-- these are the runs of all cells, by ascending names: whatever was drawn in them
pub record AreRunsOf (profile : Profile) (names strings : List (ℕ × List ℕ)) (cs : List Compact) (rs : List (List ℕ × List Entry)) : Type 0 where
  pub named : AreNamed rs
  pub sound : (ds : List DrawnCell) → HoldCells (compact_store profile) cs ds → AreSound (cells_by_name names strings ds)
  pub runs : (ds : List DrawnCell) → HoldCells (compact_store profile) cs ds → rs ≡ keyed_cells (counted_cells profile (cells_by_name names strings ds))
