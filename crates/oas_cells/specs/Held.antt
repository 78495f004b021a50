-- How what is drawn in a cell is held.
use Rattle.std.specs.Prelude.{List, ℕ, []}
use Rattle.std.specs.Ordering.{nat_cmp}
use Rattle.std.specs.Cmp.Lexicographic.{slice_cmp}
use Rattle.oas_runs.specs.Entries.{Entry}
use Rattle.oas_runs.specs.Runs.{IsRun}
use Rattle.oas_reader.specs.Drawn.{Drawn}
use Rattle.oas_cells.specs.declared.held.Held.{Held}
use Rattle.oas_cells.specs.declared.held.Held.TheVariants.{Closed, Open}

-- the keys of its elements with their counts
abbrev pub keys_in : Held → List Entry
keys_in (Closed block) = block
keys_in (Open kept waiting) = kept

-- what waits for names, with counts
abbrev pub waiting_in : Held → List (Drawn × ℕ)
waiting_in (Closed block) = []
waiting_in (Open kept waiting) = waiting

-- a block of keys is a run
abbrev pub IsHeld : Held → Type 0
IsHeld (Closed block) = IsRun (slice_cmp nat_cmp) block
IsHeld (Open kept waiting) = Unit {0}
