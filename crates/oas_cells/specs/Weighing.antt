-- The weight of cells that are held as keys, with all names; None where a number has no name.
use Rattle.std.specs.Prelude.{ℕ, ◌*◌, List, [], ◌∷◌, length, Option, None, Some}
use Rattle.std.specs.Option.{option_map}
use Rattle.oas_reader.specs.Drawn.{Drawn}
use Rattle.oas_reader.specs.Drawn.TheVariants.{Named, PlacementBy, TextBy}
use Rattle.oas_reader.specs.Names.{name_of}
use Rattle.oas_reader.specs.References.{cell_by}
use Rattle.oas_reader.specs.Weights.{capped, joined, head_weight}
use Rattle.oas_cells.specs.Compact.{Compact}

-- the bytes of the name of a number
abbrev pub behind : List (ℕ × List ℕ) → List (ℕ × List ℕ) → Drawn → Option ℕ
behind names strings (Named e) = Some 0
behind names strings (PlacementBy number x y turns flip) = option_map length (name_of names number)
behind names strings (TextBy number textlayer texttype x y) = option_map length (name_of strings number)

-- this many times
abbrev pub name_bytes_times : Option ℕ → ℕ → Option ℕ
name_bytes_times None n = None
name_bytes_times (Some len) n = Some (capped (n * len))

-- all that waits
abbrev pub waiting_weight : List (ℕ × List ℕ) → List (ℕ × List ℕ) → List (Drawn × ℕ) → Option ℕ
waiting_weight names strings [] = Some 0
waiting_weight names strings (p ∷ ps) = joined (name_bytes_times (behind names strings p.0) p.1) (waiting_weight names strings ps)

-- all that waits in full chunks, one after another
abbrev pub full_weight : List (ℕ × List ℕ) → List (ℕ × List ℕ) → List (List (Drawn × ℕ)) → Option ℕ
full_weight names strings [] = Some 0
full_weight names strings (c ∷ cs) = joined (waiting_weight names strings c) (full_weight names strings cs)

-- a cell
abbrev pub cell_weight : List (ℕ × List ℕ) → List (ℕ × List ℕ) → Compact → Option ℕ
cell_weight names strings c = joined (head_weight (cell_by names c.cell)) (joined (Some c.weight) (waiting_weight names strings c.waiting))
