-- Weights with all names: of the names of numbers, each as often as its number is used, and of cells.
use Rattle.std.specs.Prelude.{ℕ, ◌+◌, ◌*◌, ◌<◌, ◌-◌, ◌^◌, min, List, [], ◌∷◌, length, sum_by, cond, Option, None, Some}
use Rattle.std.specs.List.{AllByRecursion, list_any}
use Rattle.oas_record.specs.declared.references.CellRef.{CellRef}
use Rattle.oas_elements.specs.Weight.{weight_of}
use Rattle.oas_drawing.specs.declared.drawn.Drawn.{Drawn}
use Rattle.oas_reader.specs.Names.{name_of}
use Rattle.oas_reader.specs.References.{cell_by}
use Rattle.oas_reader.specs.Meaning.{DrawnCell, elements_by_name, is_unnamed}

-- each number is used at least once
abbrev pub AllUsed : List (ℕ × ℕ) → Type 0
AllUsed ps = AllByRecursion (λ p. 0 < p.1) ps

-- a weight, capped to 64 bits: where it isn't exact it exceeds all limits
abbrev pub capped : ℕ → ℕ
capped n = min n (2 ^ 64 - 1)

-- ---- the weight with all names; None where a number has no name

-- two weights together
abbrev pub joined : Option ℕ → Option ℕ → Option ℕ
joined None b = None
joined (Some a) None = None
joined (Some a) (Some b) = Some (capped (a + b))

-- a name this many times
abbrev pub name_weight : Option (List ℕ) → ℕ → Option ℕ
name_weight None n = None
name_weight (Some name) n = Some (capped (n * length name))

-- the names of numbers, each as often as it is used
abbrev pub names_weight : List (ℕ × List ℕ) → List (ℕ × ℕ) → Option ℕ
names_weight names [] = Some 0
names_weight names (p ∷ ps) = joined (name_weight (name_of names p.0) p.1) (names_weight names ps)

-- a cell without its elements
abbrev pub head_weight : Option (List ℕ) → Option ℕ
head_weight None = None
head_weight (Some name) = Some (capped (1 + length name))

-- what is drawn in a cell
abbrev pub drawn_weight : List (ℕ × List ℕ) → List (ℕ × List ℕ) → List Drawn → Option ℕ
drawn_weight names strings ds = cond (list_any (is_unnamed names strings) ds) None (Some (capped (sum_by weight_of (elements_by_name names strings ds))))

-- a cell in which these are drawn
abbrev pub known_weight : List (ℕ × List ℕ) → List (ℕ × List ℕ) → CellRef → List Drawn → Option ℕ
known_weight names strings cell ds = joined (head_weight (cell_by names cell)) (drawn_weight names strings ds)

-- all cells
abbrev pub all_weight : List (ℕ × List ℕ) → List (ℕ × List ℕ) → List DrawnCell → Option ℕ
all_weight names strings [] = Some 0
all_weight names strings (c ∷ cs) = joined (known_weight names strings c.0 c.1) (all_weight names strings cs)
