-- What is collected of a cell: a store, and what may be drawn in it. A store needn't keep what is drawn.
use Rattle.std.specs.Prelude.{◌≡◌, ℕ, ◌+◌, List, [], ◌∷◌, ◌++◌, length}
use Rattle.oas_record.specs.declared.references.CellRef.{CellRef}
use Rattle.oas_drawing.specs.declared.drawn.Drawn.{Drawn}
use Rattle.oas_reader.specs.Meaning.{DrawnCell}

-- what is known about a kind of stores
pub record Store (S : Type 0) : Type 1 where
  -- its CELL
  pub cell : S → CellRef
  -- how many elements were drawn
  pub count : S → ℕ
  -- what it keeps of them is within the grid and has its points
  pub IsSound : S → Type 0
  -- it may represent these, in the order in which they were drawn
  pub Holds : S → List Drawn → Type 0

-- between two of its states these were drawn
pub record Draws {S : Type 0} (t : Store S) (old : S) (ds : List Drawn) (new : S) : Type 0 where
  pub cell : t.cell new ≡ t.cell old
  pub count : t.count new ≡ t.count old + length ds
  pub sound : t.IsSound old → t.IsSound new
  pub holds : (before : List Drawn) → t.Holds old before → t.Holds new (before ++ ds)

-- it is for this CELL, and nothing is drawn in it
pub record IsBegun {S : Type 0} (t : Store S) (c : CellRef) (s : S) : Type 0 where
  pub cell : t.cell s ≡ c
  pub count : t.count s ≡ 0
  pub sound : t.IsSound s
  pub holds : t.Holds s []

-- how many elements were drawn in all of them
abbrev pub total_count : {S : Type 0} → Store S → List S → ℕ
total_count t [] = 0
total_count t (s ∷ ss) = t.count s + total_count t ss

-- in order, each has the cell's reference and may represent what is drawn in it
abbrev pub HoldCells : {S : Type 0} → Store S → List S → List DrawnCell → Type 0
HoldCells t [] [] = Unit {0}
HoldCells t [] (d ∷ ds) = ⊥
HoldCells t (s ∷ ss) [] = ⊥
HoldCells t (s ∷ ss) (d ∷ ds) = (t.cell s ≡ d.0) × t.Holds s d.1 × HoldCells t ss ds
