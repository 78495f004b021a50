-- Looking back over records (SEMI P39, Modal variables). They are listed newest first: `r ∷ before`.
use Rattle.std.specs.Prelude.{ℤ, pos, ◌+ℤ◌, List, [], ◌∷◌, Option, None, Some, Bool, true, false, cond, is_some}
use Rattle.std.specs.Option.{option_or}
use Rattle.oas_record.specs.declared.records.Record.{Record}
use Rattle.oas_record.specs.declared.records.Record.TheVariants.{Cell}

abbrev pub is_cell : Record → Bool
is_cell (Cell c) = true
is_cell _ = false

-- what the latest record that gives something gave, looking back to the CELL
abbrev pub latest : {A : Type 0} → (Record → List Record → Option A) → List Record → Option A
latest gives [] = None
latest gives (r ∷ before) = cond (is_cell r) None (option_or (gives r before) (latest gives before))

-- z and what may be given
abbrev pub plus_given : ℤ → Option ℤ → ℤ
plus_given z None = z
plus_given z (Some d) = z +ℤ d

-- the sum of what the records after the latest one that sets give, looking back to the CELL
abbrev pub sum_since : (Record → List Record → Option ℤ) → (Record → List Record → Option ℤ) → List Record → ℤ
sum_since sets gives [] = pos 0
sum_since sets gives (r ∷ before) =
    cond (is_cell r) (pos 0) (cond (is_some (sets r before)) (pos 0) (plus_given (sum_since sets gives before) (gives r before)))
