-- How many deltas a point list may have.
use Rattle.std.specs.Prelude.{◌≡◌, ℕ, ◌%◌, ◌≤◌, ◌⊎◌}
use Rattle.oas_shape.specs.declared.list_use.ListUse.{ListUse}
use Rattle.oas_shape.specs.declared.list_use.ListUse.TheVariants.{Polygon, Path}

-- a polygon has at least two deltas, and an even number in types 0 and 1; a path has any number
abbrev pub IsFitting : ListUse → ℕ → ℕ → Type 0
IsFitting Polygon kind count = (2 ≤ count) × ((2 ≤ kind) ⊎ (count % 2 ≡ 0))
IsFitting Path kind count = Unit {0}
