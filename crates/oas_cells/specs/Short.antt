-- What waits in few bytes.
use Rattle.std.specs.Prelude.{ℕ, ℤ, List, [], ◌∷◌}
use Rattle.oas_reader.specs.Drawn.{Drawn}
use Rattle.oas_reader.specs.Drawn.TheVariants.{PlacementBy, TextBy}
use Rattle.oas_cells.specs.declared.short.Kind.{Kind}
use Rattle.oas_cells.specs.declared.short.Kind.TheVariants.{Placement, Text}
use Rattle.oas_cells.specs.declared.short.Short.{Short}

-- what is drawn by a number at a place
abbrev pub drawn_as : ℕ → ℤ → ℤ → Kind → Drawn
drawn_as number x y (Placement turns flip) = PlacementBy number x y turns flip
drawn_as number x y (Text texttype textlayer) = TextBy number textlayer texttype x y

abbrev pub drawn_of : Short → Drawn
drawn_of s = drawn_as s.number s.x s.y s.kind

-- each of these once
abbrev pub drawn_once : List Short → List (Drawn × ℕ)
drawn_once [] = []
drawn_once (s ∷ ss) = (drawn_of s, 1) ∷ drawn_once ss
