-- Lines of fields.
use Rattle.std.specs.Prelude.{ℕ, List, [], ◌∷◌, ◌++◌, flat_map}

-- each field after a space
abbrev pub behind_spaces : List (List ℕ) → List ℕ
behind_spaces fields = flat_map (λ field. 32 ∷ field) fields

-- the fields, with one space between neighbours
abbrev pub spaced : List (List ℕ) → List ℕ
spaced [] = []
spaced (field ∷ fields) = field ++ behind_spaces fields

-- a line of these fields, with its end
abbrev pub line : List (List ℕ) → List ℕ
line fields = spaced fields ++ 10 ∷ []
