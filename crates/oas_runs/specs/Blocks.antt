-- What blocks in a row hold.
use Rattle.std.specs.Prelude.{◌≡◌, List, [], ◌∷◌, ◌++◌}
use Rattle.std.specs.List.{AllByRecursion}

-- one list after another
abbrev pub joined : {X : Type 0} → List (List X) → List X
joined [] = []
joined (xs ∷ xss) = xs ++ joined xss

-- none of them is empty
abbrev pub NoneEmpty : {X : Type 0} → List (List X) → Type 0
NoneEmpty xss = AllByRecursion (λ xs. xs ≡ [] → ⊥) xss
