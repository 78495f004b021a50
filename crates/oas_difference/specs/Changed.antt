-- The elements of a cell that are not as often in one list as in another.
use Rattle.std.specs.Prelude.{ℕ, ◌==◌, List, [], ◌∷◌, ◌++◌, flat_map, if◌then◌else◌}
use Rattle.oas_elements.specs.declared.profile.Profile.{Profile}
use Rattle.oas_elements.specs.declared.element.Element.{Element}
use Rattle.oas_elements.specs.Element.{element_cmp}
use Rattle.oas_elements.specs.Meaning.{count_of}
use Rattle.oas_difference.specs.Ascending.{ascending}

-- an element that is there n times before and m times after, where that is a change
abbrev pub change_at : Element → ℕ → ℕ → List (Element × (ℕ × ℕ))
change_at e n m = if n == m then [] else (e, (n, m)) ∷ []

-- each element that is not as often in both lists, with how often it is in either
abbrev pub changed : Profile → List Element → List Element → List (Element × (ℕ × ℕ))
changed profile xs ys = flat_map (λ e. change_at e (count_of profile e xs) (count_of profile e ys)) (ascending element_cmp (xs ++ ys))
