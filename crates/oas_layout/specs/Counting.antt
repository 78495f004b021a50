-- Cells by ascending names, the elements of each counted in the forms in which the profile keeps them.
use Rattle.std.specs.Prelude.{ℕ, List, [], ◌∷◌, ◌++◌, Option, None, Some}
use Rattle.std.specs.List.{AllByRecursion}
use Rattle.std.specs.Ordering.{nat_cmp}
use Rattle.std.specs.Cmp.Lexicographic.{slice_cmp}
use Rattle.std.specs.BTreeMap.{insert_entry}
use Rattle.oas_elements.specs.declared.profile.Profile.{Profile}
use Rattle.oas_elements.specs.declared.element.Element.{Element}
use Rattle.oas_elements.specs.Bag.{with_more}
use Rattle.oas_elements.specs.Contents.{Cell}
use Rattle.oas_elements.specs.Same.{normal}
use Rattle.oas_elements.specs.Sound.{IsSound}
use Rattle.oas_runs.specs.Entries.{Entry}
use Rattle.oas_layout.specs.Keyed.{keyed}

-- the elements in their kept forms, counted
abbrev pub counted : Profile → List Element → List (Element × ℕ)
counted profile [] = []
counted profile (x ∷ xs) = with_more (counted profile xs) (normal profile x) 1

-- the cells in their places
abbrev pub counted_cells : Profile → List (List ℕ × List Element) → List Cell
counted_cells profile [] = []
counted_cells profile (c ∷ cs) = insert_entry (slice_cmp nat_cmp) (counted_cells profile cs) c.0 (counted profile c.1)

-- each element is sound
abbrev pub AreSound : List (List ℕ × List Element) → Type 0
AreSound cs = AllByRecursion (λ c. AllByRecursion IsSound c.1) cs

-- the cells as keys, the elements of each counted
abbrev pub keyed_each : Profile → List (List ℕ × List Element) → List (List ℕ × List Entry)
keyed_each profile [] = []
keyed_each profile (c ∷ cs) = (c.0, keyed (counted profile c.1)) ∷ keyed_each profile cs

-- one more run at the end, where its cell has a name
abbrev pub with_run : Option (List ℕ) → List Entry → List (List ℕ × List Entry) → List (List ℕ × List Entry)
with_run None ks rs = rs
with_run (Some name) ks rs = rs ++ (name, ks) ∷ []
