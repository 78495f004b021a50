-- Elements in ascending order, each with its count.
use Rattle.std.specs.Prelude.{ℕ, ◌+◌, ◌<◌, List, [], ◌∷◌, ◌++◌, replicate, unwrap_or}
use Rattle.std.specs.Borrow.{Bor}
use Rattle.std.specs.List.{AllByRecursion}
use Rattle.std.specs.List.Sorted.{IsStrictlySortedBy}
use Rattle.std.specs.Ordering.{match_ordering}
use Rattle.std.specs.declared.cmp.Ordering.{Ordering}
use Rattle.std.specs.Map.{lookup, keys_of}
use Rattle.std.specs.BTreeMap.{is_at}
use Rattle.oas_elements.specs.declared.profile.Profile.{Profile}
use Rattle.oas_elements.specs.declared.element.Element.{Element}
use Rattle.oas_elements.specs.Element.{element_cmp}
use Rattle.oas_elements.specs.Same.{IsNormal}

-- how often an element is there
abbrev pub count_at : List (Element × ℕ) → Element → ℕ
count_at es e = unwrap_or (lookup (is_at (element_cmp e)) es) 0

-- the elements, each as often as it is there
abbrev pub items : {K : Type 0} → List (K × ℕ) → List K
items [] = []
items (p ∷ ps) = replicate p.1 p.0 ++ items ps

-- n more of k, in its place
abbrev pub put_more : {K : Type 0} → (K → K → Ordering) → List (K × ℕ) → K → ℕ → List (K × ℕ)
put_more cmp [] k n = (k, n) ∷ []
put_more cmp (p ∷ ps) k n = match_ordering (cmp k p.0) ((k, n) ∷ p ∷ ps) ((p.0, p.1 + n) ∷ ps) (p ∷ put_more cmp ps k n)

-- n more of e, which is in its kept form
abbrev pub with_more : List (Element × ℕ) → Element → ℕ → List (Element × ℕ)
with_more es e n = put_more element_cmp es e n

-- the elements strictly ascend, and each is there at least once
pub record IsTally (es : List (Element × ℕ)) : Type 0 where
  pub ascending : IsStrictlySortedBy element_cmp (keys_of es)
  pub positive : AllByRecursion (λ p. 0 < p.1) es

-- and each is in the form in which the profile keeps it
pub record IsBag (profile : Profile) (es : List (Element × ℕ)) : Type 0 where
  pub tally : IsTally es
  pub normal : AllByRecursion (λ p. IsNormal profile p.0) es

-- an element and its count, as an iterator gives them
abbrev pub counted : Bor Element × ℕ → Element × ℕ
counted p = (p.0.now, p.1)
