-- How the two profiles differ: in boxes, and in nothing else.
use Rattle.std.specs.Prelude.{◌≡◌, ◌↔◌, ℕ, List, [], unwrap_or, ⊤}
use Rattle.std.specs.List.{AllByRecursion}
use Rattle.oas_ring.specs.declared.rectangles.Corners.{Corners}
use Rattle.oas_ring.specs.Rectangles.{IsBox}
use Rattle.oas_elements.specs.declared.element.Element.{Element}
use Rattle.oas_elements.specs.declared.element.Element.TheVariants.{Polygon}
use Rattle.oas_elements.specs.declared.limits.Limits.{Limits}
use Rattle.oas_elements.specs.declared.profile.Profile.TheVariants.{One, Two}
use Rattle.oas_elements.specs.Meaning.{Meaning, SameLayout, elements_of}
use Rattle.oas_file.specs.Acceptance.{Means}
use Rattle.oas_form.specs.Canonical.{CanonicalForm, IsCanonicalOf}

-- the element is no polygon that goes round a rectangle
abbrev pub IsNoBox : Element → Type 0
IsNoBox (Polygon layer datatype points) = (corners : Corners) → IsBox points corners → ⊥
IsNoBox e = ⊤

-- no cell has a box
abbrev pub HasNoBox : Meaning → Type 0
HasNoBox m = (name : List ℕ) → AllByRecursion IsNoBox (unwrap_or (elements_of name m.cells) [])

-- layouts without boxes that are the same by profile two are the same by profile one
abbrev pub SameByOne : Type 0
SameByOne = (m n : Meaning) → HasNoBox m → HasNoBox n → SameLayout Two m n → SameLayout One m n

-- a canonical form by profile one is one by profile two exactly where its meaning has no box
abbrev pub OneIsTwo : Type 0
OneIsTwo = (limits : Limits) (c : List ℕ) (m : Meaning) → CanonicalForm limits One c → Means c m → CanonicalForm limits Two c ↔ HasNoBox m

-- a file's canonical forms by the two profiles are equal exactly where its meaning has no box, whatever the limits
abbrev pub FormsDifferByBoxes : Type 0
FormsDifferByBoxes = (one other : Limits) (b c d : List ℕ) (m : Meaning) → IsCanonicalOf one One b c → IsCanonicalOf other Two b d → Means b m → (c ≡ d) ↔ HasNoBox m
