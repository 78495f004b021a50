-- The laws of elements and layouts, as statements.
use Rattle.std.specs.Prelude.{◌≡◌, ◌↔◌, ℕ, ◌+◌, List, Some, slice_get, IsTrue, if◌then◌else◌}
use Rattle.std.specs.List.{AllByRecursion}
use Rattle.oas_ring.specs.declared.point.Point.{Point}
use Rattle.oas_ring.specs.declared.rectangles.Corners.{Corners}
use Rattle.oas_ring.specs.Readings.{IsLeastReading}
use Rattle.oas_elements.specs.declared.profile.Profile.{Profile}
use Rattle.oas_elements.specs.declared.element.Element.{Element}
use Rattle.oas_elements.specs.declared.element.Element.TheVariants.{Polygon}
use Rattle.oas_elements.specs.Element.{element_cmp}
use Rattle.oas_elements.specs.Same.{SameElement, same_element, normal, IsNormal, IsDrawn}
use Rattle.oas_elements.specs.Bag.{items, with_more, count_at, IsBag}
use Rattle.oas_elements.specs.Ascending.{Ascends}
use Rattle.oas_elements.specs.Meaning.{Meaning, SameLayout, count_of}

-- the test by which elements are counted says when they are the same
abbrev pub TestsSame : Profile → Type 0
TestsSame profile = (a b : Element) → IsTrue (same_element profile a b) ↔ SameElement profile a b

-- an element is the same as its kept form
abbrev pub KeptIsSame : Profile → Type 0
KeptIsSame profile = (e : Element) → SameElement profile (normal profile e) e

-- elements are the same exactly if their kept forms are equal
abbrev pub SameIfKeptEqual : Profile → Type 0
SameIfKeptEqual profile = (a b : Element) → SameElement profile a b ↔ (normal profile a ≡ normal profile b)

-- a kept form is its own kept form
abbrev pub KeptIsKept : Profile → Type 0
KeptIsKept profile = (e : Element) → IsNormal profile (normal profile e)

-- the polygons that are kept unchanged: in their least reading, and round no rectangle that the profile would keep
abbrev pub KeptPolygons : Profile → Type 0
KeptPolygons profile =
    (layer datatype : ℕ) (points : List Point) → IsNormal profile (Polygon layer datatype points) ↔ (IsLeastReading points × ((corners : Corners) → IsDrawn profile points corners → ⊥))

-- more of an element adds to the count of what is the same, and to no other count
abbrev pub AddingCounts : Profile → Type 0
AddingCounts profile =
    (es : List (Element × ℕ)) (e q : Element) (n : ℕ) → count_of profile q (items (with_more es (normal profile e) n)) ≡ count_of profile q (items es) + (if same_element profile q e then n else 0)

-- the number beside an element is its count
abbrev pub HeldCounts : Profile → Type 0
HeldCounts profile = (es : List (Element × ℕ)) (q : Element) → IsBag profile es → count_of profile q (items es) ≡ count_at es (normal profile q)

-- no two places of what is held have the same element
abbrev pub HeldApart : Profile → Type 0
HeldApart profile =
    (es : List (Element × ℕ)) (i j : ℕ) (p q : Element × ℕ) → IsBag profile es → slice_get es i ≡ Some p → slice_get es j ≡ Some q → SameElement profile p.0 q.0 → i ≡ j

-- ascending lists of kept elements with equal counts are equal
abbrev pub EqualCounts : Profile → Type 0
EqualCounts profile =
    (xs ys : List Element) → AllByRecursion (IsNormal profile) xs → AllByRecursion (IsNormal profile) ys → Ascends element_cmp xs → Ascends element_cmp ys →
    ((q : Element) → count_of profile q xs ≡ count_of profile q ys) → xs ≡ ys

-- each layout is the same as itself
abbrev pub IsReflexive : Profile → Type 0
IsReflexive profile = (a : Meaning) → SameLayout profile a a

-- sameness is symmetric
abbrev pub IsSymmetric : Profile → Type 0
IsSymmetric profile = (a b : Meaning) → SameLayout profile a b → SameLayout profile b a

-- and transitive
abbrev pub IsTransitive : Profile → Type 0
IsTransitive profile = (a b c : Meaning) → SameLayout profile a b → SameLayout profile b c → SameLayout profile a c
