-- Layouts in order, what is written for them, and what a file's canonical form keeps.
use Rattle.std.specs.Prelude.{◌≡◌, ℕ, ◌+◌, ◌*◌, ◌≤◌, List, length, false}
use Rattle.std.specs.Map.{keys_of}
use Rattle.oas_num.specs.Script.{Script}
use Rattle.oas_elements.specs.declared.limits.Limits.{Limits}
use Rattle.oas_elements.specs.declared.profile.Profile.{Profile}
use Rattle.oas_elements.specs.declared.profile.Profile.TheVariants.{One}
use Rattle.oas_elements.specs.Meaning.{Meaning, SameLayout, element_count, cells_weight}
use Rattle.oas_elements.specs.Contents.{Contents, IsLayout, expanded, meaning_of}
use Rattle.oas_file.specs.Meaning.{has_twice}
use Rattle.oas_file.specs.Acceptance.{Accepted, Means}
use Rattle.oas_file.specs.Reading.{IsRead}
use Rattle.oas_form.specs.Canonical.{IsOrdered, CanonicalForm, IsCanonicalOf}
use Rattle.oas_form.specs.Bytes.{canonical_bytes}

-- ---- the order

-- layouts in order that are the same are equal
abbrev pub EqualInOrder : Type 0
EqualInOrder = (profile : Profile) (m n : Meaning) → IsOrdered profile m.cells → IsOrdered profile n.cells → SameLayout profile m n → m ≡ n

-- every layout is in order
abbrev pub LayoutInOrder : Type 0
LayoutInOrder = (l : Contents) → IsLayout l → IsOrdered l.profile (expanded l.cells)

-- reading a file by one profile gives one layout, whatever the limits and the sources
abbrev pub OneLayoutRead : Type 0
OneLayoutRead = (one other : Limits) (profile : Profile) (old new mid last : Script) (l k : Contents) (r : IsRead one profile old l new) (s : IsRead other profile mid k last) →
    r.bytes ≡ s.bytes → meaning_of l ≡ meaning_of k

-- ---- what layouts that are the same have in common

-- as many elements, where no name occurs twice
abbrev pub SameCount : Type 0
SameCount = (profile : Profile) (m n : Meaning) → has_twice (keys_of m.cells) ≡ false → has_twice (keys_of n.cells) ≡ false → SameLayout profile m n → element_count n.cells ≡ element_count m.cells

-- under profile one they weigh as much
abbrev pub SameWeight : Type 0
SameWeight = (m n : Meaning) → has_twice (keys_of m.cells) ≡ false → has_twice (keys_of n.cells) ≡ false → SameLayout One m n → cells_weight n.cells ≡ cells_weight m.cells

-- one in order weighs no more than any that is the same
abbrev pub LeastWeight : Type 0
LeastWeight = (profile : Profile) (m n : Meaning) → has_twice (keys_of m.cells) ≡ false → IsOrdered profile n.cells → SameLayout profile m n → cells_weight n.cells ≤ cells_weight m.cells

-- ---- what is written

-- what is written for a layout is its canonical form, and means it
abbrev pub CanonicalBytes : Type 0
CanonicalBytes = (l : Contents) → IsLayout l → CanonicalForm l.limits l.profile (canonical_bytes (meaning_of l)) × Means (canonical_bytes (meaning_of l)) (meaning_of l)

-- a canonical form is what is written for each layout that is the same as its meaning
abbrev pub FormIsBytes : Type 0
FormIsBytes = (limits : Limits) (c : List ℕ) (m : Meaning) (l : Contents) → CanonicalForm limits l.profile c → Means c m → IsLayout l →
    SameLayout l.profile m (meaning_of l) → c ≡ canonical_bytes (meaning_of l)

-- a canonical form is the canonical bytes of its meaning
abbrev pub FormIsItsBytes : Type 0
FormIsItsBytes = (limits : Limits) (profile : Profile) (c : List ℕ) (m : Meaning) → CanonicalForm limits profile c → Means c m → c ≡ canonical_bytes m

-- a canonical form is one within all limits that its meaning keeps
abbrev pub FormWithin : Type 0
FormWithin = (one other : Limits) (profile : Profile) (c : List ℕ) (m : Meaning) → CanonicalForm one profile c → Means c m → element_count m.cells
    ≤ other.elements → cells_weight m.cells ≤ other.weight → CanonicalForm other profile c

-- ---- what a canonical form keeps

-- The canonical form of an accepted file has as many elements as the file, and weighs no more; under profile one it weighs as
-- much.
abbrev pub CanonicalWeight : Type 0
CanonicalWeight = (limits : Limits) (profile : Profile) (b c : List ℕ) (m n : Meaning) → Accepted limits b → IsCanonicalOf limits profile b c → Means b m →
    Means c n → (element_count n.cells ≡ element_count m.cells) × (cells_weight n.cells ≤ cells_weight m.cells) × (profile ≡ One → cells_weight n.cells ≡ cells_weight m.cells)

-- its length is bounded by the weight of the file
abbrev pub FormLength : Type 0
FormLength = (limits : Limits) (profile : Profile) (b c : List ℕ) (m : Meaning) → Accepted limits b → IsCanonicalOf limits profile b c → Means b m → length c ≤ 320 + 64 * cells_weight m.cells

-- ---- that there is one, whatever the limits

-- each accepted file has a canonical form
abbrev pub HasCanonicalForm : Type 0
HasCanonicalForm = (limits : Limits) (profile : Profile) (b : List ℕ) → Accepted limits b → (c : List ℕ) × IsCanonicalOf limits profile b c

-- which is the file's canonical form under all limits that accept the file
abbrev pub LimitsTogether : Type 0
LimitsTogether = (one other : Limits) (profile : Profile) (b c : List ℕ) → Accepted other b → IsCanonicalOf one profile b c → IsCanonicalOf other profile b c

-- and no longer than an input may be
abbrev pub FormFitsInput : Type 0
FormFitsInput = (limits : Limits) (profile : Profile) (b c : List ℕ) → Accepted limits b → IsCanonicalOf limits profile b c → length c ≤ limits.input

-- A file that is accepted is accepted under larger limits. The third limit, the input's length, is the source's, and no part
-- of `Accepted`.
abbrev pub LargerLimits : Type 0
LargerLimits = (one other : Limits) (b : List ℕ) → one.elements ≤ other.elements → one.weight ≤ other.weight → Accepted one b → Accepted other b
