-- The one spelling of a layout, defined on bytes (own rule).
use Rattle.std.specs.Prelude.{◌≡◌, ℕ, ◌↔◌, List}
use Rattle.std.specs.List.{AllByRecursion}
use Rattle.std.specs.List.Sorted.{IsStrictlySortedBy}
use Rattle.std.specs.Ordering.{nat_cmp}
use Rattle.std.specs.Cmp.Lexicographic.{slice_cmp}
use Rattle.std.specs.Map.{keys_of}
use Rattle.oas_num.specs.Style.{Shortest}
use Rattle.oas_record.specs.declared.heads.Head.{Head}
use Rattle.oas_record.specs.declared.records.Record.{Record}
use Rattle.oas_elements.specs.declared.limits.Limits.{Limits}
use Rattle.oas_elements.specs.declared.profile.Profile.{Profile}
use Rattle.oas_elements.specs.Element.{element_cmp}
use Rattle.oas_elements.specs.Ascending.{Ascends}
use Rattle.oas_elements.specs.Same.{IsNormal}
use Rattle.oas_elements.specs.Meaning.{Meaning, SameLayout}
use Rattle.oas_file.specs.Stands.{records_mean}
use Rattle.oas_file.specs.Files.{FileIn}
use Rattle.oas_file.specs.Acceptance.{Allowed, IsWhole, Accepted, Means}
use Rattle.oas_form.specs.Records.{Cells}

-- names ascend strictly; in each cell the elements ascend, with equal ones next to each other, and each is in the form that
-- the profile keeps
pub record IsOrdered (profile : Profile) (cs : Cells) : Type 0 where
  pub names : IsStrictlySortedBy (slice_cmp nat_cmp) (keys_of cs)
  pub ascending : AllByRecursion (λ c. Ascends element_cmp c.1) cs
  pub normal : AllByRecursion (λ c. AllByRecursion (IsNormal profile) c.1) cs

-- An accepted file in the shortest style, and in order. In that style there are only CELL by name and elements with all their
-- fields.
pub record CanonicalForm (limits : Limits) (profile : Profile) (c : List ℕ) : Type 0 where
  pub head : Head
  pub records : List Record
  pub file : FileIn Shortest head records c
  pub allowed : Allowed limits records
  pub whole : IsWhole limits records
  pub ordered : IsOrdered profile (records_mean head.unit records).cells

-- c is the canonical form of b
pub record IsCanonicalOf (limits : Limits) (profile : Profile) (b c : List ℕ) : Type 0 where
  pub form : CanonicalForm limits profile c
  pub source : Meaning
  pub target : Meaning
  pub means : Means b source
  pub becomes : Means c target
  pub same : SameLayout profile source target

-- ---- the laws

-- two canonical forms of one layout are equal, whatever their limits
abbrev pub OneCanonicalForm : Type 0
OneCanonicalForm = (one other : Limits) (profile : Profile) (c d : List ℕ) (m n : Meaning) → CanonicalForm one profile c → CanonicalForm other profile d →
    Means c m → Means d n → SameLayout profile m n → c ≡ d

-- a file that has canonical forms under two limits has one and the same under both
abbrev pub LimitsApart : Type 0
LimitsApart = (one other : Limits) (profile : Profile) (b c d : List ℕ) → IsCanonicalOf one profile b c → IsCanonicalOf other profile b d → c ≡ d

-- two accepted files mean the same layout exactly if they have one and the same canonical form, each under its limits
abbrev pub SameExactly : Type 0
SameExactly = (one other : Limits) (profile : Profile) (b d : List ℕ) (m n : Meaning) → Accepted one b → Accepted other d → Means b m → Means d n →
    SameLayout profile m n ↔ ((c : List ℕ) × IsCanonicalOf one profile b c × IsCanonicalOf other profile d c)

-- two files that have canonical forms mean the same layout exactly if these are equal
abbrev pub FormsEqual : Type 0
FormsEqual = (one other : Limits) (profile : Profile) (b d c e : List ℕ) (m n : Meaning) → IsCanonicalOf one profile b c → IsCanonicalOf other profile d e →
    Means b m → Means d n → SameLayout profile m n ↔ (c ≡ e)

-- the canonical form of a canonical form is that form
abbrev pub CanonicalAgain : Type 0
CanonicalAgain = (limits : Limits) (profile : Profile) (c d : List ℕ) → CanonicalForm limits profile c → IsCanonicalOf limits profile c d → d ≡ c

-- a canonical form is accepted
abbrev pub FormIsAccepted : Type 0
FormIsAccepted = (limits : Limits) (profile : Profile) (c : List ℕ) → CanonicalForm limits profile c → Accepted limits c
