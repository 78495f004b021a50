-- The canonical bytes of a layout spell its canonical records, and how many bytes there are.
use Rattle.std.specs.Prelude.{◌+◌, ◌*◌, ◌^◌, ◌<◌, ◌≤◌, false, length}
use Rattle.std.specs.List.{AllByRecursion}
use Rattle.oas_num.specs.Style.{Shortest}
use Rattle.oas_num.specs.Texts.{IsName}
use Rattle.oas_elements.specs.declared.element.Element.{Element}
use Rattle.oas_elements.specs.declared.element.Element.TheVariants.{Path}
use Rattle.oas_elements.specs.Meaning.{Meaning, cells_weight}
use Rattle.oas_file.specs.Files.{FileIn}
use Rattle.oas_elements.specs.Sound.{IsSound, IsUnit}
use Rattle.oas_form.specs.Records.{records_of}
use Rattle.oas_form.specs.Bytes.{canonical_bytes}

-- a file can spell it: the unit, each cell's name and elements, and how many points and bytes they have
pub record IsSpellable (m : Meaning) : Type 0 where
  pub unit : IsUnit m.unit
  pub names : AllByRecursion (λ c. IsName c.0) m.cells
  pub sound : AllByRecursion (λ c. AllByRecursion IsSound c.1) m.cells
  pub light : cells_weight m.cells ≤ 2 ^ 30

-- a path has at least one point
abbrev pub HasPoint : Element → Type 0
HasPoint (Path layer datatype half_width start end points) = 0 < length points
HasPoint e = Unit {0}

-- ---- the laws

-- the canonical bytes are the spelling of the canonical records in the shortest style, in a file with its table-offsets in
-- START
abbrev pub CanonicalBytesSpell : Type 0
CanonicalBytesSpell = (m : Meaning) → IsSpellable m → FileIn Shortest (record { unit = m.unit; flag_in_end = false }) (records_of m.cells) (canonical_bytes m)

-- there are at most 320, plus 64 for each unit of the weight
abbrev pub CanonicalLength : Type 0
CanonicalLength = (m : Meaning) → AllByRecursion (λ c. AllByRecursion HasPoint c.1) m.cells → length (canonical_bytes m) ≤ 320 + 64 * cells_weight m.cells
