-- What the records of canonical files mean, and that they are accepted. Records are listed oldest first.
use Rattle.std.specs.Prelude.{◌≡◌, ℕ, ◌≤◌, List, ◌++◌, false, true}
use Rattle.std.specs.List.{AllByRecursion}
use Rattle.std.specs.List.Sorted.{IsStrictlySortedBy}
use Rattle.std.specs.Ordering.{nat_cmp}
use Rattle.std.specs.Cmp.Lexicographic.{slice_cmp}
use Rattle.std.specs.Map.{keys_of}
use Rattle.oas_num.specs.Ratio.{Ratio, IsLowest}
use Rattle.oas_num.specs.Style.{Shortest}
use Rattle.oas_record.specs.declared.heads.Head.{Head}
use Rattle.oas_record.specs.declared.records.Record.{Record}
use Rattle.oas_elements.specs.declared.limits.Limits.{Limits}
use Rattle.oas_elements.specs.Grid.{fits_grid}
use Rattle.oas_elements.specs.Weight.{lacks_points}
use Rattle.oas_elements.specs.Meaning.{element_count, cells_weight}
use Rattle.oas_file.specs.Meaning.{has_twice}
use Rattle.oas_file.specs.Stands.{records_mean}
use Rattle.oas_file.specs.Files.{FileIn}
use Rattle.oas_file.specs.Acceptance.{Allowed, IsWhole}
use Rattle.oas_form.specs.Records.{Cells, records_of}

-- each element has the points that it needs
abbrev pub HavePoints : Cells → Type 0
HavePoints cs = AllByRecursion (λ c. AllByRecursion (λ e. lacks_points e ≡ false) c.1) cs

-- each element is within the grid
abbrev pub FitGrid : Cells → Type 0
FitGrid cs = AllByRecursion (λ c. AllByRecursion (λ e. fits_grid e ≡ true) c.1) cs

-- ---- the laws

-- the records of cells followed by further cells
abbrev pub RecordsSplit : Type 0
RecordsSplit = (cs ds : Cells) → records_of (cs ++ ds) ≡ records_of cs ++ records_of ds

-- the records of cells mean these cells
abbrev pub CanonicalMeans : Type 0
CanonicalMeans = (unit : Ratio) (cs : Cells) → HavePoints cs → records_mean unit (records_of cs) ≡ record { unit = unit; cells = cs }

-- A file in the shortest style has the records of the cells that it means. Its elements have their points, since its point
-- lists do.
abbrev pub ShortestIsCanonical : Type 0
ShortestIsCanonical = (limits : Limits) (head : Head) (rs : List Record) (c : List ℕ) → FileIn Shortest head rs c → Allowed limits rs → rs ≡ records_of (records_mean head.unit rs).cells

abbrev pub ShortestHasPoints : Type 0
ShortestHasPoints = (limits : Limits) (head : Head) (rs : List Record) (c : List ℕ) → FileIn Shortest head rs c → Allowed limits rs → HavePoints (records_mean head.unit rs).cells

-- its unit is in lowest terms, and its table-offsets are in START
abbrev pub ShortestHead : Type 0
ShortestHead = (head : Head) (rs : List Record) (c : List ℕ) → FileIn Shortest head rs c → IsLowest head.unit × (head.flag_in_end ≡ false)

-- No record of cells within the limits is refused, where each element has its points and is within the grid.
abbrev pub CanonicalAllowed : Type 0
CanonicalAllowed = (limits : Limits) (cs : Cells) → HavePoints cs → FitGrid cs → element_count cs ≤ limits.elements → cells_weight cs ≤ limits.weight → Allowed limits (records_of cs)

-- END doesn't refuse them where no name occurs twice
abbrev pub CanonicalWhole : Type 0
CanonicalWhole = (limits : Limits) (cs : Cells) → HavePoints cs → has_twice (keys_of cs) ≡ false → cells_weight cs ≤ limits.weight → IsWhole limits (records_of cs)

-- for example where the names ascend
abbrev pub AscendingWhole : Type 0
AscendingWhole = (limits : Limits) (cs : Cells) → HavePoints cs → IsStrictlySortedBy (slice_cmp nat_cmp) (keys_of cs) → cells_weight cs ≤ limits.weight → IsWhole limits (records_of cs)
