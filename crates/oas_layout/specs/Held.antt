-- What keys hold: the elements, cells and points whose keys they are. There is one of each at most (specs/Laws/HeldLaws.antt and
-- PointsLaws.antt), so that what holds keys is seen as these.
use Rattle.std.specs.Prelude.{◌≡◌, ℕ, ◌≤◌, ◌^◌, List, sum_by}
use Rattle.std.specs.Borrow.{Bor}
use Rattle.std.specs.List.{AllByRecursion}
use Rattle.oas_num.specs.Ratio.{Ratio}
use Rattle.oas_ring.specs.declared.point.Point.{Point}
use Rattle.oas_elements.specs.declared.limits.Limits.{Limits}
use Rattle.oas_elements.specs.declared.profile.Profile.{Profile}
use Rattle.oas_elements.specs.declared.element.Element.{Element}
use Rattle.oas_elements.specs.Bag.{items}
use Rattle.oas_elements.specs.Contents.{Cell, Contents, AllSound, expanded}
use Rattle.oas_elements.specs.Meaning.{cells_weight}
use Rattle.oas_elements.specs.Sound.{IsSound}
use Rattle.oas_elements.specs.Weight.{weight_of}
use Rattle.oas_cells.specs.SpelledPoints.{SpelledPoints}
use Rattle.oas_cells.specs.Reading.{HasPoints}
use Rattle.oas_cells.specs.Keys.{key_of}
use Rattle.oas_runs.specs.Entries.{Entry}
use Rattle.oas_layout.specs.Keyed.{keyed, keyed_cells}

-- a sound element whose key this is
abbrev pub HeldElement : List ℕ → Type 0
HeldElement key = (e : Element) × IsSound e × (key ≡ key_of e)

-- that element
unfoldable pub element_held : {key : List ℕ} → HeldElement key → Element
element_held h = h.0

-- sound elements whose keys these are, with their counts
abbrev pub HeldElements : List Entry → Type 0
HeldElements ks = (es : List (Element × ℕ)) × AllSound es × (ks ≡ keyed es)

-- these elements
unfoldable pub elements_held : {ks : List Entry} → HeldElements ks → List (Element × ℕ)
elements_held h = h.0

-- they weigh no more than a layout may
abbrev pub AreLight : List (Element × ℕ) → Type 0
AreLight es = sum_by weight_of (items es) ≤ 2 ^ 30

-- the elements of each cell are sound
abbrev pub AreSoundCells : List Cell → Type 0
AreSoundCells cs = AllByRecursion (λ c. AllSound c.1) cs

-- cells of sound elements whose runs these are
abbrev pub HeldCells : List (List ℕ × List Entry) → Type 0
HeldCells rs = (cs : List Cell) × AreSoundCells cs × (rs ≡ keyed_cells cs)

-- these cells
unfoldable pub cells_held : {rs : List (List ℕ × List Entry)} → HeldCells rs → List Cell
cells_held h = h.0

-- all of them weigh no more than a layout may
abbrev pub AreLightCells : List Cell → Type 0
AreLightCells cs = cells_weight (expanded cs) ≤ 2 ^ 30

-- a name and elements, as an iterator gives them
abbrev pub name_and_elements : Bor (List ℕ) × List (Element × ℕ) → Cell
name_and_elements c = (c.0.now, c.1)

-- the points of a key that are still to be read
abbrev pub HeldPoints : SpelledPoints → Type 0
HeldPoints s = (ps : List Point) × HasPoints s ps

-- these points
unfoldable pub points_held : {s : SpelledPoints} → HeldPoints s → List Point
points_held h = h.0

-- these cells, of which what was given weighs what they weigh
abbrev pub contents_of : Ratio → Limits → Profile → List Cell → Contents
contents_of unit limits profile cs = record { unit = unit; limits = limits; profile = profile; cells = cs; spelled = cells_weight (expanded cs) }
