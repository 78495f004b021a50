-- The one spelling of a layout, as a function of the layout (own rule).
use Rattle.std.specs.Prelude.{ℕ, ℤ, ◌+◌, ◌*◌, ◌-◌, ◌-ℤ◌, ◌==◌, if◌then◌else◌, Bool, List, [], ◌∷◌, ◌++◌, length, replicate}
use Rattle.oas_num.specs.Ratio.{Ratio}
use Rattle.oas_num.specs.Writing.{shortest, shortest_signed, shortest_gdelta}
use Rattle.oas_ring.specs.declared.point.Point.{Point}
use Rattle.oas_record.specs.Heads.{magic}
use Rattle.oas_elements.specs.declared.element.Element.{Element}
use Rattle.oas_elements.specs.declared.element.Element.TheVariants.{Placement, Text, Rectangle, Polygon, Path, Circle}
use Rattle.oas_elements.specs.Element.{turn_count}
use Rattle.oas_elements.specs.Meaning.{Meaning}
use Rattle.oas_form.specs.Records.{Cells, first_of}

-- the length of a string, and the string
abbrev pub string_bytes : List ℕ → List ℕ
string_bytes string = shortest (length string) ++ string

abbrev pub place_bytes : ℤ → ℤ → List ℕ
place_bytes x y = shortest_signed x ++ shortest_signed y

-- from each point the step to the next
abbrev pub step_bytes : Point → List Point → List ℕ
step_bytes p [] = []
step_bytes p (q ∷ qs) = shortest_gdelta (q.x -ℤ p.x) (q.y -ℤ p.y) ++ step_bytes q qs

abbrev pub steps_bytes : List Point → List ℕ
steps_bytes [] = []
steps_bytes (p ∷ ps) = step_bytes p ps

-- a point list of type 4: the number of points less one, and the steps
abbrev pub list_bytes : List Point → List ℕ
list_bytes points = 4 ∷ (shortest (length points - 1) ++ steps_bytes points)

-- a point list, and the first point
abbrev pub points_bytes : List Point → List ℕ
points_bytes points = list_bytes points ++ place_bytes (first_of points).x (first_of points).y

abbrev pub flip_bit : Bool → ℕ
flip_bit flip = if flip then 1 else 0

-- the info byte of a placement: the quarter turns twice, and the flip
abbrev pub placement_info : ℕ → Bool → ℕ
placement_info quarters flip = 176 + 2 * quarters + flip_bit flip

-- the record of an element: its id, the info byte for all fields, and these
abbrev pub element_bytes : Element → List ℕ
element_bytes (Placement name x y turns flip) = 17 ∷ placement_info (turn_count turns) flip ∷ (string_bytes name ++ place_bytes x y)
element_bytes (Text string textlayer texttype x y) = 19 ∷ 0x5B ∷ (string_bytes string ++ (shortest textlayer ++ (shortest texttype ++ place_bytes x y)))
element_bytes (Rectangle layer datatype width height x y) = 20 ∷ 0x7B ∷ (shortest layer ++ (shortest datatype ++ (shortest width ++ (shortest height ++ place_bytes x y))))
element_bytes (Polygon layer datatype points) = 21 ∷ 0x3B ∷ (shortest layer ++ (shortest datatype ++ points_bytes points))
element_bytes (Path layer datatype half_width start end points) =
    22 ∷ 0xFB ∷ (shortest layer ++ (shortest datatype ++ (shortest half_width ++ (15 ∷ (shortest_signed start ++ (shortest_signed end ++ points_bytes points))))))
element_bytes (Circle layer datatype radius x y) = 27 ∷ 0x3B ∷ (shortest layer ++ (shortest datatype ++ (shortest radius ++ place_bytes x y)))

abbrev pub elements_bytes : List Element → List ℕ
elements_bytes [] = []
elements_bytes (e ∷ es) = element_bytes e ++ elements_bytes es

-- a CELL by its name
abbrev pub opening_bytes : List ℕ → List ℕ
opening_bytes name = 14 ∷ string_bytes name

-- and its elements
abbrev pub cell_bytes : List ℕ × List Element → List ℕ
cell_bytes c = opening_bytes c.0 ++ elements_bytes c.1

abbrev pub cells_bytes : Cells → List ℕ
cells_bytes [] = []
cells_bytes (c ∷ cs) = cell_bytes c ++ cells_bytes cs

-- a whole number, one over a number, or both parts
unfoldable pub unit_bytes : Ratio → List ℕ
unit_bytes u =
    if u.den == 1 then 0 ∷ shortest u.num else
    (if u.num == 1 then 2 ∷ shortest u.den else
    4 ∷ (shortest u.num ++ shortest u.den))

-- the magic, START's id and version, the unit, offset-flag 0 and twelve zeros
unfoldable pub head_bytes : Ratio → List ℕ
head_bytes u = magic ++ (1 ∷ 3 ∷ 0x31 ∷ 0x2E ∷ 0x30 ∷ (unit_bytes u ++ (0 ∷ replicate 12 0)))

-- END's id, 252 zeros of padding, and scheme 0
unfoldable pub end_bytes : List ℕ
end_bytes = 2 ∷ 252 ∷ 1 ∷ (replicate 252 0 ++ (0 ∷ []))

unfoldable pub canonical_bytes : Meaning → List ℕ
canonical_bytes m = head_bytes m.unit ++ (cells_bytes m.cells ++ end_bytes)
