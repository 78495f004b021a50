-- The listing of a layout: the text that the command prints.
use Rattle.std.specs.Prelude.{ℕ, Bool, true, false, List, [], ◌∷◌, ◌++◌, map, flat_map, codes, decimal}
use Rattle.std.specs.Fmt.{signed_decimal}
use Rattle.oas_num.specs.Ratio.{Ratio}
use Rattle.oas_ring.specs.declared.point.Point.{Point}
use Rattle.oas_elements.specs.declared.element.Element.{Element}
use Rattle.oas_elements.specs.declared.element.Element.TheVariants.{Placement, Text, Rectangle, Polygon, Path, Circle}
use Rattle.oas_elements.specs.Element.{turn_count}
use Rattle.oas_elements.specs.Meaning.{Meaning}
use Rattle.oas_listing.specs.Lines.{line}

-- NUM/DEN
abbrev pub fraction : Ratio → List ℕ
fraction unit = decimal unit.num ++ (47 ∷ decimal unit.den)

-- X,Y
abbrev pub pair : Point → List ℕ
pair p = signed_decimal p.x ++ (44 ∷ signed_decimal p.y)

-- 1 for an element that is flipped, or else 0
abbrev pub flip_count : Bool → ℕ
flip_count true = 1
flip_count false = 0

-- an element's kind, and then the fields of that kind
abbrev pub element_fields : Element → List (List ℕ)
element_fields (Placement cell x y turns flip) =
    codes "placement" ∷ cell ∷ signed_decimal x ∷ signed_decimal y ∷ decimal (turn_count turns) ∷ decimal (flip_count flip) ∷ []
element_fields (Text string textlayer texttype x y) =
    codes "text" ∷ decimal textlayer ∷ decimal texttype ∷ signed_decimal x ∷ signed_decimal y ∷ string ∷ []
element_fields (Rectangle layer datatype width height x y) =
    codes "rectangle" ∷ decimal layer ∷ decimal datatype ∷ decimal width ∷ decimal height ∷ signed_decimal x ∷ signed_decimal y ∷ []
element_fields (Polygon layer datatype points) =
    codes "polygon" ∷ decimal layer ∷ decimal datatype ∷ map pair points
element_fields (Path layer datatype half_width start end points) =
    codes "path" ∷ decimal layer ∷ decimal datatype ∷ decimal half_width ∷ signed_decimal start ∷ signed_decimal end ∷ map pair points
element_fields (Circle layer datatype radius x y) =
    codes "circle" ∷ decimal layer ∷ decimal datatype ∷ decimal radius ∷ signed_decimal x ∷ signed_decimal y ∷ []

-- the line of an element
abbrev pub element_line : Element → List ℕ
element_line e = line (element_fields e)

-- the line of a cell's name, and then that of each of its elements
abbrev pub cell_lines : List ℕ × List Element → List ℕ
cell_lines c = line (codes "cell" ∷ c.0 ∷ []) ++ flat_map element_line c.1

-- the line of the unit, and then the lines of each cell
abbrev pub listing : Meaning → List ℕ
listing m = line (codes "unit" ∷ fraction m.unit ∷ []) ++ flat_map cell_lines m.cells
