-- An element as a value of a report database.
use Rattle.std.specs.Prelude.{ℕ, ℤ, pos, ◌+ℤ◌, ◌*◌, Bool, true, false, List, [], ◌∷◌, ◌++◌, codes, decimal, Option, None, Some}
use Rattle.oas_num.specs.Ratio.{Ratio}
use Rattle.oas_ring.specs.declared.point.Point.{Point}
use Rattle.oas_elements.specs.declared.element.Element.{Element}
use Rattle.oas_elements.specs.declared.element.Element.TheVariants.{Placement, Text, Rectangle, Polygon, Path, Circle}
use Rattle.oas_elements.specs.declared.element.Turns.{Turns}
use Rattle.oas_elements.specs.declared.element.Turns.TheVariants.{T0, T1, T2, T3}
use Rattle.oas_markers.specs.Texts.{quoted}
use Rattle.oas_difference.specs.Microns.{length_in, microns}
use Rattle.oas_markers.specs.Numbers.{place, places}

-- turns after a flip, as KLayout names them
abbrev pub turn_code : Turns → Bool → List ℕ
turn_code T0 false = codes "r0"
turn_code T1 false = codes "r90"
turn_code T2 false = codes "r180"
turn_code T3 false = codes "r270"
turn_code T0 true = codes "m0"
turn_code T1 true = codes "m45"
turn_code T2 true = codes "m90"
turn_code T3 true = codes "m135"

-- ---- shapes

-- label: ('STRING',TURN X,Y)
abbrev pub label : Ratio → List ℕ → List ℕ → ℤ → ℤ → List ℕ
label unit string turn x y = codes "label: ('" ++ (quoted string ++ (codes "'," ++ (turn ++ (32 ∷ (place unit x y ++ 41 ∷ [])))))

-- box: (X,Y;X,Y), the lower left and the upper right corner
abbrev pub box : Ratio → ℤ → ℤ → ℕ → ℕ → List ℕ
box unit x y width height = codes "box: (" ++ (place unit x y ++ (59 ∷ (microns unit (x +ℤ pos width) ++ (44 ∷ (microns unit (y +ℤ pos height) ++ 41 ∷ [])))))

-- polygon: (X,Y;X,Y;..)
abbrev pub polygon : Ratio → List Point → List ℕ
polygon unit points = codes "polygon: (" ++ (places unit points ++ 41 ∷ [])

-- path: (X,Y;X,Y;..) w=WIDTH bx=START ex=END r=false
abbrev pub path : Ratio → ℕ → ℤ → ℤ → List Point → List ℕ
path unit half_width start end points =
    codes "path: (" ++ (places unit points ++ (codes ") w=" ++ (length_in unit (2 * half_width) ++ (codes " bx=" ++ (microns unit start ++ (codes " ex=" ++ (microns unit end ++ codes " r=false")))))))

-- path: (X,Y) w=DIAMETER bx=RADIUS ex=RADIUS r=true
abbrev pub circle : Ratio → ℕ → ℤ → ℤ → List ℕ
circle unit radius x y =
    codes "path: (" ++ (place unit x y ++ (codes ") w=" ++ (length_in unit (2 * radius) ++ (codes " bx=" ++ (length_in unit radius ++ (codes " ex=" ++ (length_in unit radius ++ codes " r=true")))))))

-- Placements and texts are labels at their points. A circle is a path of one point that ends in half circles, as KLayout
-- reads it from a file.
abbrev pub shape : Ratio → Element → List ℕ
shape unit (Placement cell x y turns flip) = label unit cell (turn_code turns flip) x y
shape unit (Text string textlayer texttype x y) = label unit string (codes "r0") x y
shape unit (Rectangle layer datatype width height x y) = box unit x y width height
shape unit (Polygon layer datatype points) = polygon unit points
shape unit (Path layer datatype half_width start end points) = path unit half_width start end points
shape unit (Circle layer datatype radius x y) = circle unit radius x y

-- ---- layers

-- text: 'layer LAYER/DATATYPE'
abbrev pub layer_value : Option (ℕ × ℕ) → List ℕ
layer_value None = []
layer_value (Some p) = codes "<value>text: 'layer " ++ (decimal p.0 ++ (47 ∷ (decimal p.1 ++ codes "'</value>")))
