-- What is written of each thing that differs: a line, or a JSON object in a line.
use Rattle.std.specs.Prelude.{ℕ, List, [], ◌∷◌, ◌++◌, codes, decimal, Option, None, Some}
use Rattle.oas_num.specs.Ratio.{Ratio}
use Rattle.oas_elements.specs.declared.element.Element.{Element}
use Rattle.oas_elements.specs.declared.element.Element.TheVariants.{Placement, Text, Rectangle, Polygon, Path, Circle}
use Rattle.oas_elements.specs.Element.{turn_count}
use Rattle.oas_listing.specs.Lines.{line}
use Rattle.oas_listing.specs.Listing.{fraction, flip_count, element_line}
use Rattle.oas_diff_text.specs.Fields.{size, coordinate, bytes_text, places, quoted, fields}
use Rattle.oas_diff_options.specs.declared.format.Syntax.{Syntax}
use Rattle.oas_diff_options.specs.declared.format.Syntax.TheVariants.{Lines, Json}

-- SIGN COUNT LINE, for a thing that is there this many more times
abbrev pub signed : ℕ → ℕ → List ℕ → List ℕ
signed sign count text = sign ∷ 32 ∷ (decimal count ++ 32 ∷ text)

-- {"kind":"KIND","NAME":VALUE,..}, given what is behind the kind
abbrev pub object_line : List ℕ → List ℕ → List ℕ
object_line kind members = codes "{\"kind\":" ++ (quoted kind ++ (members ++ codes "}\n"))

abbrev pub object : List ℕ → List (List ℕ × List ℕ) → List ℕ
object kind members = object_line kind (fields Json members)

-- ---- the unit

abbrev pub unit_line : Ratio → List ℕ
unit_line unit = line (codes "unit" ∷ fraction unit ∷ [])

abbrev pub unit_entry : Syntax → ℕ → Ratio → List ℕ
unit_entry Lines sign unit = signed sign 1 (unit_line unit)
unit_entry Json sign unit =
    object (codes "unit") ((codes "sign", quoted (sign ∷ [])) ∷ (codes "count", decimal 1) ∷ (codes "num", decimal unit.num) ∷ (codes "den", decimal unit.den) ∷ [])

-- ---- a cell

abbrev pub cell_line : List ℕ → List ℕ
cell_line name = line (codes "cell" ∷ name ∷ [])

-- a cell that only one layout has
abbrev pub cell_entry : Syntax → ℕ → List ℕ → List ℕ
cell_entry Lines sign name = signed sign 1 (cell_line name)
cell_entry Json sign name =
    object (codes "cell") ((codes "sign", quoted (sign ∷ [])) ∷ (codes "count", decimal 1) ∷ (codes "cell", quoted name) ∷ [])

-- the line above the changes of a cell that both have; an object names its cell itself
abbrev pub place_line : List ℕ → List ℕ
place_line name = line (codes "@" ∷ codes "cell" ∷ name ∷ [])

abbrev pub place_entry : Syntax → List ℕ → List ℕ
place_entry Lines name = place_line name
place_entry Json name = []

-- ---- a cell in brief

-- SIGN cell NAME - N + M
abbrev pub brief_line : ℕ → List ℕ → ℕ → ℕ → List ℕ
brief_line sign name n m = sign ∷ (codes " cell " ++ (name ++ ((codes " - " ++ decimal n) ++ ((codes " + " ++ decimal m) ++ 10 ∷ []))))

-- the line, or the object with the same fields
abbrev pub brief_entry : Syntax → ℕ → List ℕ → ℕ → ℕ → List ℕ
brief_entry Lines sign name n m = brief_line sign name n m
brief_entry Json sign name n m =
    object (codes "cell") ((codes "sign", quoted (sign ∷ [])) ∷ (codes "cell", quoted name) ∷ (codes "removed", decimal n) ∷ (codes "added", decimal m) ∷ [])

-- ---- an element

abbrev pub kind_name : Element → List ℕ
kind_name (Placement cell x y turns flip) = codes "placement"
kind_name (Text string textlayer texttype x y) = codes "text"
kind_name (Rectangle layer datatype width height x y) = codes "rectangle"
kind_name (Polygon layer datatype points) = codes "polygon"
kind_name (Path layer datatype half_width start end points) = codes "path"
kind_name (Circle layer datatype radius x y) = codes "circle"

-- its fields, in the order of the listing
abbrev pub element_fields : Syntax → Option Ratio → Element → List (List ℕ × List ℕ)
element_fields syntax scale (Placement cell x y turns flip) =
    (codes "placed", bytes_text syntax cell) ∷ (codes "x", coordinate scale x) ∷ (codes "y", coordinate scale y)
    ∷ (codes "turns", decimal (turn_count turns)) ∷ (codes "flip", decimal (flip_count flip)) ∷ []
element_fields syntax scale (Text string textlayer texttype x y) =
    (codes "textlayer", decimal textlayer) ∷ (codes "texttype", decimal texttype) ∷ (codes "x", coordinate scale x)
    ∷ (codes "y", coordinate scale y) ∷ (codes "string", bytes_text syntax string) ∷ []
element_fields syntax scale (Rectangle layer datatype width height x y) =
    (codes "layer", decimal layer) ∷ (codes "datatype", decimal datatype) ∷ (codes "width", size scale width)
    ∷ (codes "height", size scale height) ∷ (codes "x", coordinate scale x) ∷ (codes "y", coordinate scale y) ∷ []
element_fields syntax scale (Polygon layer datatype points) =
    (codes "layer", decimal layer) ∷ (codes "datatype", decimal datatype) ∷ (codes "points", places syntax scale points) ∷ []
element_fields syntax scale (Path layer datatype half_width start end points) =
    (codes "layer", decimal layer) ∷ (codes "datatype", decimal datatype) ∷ (codes "half_width", size scale half_width)
    ∷ (codes "start", coordinate scale start) ∷ (codes "end", coordinate scale end) ∷ (codes "points", places syntax scale points) ∷ []
element_fields syntax scale (Circle layer datatype radius x y) =
    (codes "layer", decimal layer) ∷ (codes "datatype", decimal datatype) ∷ (codes "radius", size scale radius)
    ∷ (codes "x", coordinate scale x) ∷ (codes "y", coordinate scale y) ∷ []

-- its line of the listing, or the same line in microns
abbrev pub line_in : Option Ratio → Element → List ℕ
line_in None e = element_line e
line_in (Some unit) e = kind_name e ++ (fields Lines (element_fields Lines (Some unit) e) ++ 10 ∷ [])

-- an element of that cell, which is there this many more times
abbrev pub element_entry : Syntax → Option Ratio → List ℕ → ℕ → ℕ → Element → List ℕ
element_entry Lines scale name sign count e = signed sign count (line_in scale e)
element_entry Json scale name sign count e =
    object (kind_name e) (((codes "sign", quoted (sign ∷ [])) ∷ (codes "count", decimal count) ∷ (codes "cell", quoted name) ∷ []) ++ element_fields Json scale e)
