-- The order of elements: by kind, and then by the fields.
use Rattle.std.specs.Prelude.{ℕ}
use Rattle.std.specs.Ordering.{nat_cmp, int_cmp, bool_cmp, ordering_then}
use Rattle.std.specs.Cmp.Lexicographic.{slice_cmp}
use Rattle.std.specs.declared.cmp.Ordering.{Ordering}
use Rattle.oas_ring.specs.Points.{list_cmp}
use Rattle.oas_elements.specs.declared.element.Turns.{Turns}
use Rattle.oas_elements.specs.declared.element.Turns.TheVariants.{T0, T1, T2, T3}
use Rattle.oas_elements.specs.declared.element.Element.{Element}
use Rattle.oas_elements.specs.declared.element.Element.TheVariants.{Placement, Text, Rectangle, Polygon, Path, Circle}

-- how many quarter turns
abbrev pub turn_count : Turns → ℕ
turn_count T0 = 0
turn_count T1 = 1
turn_count T2 = 2
turn_count T3 = 3

-- the number of a kind
abbrev pub kind : Element → ℕ
kind (Placement cell x y turns flip) = 0
kind (Text string textlayer texttype x y) = 1
kind (Rectangle layer datatype width height x y) = 2
kind (Polygon layer datatype points) = 3
kind (Path layer datatype half_width start end points) = 4
kind (Circle layer datatype radius x y) = 5

-- the first comparison, and where it ties the second
infixr 20 ◌then◌
abbrev pub ◌then◌ : Ordering → Ordering → Ordering
r then s = ordering_then r s

-- by kind, then by the fields in order
abbrev pub element_cmp : Element → Element → Ordering
element_cmp (Placement cell x y turns flip) (Placement cell' x' y' turns' flip') =
    slice_cmp nat_cmp cell cell' then int_cmp x x' then int_cmp y y' then nat_cmp (turn_count turns) (turn_count turns') then bool_cmp flip flip'
element_cmp (Text string textlayer texttype x y) (Text string' textlayer' texttype' x' y') =
    slice_cmp nat_cmp string string' then nat_cmp textlayer textlayer' then nat_cmp texttype texttype' then int_cmp x x' then int_cmp y y'
element_cmp (Rectangle layer datatype width height x y) (Rectangle layer' datatype' width' height' x' y') =
    nat_cmp layer layer' then nat_cmp datatype datatype' then nat_cmp width width' then nat_cmp height height' then int_cmp x x' then int_cmp y y'
element_cmp (Polygon layer datatype points) (Polygon layer' datatype' points') =
    nat_cmp layer layer' then nat_cmp datatype datatype' then list_cmp points points'
element_cmp (Path layer datatype half_width start end points) (Path layer' datatype' half_width' start' end' points') =
    nat_cmp layer layer' then nat_cmp datatype datatype' then nat_cmp half_width half_width' then int_cmp start start' then int_cmp end end' then list_cmp points points'
element_cmp (Circle layer datatype radius x y) (Circle layer' datatype' radius' x' y') =
    nat_cmp layer layer' then nat_cmp datatype datatype' then nat_cmp radius radius' then int_cmp x x' then int_cmp y y'
element_cmp a b = nat_cmp (kind a) (kind b)
