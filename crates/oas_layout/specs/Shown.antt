-- The element that is shown, from a key that is held.
use Rattle.std.specs.Prelude.{Bool, true, false}
use Rattle.oas_elements.specs.declared.element.Element.{Element}
use Rattle.oas_elements.specs.declared.element.Element.TheVariants.{Placement, Text, Rectangle, Polygon, Path, Circle}
use Rattle.oas_layout.specs.declared.shown.ShownElement.{ShownElement}
use Rattle.oas_layout.specs.declared.shown.ShownElement.TheVariants as shown

-- it is this one
abbrev pub element_of : ShownElement → Element
element_of (shown.Placement cell x y turns flip) = Placement cell.now x y turns flip
element_of (shown.Text string textlayer texttype x y) = Text string.now textlayer texttype x y
element_of (shown.Rectangle layer datatype width height x y) = Rectangle layer datatype width height x y
element_of (shown.Polygon layer datatype points) = Polygon layer datatype points
element_of (shown.Path layer datatype half_width start end points) = Path layer datatype half_width start end points
element_of (shown.Circle layer datatype radius x y) = Circle layer datatype radius x y

-- it is a rectangle or a circle: it has no name, no string and no points
abbrev pub is_plain : ShownElement → Bool
is_plain (shown.Rectangle layer datatype width height x y) = true
is_plain (shown.Circle layer datatype radius x y) = true
is_plain _ = false
