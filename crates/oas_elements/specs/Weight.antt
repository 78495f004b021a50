-- The weight of an element, and the points that it needs.
use Rattle.std.specs.Prelude.{ℕ, ◌+◌, nat_lt, Bool, false, length}
use Rattle.oas_elements.specs.declared.element.Element.{Element}
use Rattle.oas_elements.specs.declared.element.Element.TheVariants.{Placement, Text, Rectangle, Polygon, Path, Circle}

-- one, its points, and the bytes of its string
abbrev pub weight_of : Element → ℕ
weight_of (Placement cell x y turns flip) = 1 + length cell
weight_of (Text string textlayer texttype x y) = 1 + length string
weight_of (Rectangle layer datatype width height x y) = 1
weight_of (Polygon layer datatype points) = 1 + length points
weight_of (Path layer datatype half_width start end points) = 1 + length points
weight_of (Circle layer datatype radius x y) = 1

-- fewer points than its kind needs
abbrev pub lacks_points : Element → Bool
lacks_points (Polygon layer datatype points) = nat_lt (length points) 3
lacks_points (Path layer datatype half_width start end points) = nat_lt (length points) 1
lacks_points e = false
