-- The key of an element: bytes that are ordered as the elements are (own rule). It is a byte for the kind, and then the
-- fields in the order in which elements are compared, each as bytes that are no prefix of another's.
use Rattle.std.specs.Prelude.{ℕ, ◌+◌, ◌*◌, ◌-ℤ◌, Bool, true, false, List, [], ◌∷◌, ◌++◌}
use Rattle.oas_ring.specs.declared.point.Point.{Point}
use Rattle.oas_ring.specs.Points.{origin}
use Rattle.oas_elements.specs.declared.element.Turns.{Turns}
use Rattle.oas_elements.specs.declared.element.Element.{Element}
use Rattle.oas_elements.specs.declared.element.Element.TheVariants.{Placement, Text, Rectangle, Polygon, Path, Circle}
use Rattle.oas_elements.specs.Element.{turn_count, kind}
use Rattle.oas_keys.specs.Numbers.{unsigned_key, signed_key}

-- a name's or a label's bytes, none of which is 0, and then 0
abbrev pub text_key : List ℕ → List ℕ
text_key bytes = bytes ++ 0 ∷ []

-- the step from one point to another
abbrev pub step_key : Point → Point → List ℕ
step_key before p = signed_key (p.x -ℤ before.x) ++ signed_key (p.y -ℤ before.y)

-- each point as the step to it from the one before, and then 0
abbrev pub points_key : Point → List Point → List ℕ
points_key before [] = 0 ∷ []
points_key before (p ∷ ps) = step_key before p ++ points_key p ps

-- the rank of a flip
abbrev pub flip_count : Bool → ℕ
flip_count false = 0
flip_count true = 1

-- turns and flip in one byte
abbrev pub turned_key : Turns → Bool → List ℕ
turned_key turns flip = (1 + (turn_count turns * 2 + flip_count flip)) ∷ []

-- the fields in the order in which they are compared
abbrev pub fields_key : Element → List ℕ
fields_key (Placement cell x y turns flip) = text_key cell ++ (signed_key x ++ (signed_key y ++ turned_key turns flip))
fields_key (Text string textlayer texttype x y) = text_key string ++ (unsigned_key textlayer ++ (unsigned_key texttype ++ (signed_key x ++ signed_key y)))
fields_key (Rectangle layer datatype width height x y) =
    unsigned_key layer ++ (unsigned_key datatype ++ (unsigned_key width ++ (unsigned_key height ++ (signed_key x ++ signed_key y))))
fields_key (Polygon layer datatype points) = unsigned_key layer ++ (unsigned_key datatype ++ points_key origin points)
fields_key (Path layer datatype half_width start end points) =
    unsigned_key layer ++ (unsigned_key datatype ++ (unsigned_key half_width ++ (signed_key start ++ (signed_key end ++ points_key origin points))))
fields_key (Circle layer datatype radius x y) = unsigned_key layer ++ (unsigned_key datatype ++ (unsigned_key radius ++ (signed_key x ++ signed_key y)))

-- the kind, from 1 on, and the fields
abbrev pub key_of : Element → List ℕ
key_of e = (kind e + 1) ∷ fields_key e
