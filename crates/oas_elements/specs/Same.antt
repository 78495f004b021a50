-- When two elements are the same under a profile, and the form in which an element is kept.
use Rattle.std.specs.Prelude.{◌≡◌, ◌<◌, ℕ, ℤ, pos, length, ◌+ℤ◌, ◌-ℤ◌, unsigned_abs, Bool, false, ◌==◌, ◌&&◌, List, Option, None, Some}
use Rattle.std.specs.Ordering.{eq_by_cmp}
use Rattle.oas_ring.specs.declared.point.Point.{Point}
use Rattle.oas_ring.specs.declared.rectangles.Corners.{Corners}
use Rattle.oas_ring.specs.Rings.{SameRing}
use Rattle.oas_ring.specs.Rectangles.{IsBox, is_box, box_of}
use Rattle.oas_elements.specs.declared.profile.Profile.{Profile}
use Rattle.oas_elements.specs.declared.profile.Profile.TheVariants.{One, Two}
use Rattle.oas_elements.specs.declared.element.Element.{Element}
use Rattle.oas_elements.specs.declared.element.Element.TheVariants.{Rectangle, Polygon}
use Rattle.oas_elements.specs.Element.{element_cmp}
use Rattle.oas_elements.specs.declared.kept.KeptPolygon.{KeptPolygon}
use Rattle.oas_elements.specs.declared.kept.KeptPolygon.TheVariants.{Box, Ring}
use Rattle.oas_ring.specs.Readings.{is_same_ring, least_of, reading_of}

-- the corners of a rectangle
abbrev pub rectangle_corners : ℕ → ℕ → ℤ → ℤ → Corners
rectangle_corners width height x y = record { low = record { x = x; y = y }; high = record { x = x +ℤ pos width; y = y +ℤ pos height } }

-- under profile two, the ring goes round the rectangle, which has positive sides
abbrev pub IsDrawn : Profile → List Point → Corners → Type 0
IsDrawn One points corners = ⊥
IsDrawn Two points corners = IsBox points corners

-- Equal kind and fields, where the points of polygons are the same ring; under profile two a polygon that goes round a
-- rectangle is also that rectangle.
abbrev pub SameElement : Profile → Element → Element → Type 0
SameElement profile (Polygon layer datatype points) (Polygon layer' datatype' points') = (layer ≡ layer') × (datatype ≡ datatype') × SameRing points points'
SameElement profile (Polygon layer datatype points) (Rectangle layer' datatype' width height x y) =
    (layer ≡ layer') × (datatype ≡ datatype') × IsDrawn profile points (rectangle_corners width height x y)
SameElement profile (Rectangle layer datatype width height x y) (Polygon layer' datatype' points) =
    (layer ≡ layer') × (datatype ≡ datatype') × IsDrawn profile points (rectangle_corners width height x y)
SameElement profile a b = a ≡ b

-- the test of IsDrawn
abbrev pub is_drawn : Profile → List Point → Corners → Bool
is_drawn One points corners = false
is_drawn Two points corners = is_box points corners

-- the test of SameElement, by which elements are counted
abbrev pub same_element : Profile → Element → Element → Bool
same_element profile (Polygon layer datatype points) (Polygon layer' datatype' points') = (layer == layer') && ((datatype == datatype') && is_same_ring points points')
same_element profile (Polygon layer datatype points) (Rectangle layer' datatype' width height x y) =
    (layer == layer') && ((datatype == datatype') && is_drawn profile points (rectangle_corners width height x y))
same_element profile (Rectangle layer datatype width height x y) (Polygon layer' datatype' points) =
    (layer == layer') && ((datatype == datatype') && is_drawn profile points (rectangle_corners width height x y))
same_element profile a b = eq_by_cmp element_cmp a b

-- under profile two, the rectangle that the ring goes round, if there is one
abbrev pub drawn_box : Profile → List Point → Option Corners
drawn_box One points = None
drawn_box Two points = box_of points

-- the rectangle with these corners
abbrev pub rectangle_of : ℕ → ℕ → Corners → Element
rectangle_of layer datatype corners =
    Rectangle layer datatype (unsigned_abs (corners.high.x -ℤ corners.low.x)) (unsigned_abs (corners.high.y -ℤ corners.low.y)) corners.low.x corners.low.y

-- the rectangle if there is one, or else the polygon of these points
abbrev pub normal_polygon : ℕ → ℕ → List Point → Option Corners → Element
normal_polygon layer datatype points None = Polygon layer datatype points
normal_polygon layer datatype points (Some corners) = rectangle_of layer datatype corners

-- the form in which an element is kept: a polygon in its least reading, or as its rectangle
abbrev pub normal : Profile → Element → Element
normal profile (Polygon layer datatype points) = normal_polygon layer datatype (least_of points) (drawn_box profile points)
normal profile e = e

-- the element is in the form in which it is kept
abbrev pub IsNormal : Profile → Element → Type 0
IsNormal profile e = normal profile e ≡ e

-- the element that a polygon with these points is kept as
abbrev pub kept_as : ℕ → ℕ → List Point → KeptPolygon → Element
kept_as layer datatype points (Box corners) = rectangle_of layer datatype corners
kept_as layer datatype points (Ring reading) = Polygon layer datatype (reading_of points reading)

-- a reading begins at one of these points
abbrev pub ReadsWithin : List Point → KeptPolygon → Type 0
ReadsWithin points (Box corners) = Unit {0}
ReadsWithin points (Ring reading) = reading.start < length points
