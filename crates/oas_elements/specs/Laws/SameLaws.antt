-- Elements are the same exactly if the forms in which they are kept are equal.
use Rattle.std.specs.Prelude.{◌≡◌, ◌≢◌, ◌≤◌, ℕ, ◌+◌, ℤ, pos, ◌+ℤ◌, ◌-ℤ◌, ◌<ℤ◌, unsigned_abs, Bool, true, false, ◌&&◌, List, length, Option, None, Some, refl}
use Rattle.std.proofs.Common.{sym, ◌∙◌, ap, subst, true≢false, arith}
use Rattle.std.proofs.lemmas.Int.{ints}
use Rattle.std.proofs.lemmas.Bool.Decides.{same_from_decides, Decides-eqb}
use Rattle.std.specs.Bool.{Decides}
use Rattle.std.specs.Ordering.{eq_by_cmp, is_eq}
use Rattle.std.specs.Cmp.{Equal-is, tied_itself}
use Rattle.oas_ring.specs.declared.point.Point.{Point}
use Rattle.oas_ring.specs.declared.rectangles.Corners.{Corners}
use Rattle.oas_ring.specs.Rings.{SameRing}
use Rattle.oas_ring.specs.Readings.{IsLeastReading}
use Rattle.oas_ring.specs.Rectangles.{IsBox, corners_of, box_of}
use Rattle.oas_ring.specs.Laws.RingsLaws.{same_ring_itself, same_ring_back, same_ring_twice}
use Rattle.oas_elements.specs.declared.profile.Profile.{Profile}
use Rattle.oas_elements.specs.declared.profile.Profile.TheVariants.{One, Two}
use Rattle.oas_elements.specs.declared.element.Element.{Element}
use Rattle.oas_elements.specs.declared.element.Element.TheVariants.{Placement, Text, Rectangle, Polygon, Path, Circle}
use Rattle.oas_elements.specs.Element.{element_cmp, kind}
use Rattle.oas_elements.specs.Laws.ElementLaws.{element_total, exact_elements}
use Rattle.oas_ring.specs.Readings.{least_of}
use Rattle.oas_ring.specs.Laws.ReadingsLaws.{is_same_ring-SameRing, least_of-IsLeastReadingOf, least_of-is, least_of-same_ring, least_of-least_of, length-least_of}
use Rattle.oas_ring.specs.Laws.RectanglesLaws.{is_box-Decides, box_of-is, box_of-box, box_of-none, box_of-alike}
use Rattle.oas_elements.specs.Weight.{weight_of}
use Rattle.oas_elements.specs.Same.{rectangle_corners, IsDrawn, SameElement, is_drawn, same_element, drawn_box, rectangle_of, normal_polygon, normal, IsNormal}

-- ---- the test says when elements are the same

-- the order ties exactly equal elements
equal-Decides : (a b : Element) → Decides (eq_by_cmp element_cmp a b) (a ≡ b)
equal-Decides a b = (λ e. exact_elements a b ((Equal-is (element_cmp a b)).0 e), λ e. ap (λ x. is_eq (element_cmp a x)) (sym e) ∙ ap is_eq (tied_itself element_total a))

-- three tests, one after the other
three : (a b c : Bool) (P Q R : Type 0) → Decides a P → Decides b Q → Decides c R → Decides (a && (b && c)) (P × Q × R)
three true true c P Q R p q r = (λ e. (p.0 refl, q.0 refl, r.0 e), λ h. r.1 h.2)
three true false c P Q R p q r = (λ e. absurd (true≢false (sym e)), λ h. absurd (true≢false (sym (q.1 h.1))))
three false b c P Q R p q r = (λ e. absurd (true≢false (sym e)), λ h. absurd (true≢false (sym (p.1 h.0))))

-- the test of `IsDrawn` is true exactly for it
drawn-Decides : (profile : Profile) (points : List Point) (corners : Corners) → Decides (is_drawn profile points corners) (IsDrawn profile points corners)
drawn-Decides One points corners = (λ e. true≢false (sym e), λ no. absurd no)
drawn-Decides Two points corners = is_box-Decides points corners

-- the test of `SameElement` is true exactly for it
pub same_element-Decides : (profile : Profile) (a b : Element) → Decides (same_element profile a b) (SameElement profile a b)
same_element-Decides profile (Polygon layer datatype points) (Polygon layer' datatype' points') =
    three _ _ _ _ _ _ (Decides-eqb layer layer') (Decides-eqb datatype datatype') (is_same_ring-SameRing points points')
same_element-Decides profile (Polygon layer datatype points) (Rectangle layer' datatype' width height x y) =
    three _ _ _ _ _ _ (Decides-eqb layer layer') (Decides-eqb datatype datatype') (drawn-Decides profile points (rectangle_corners width height x y))
same_element-Decides profile (Rectangle layer datatype width height x y) (Polygon layer' datatype' points) =
    three _ _ _ _ _ _ (Decides-eqb layer layer') (Decides-eqb datatype datatype') (drawn-Decides profile points (rectangle_corners width height x y))
same_element-Decides profile (Placement cell x y turns flip) (Polygon layer datatype points) = equal-Decides _ _
same_element-Decides profile (Text string textlayer texttype x y) (Polygon layer datatype points) = equal-Decides _ _
same_element-Decides profile (Path layer datatype half_width start end points) (Polygon layer' datatype' points') = equal-Decides _ _
same_element-Decides profile (Circle layer datatype radius x y) (Polygon layer' datatype' points') = equal-Decides _ _
same_element-Decides profile a b = equal-Decides a b

-- ---- rectangles and their corners

-- the rectangle that a ring is drawn round is the one that is found
drawn-is : (profile : Profile) (points : List Point) (corners : Corners) → IsDrawn profile points corners → drawn_box profile points ≡ Some corners
drawn-is One points corners h = absurd h
drawn-is Two points corners h = box_of-is points corners h

-- and back
drawn-box : (profile : Profile) (points : List Point) (corners : Corners) → drawn_box profile points ≡ Some corners → IsDrawn profile points corners
drawn-box One points corners e = cc
drawn-box Two points corners e = box_of-box points corners e

-- rings that are the same are drawn round the same rectangle
drawn-alike : (profile : Profile) (p q : List Point) → SameRing p q → drawn_box profile p ≡ drawn_box profile q
drawn-alike One p q s = refl
drawn-alike Two p q s = box_of-alike p q s

-- a side, from both its ends
side_back : (x : ℤ) (n : ℕ) → unsigned_abs ((x +ℤ pos n) -ℤ x) ≡ n
side_back x n = grind (arith, ints)

-- an end, from the other and the side
side_there : (l h : ℤ) → l <ℤ h → l +ℤ pos (unsigned_abs (h -ℤ l)) ≡ h
side_there l h p = grind (arith, ints)

-- the rectangle with the corners of a rectangle is that rectangle
rectangle_back : (layer datatype width height : ℕ) (x y : ℤ) → rectangle_of layer datatype (rectangle_corners width height x y) ≡ Rectangle layer datatype width height x y
rectangle_back layer datatype width height x y = λ i. Rectangle layer datatype (side_back x width i) (side_back y height i) x y

-- the corners of the rectangle with these corners
pub corners_back : (c : Corners) → c.low.x <ℤ c.high.x → c.low.y <ℤ c.high.y → rectangle_corners (unsigned_abs (c.high.x -ℤ c.low.x)) (unsigned_abs (c.high.y -ℤ c.low.y)) c.low.x c.low.y ≡ c
corners_back c wide tall = λ i. record { low = c.low; high = record { x = side_there c.low.x c.high.x wide i; y = side_there c.low.y c.high.y tall i } }

-- the rectangle that is drawn, from the one that is kept
drawn_from_kept : (profile : Profile) (points : List Point) (c : Corners) (layer layer' datatype datatype' width height : ℕ) (x y : ℤ) → drawn_box profile points ≡ Some c →
    rectangle_of layer datatype c ≡ Rectangle layer' datatype' width height x y → IsDrawn profile points (rectangle_corners width height x y)
drawn_from_kept One points c layer layer' datatype datatype' width height x y e h = cc
drawn_from_kept Two points c layer layer' datatype datatype' width height x y e h =
    let b : IsBox points c = box_of-box points c e in
    let w : unsigned_abs (c.high.x -ℤ c.low.x) ≡ width = cc in
    let t : unsigned_abs (c.high.y -ℤ c.low.y) ≡ height = cc in
    let u : c.low.x ≡ x = cc in
    let v : c.low.y ≡ y = cc in
    let same : rectangle_corners width height x y ≡ c = (λ i. rectangle_corners (sym w i) (sym t i) (sym u i) (sym v i)) ∙ corners_back c b.wide b.tall in
    subst (IsBox points) (sym same) b

-- ---- the same have one kept form

-- a polygon that is drawn round a rectangle is kept as it
kept_rectangle : (profile : Profile) (layer datatype layer' datatype' width height : ℕ) (x y : ℤ) (points : List Point) → layer ≡ layer' → datatype ≡ datatype' →
    IsDrawn profile points (rectangle_corners width height x y) → normal profile (Polygon layer datatype points) ≡ Rectangle layer' datatype' width height x y
kept_rectangle profile layer datatype layer' datatype' width height x y points e f d =
    ap (normal_polygon layer datatype (least_of points)) (drawn-is profile points (rectangle_corners width height x y) d)
    ∙ rectangle_back layer datatype width height x y ∙ (λ i. Rectangle (e i) (f i) width height x y)

-- elements that are the same have one kept form
pub normal-alike : (profile : Profile) (a b : Element) → SameElement profile a b → normal profile a ≡ normal profile b
normal-alike profile (Polygon layer datatype points) (Polygon layer' datatype' points') s =
    λ i. normal_polygon (s.0 i) (s.1 i) ((least_of-same_ring points points').0 s.2 i) (drawn-alike profile points points' s.2 i)
normal-alike profile (Polygon layer datatype points) (Rectangle layer' datatype' width height x y) s =
    kept_rectangle profile layer datatype layer' datatype' width height x y points s.0 s.1 s.2
normal-alike profile (Rectangle layer datatype width height x y) (Polygon layer' datatype' points) s =
    sym (kept_rectangle profile layer' datatype' layer datatype width height x y points (sym s.0) (sym s.1) s.2)
normal-alike profile (Placement cell x y turns flip) (Polygon layer datatype points) s = ap (normal profile) s
normal-alike profile (Text string textlayer texttype x y) (Polygon layer datatype points) s = ap (normal profile) s
normal-alike profile (Path layer datatype half_width start end points) (Polygon layer' datatype' points') s = ap (normal profile) s
normal-alike profile (Circle layer datatype radius x y) (Polygon layer' datatype' points') s = ap (normal profile) s
normal-alike profile a b s = ap (normal profile) s

-- ---- one kept form makes them the same

-- a kept polygon is a rectangle or a polygon
no_other : (a : Element) (layer datatype : ℕ) (points : List Point) (o : Option Corners) → kind a ≢ 2 → kind a ≢ 3 → a ≡ normal_polygon layer datatype points o → ⊥
no_other a layer datatype points None two three e = three (ap kind e)
no_other a layer datatype points (Some c) two three e = two (ap kind e)

-- polygons with one kept form are the same
polygons : (profile : Profile) (layer datatype layer' datatype' : ℕ) (p q : List Point) (o r : Option Corners) → drawn_box profile p ≡ o → drawn_box profile q ≡ r →
    normal_polygon layer datatype (least_of p) o ≡ normal_polygon layer' datatype' (least_of q) r → (layer ≡ layer') × (datatype ≡ datatype') × SameRing p q
polygons profile layer datatype layer' datatype' p q None None e f h = (cc, cc, (least_of-same_ring p q).1 cc)
polygons profile layer datatype layer' datatype' p q None (Some d) e f h = let no : ⊥ = cc in absurd no
polygons profile layer datatype layer' datatype' p q (Some c) None e f h = let no : ⊥ = cc in absurd no
polygons One layer datatype layer' datatype' p q (Some c) (Some d) e f h = let no : ⊥ = cc in absurd no
polygons Two layer datatype layer' datatype' p q (Some c) (Some d) e f h =
    let b : IsBox p c = box_of-box p c e in
    let k : IsBox q d = box_of-box q d f in
    let there : IsDrawn Two p (rectangle_corners (unsigned_abs (d.high.x -ℤ d.low.x))
    (unsigned_abs (d.high.y -ℤ d.low.y)) d.low.x d.low.y) = drawn_from_kept Two p c layer layer' datatype datatype' _ _ _ _ e h in
    let same : IsBox p d = subst (IsBox p) (corners_back d k.wide k.tall) there in
    (cc, cc, same_ring_twice p (corners_of d) q same.round (same_ring_back q (corners_of d) k.round))

-- a polygon that is kept as a rectangle is drawn round it
polygon_rectangle : (profile : Profile) (layer datatype layer' datatype' width height : ℕ) (x y : ℤ) (points : List Point) (o : Option Corners) → drawn_box profile points ≡ o →
    normal_polygon layer datatype (least_of points) o ≡ Rectangle layer' datatype' width height x y →
    (layer ≡ layer') × (datatype ≡ datatype') × IsDrawn profile points (rectangle_corners width height x y)
polygon_rectangle profile layer datatype layer' datatype' width height x y points None e h = let no : ⊥ = cc in absurd no
polygon_rectangle profile layer datatype layer' datatype' width height x y points (Some c) e h =
    (cc, cc, drawn_from_kept profile points c layer layer' datatype datatype' width height x y e h)

-- elements with one kept form are the same
pub same_from_normal : (profile : Profile) (a b : Element) → normal profile a ≡ normal profile b → SameElement profile a b
same_from_normal profile (Polygon layer datatype points) (Polygon layer' datatype' points') h =
    polygons profile layer datatype layer' datatype' points points' _ _ refl refl h
same_from_normal profile (Polygon layer datatype points) (Rectangle layer' datatype' width height x y) h =
    polygon_rectangle profile layer datatype layer' datatype' width height x y points _ refl h
same_from_normal profile (Rectangle layer datatype width height x y) (Polygon layer' datatype' points) h =
    let back = polygon_rectangle profile layer' datatype' layer datatype width height x y points _ refl (sym h) in
    (sym back.0, sym back.1, back.2)
same_from_normal profile (Placement cell x y turns flip) (Polygon layer datatype points) h = absurd (no_other (Placement cell x y turns flip) layer datatype _ _ (λ e. cc) (λ e. cc) h)
same_from_normal profile (Text string textlayer texttype x y) (Polygon layer datatype points) h = absurd (no_other (Text string textlayer texttype x y) layer datatype _ _ (λ e. cc) (λ e. cc) h)
same_from_normal profile (Path layer datatype half_width start end points) (Polygon layer' datatype' points') h = absurd
    (no_other (Path layer datatype half_width start end points) layer' datatype' _ _ (λ e. cc) (λ e. cc) h)
same_from_normal profile (Circle layer datatype radius x y) (Polygon layer' datatype' points') h = absurd (no_other (Circle layer datatype radius x y) layer' datatype' _ _ (λ e. cc) (λ e. cc) h)
same_from_normal profile (Polygon layer datatype points) (Placement cell x y turns flip) h = absurd (no_other (Placement cell x y turns flip) layer datatype _ _ (λ e. cc) (λ e. cc) (sym h))
same_from_normal profile (Polygon layer datatype points) (Text string textlayer texttype x y) h = absurd (no_other (Text string textlayer texttype x y) layer datatype _ _ (λ e. cc) (λ e. cc) (sym h))
same_from_normal profile (Polygon layer datatype points) (Path layer' datatype' half_width start end points') h = absurd
    (no_other (Path layer' datatype' half_width start end points') layer datatype _ _ (λ e. cc) (λ e. cc) (sym h))
same_from_normal profile (Polygon layer datatype points) (Circle layer' datatype' radius x y) h = absurd (no_other (Circle layer' datatype' radius x y) layer datatype _ _ (λ e. cc) (λ e. cc) (sym h))
same_from_normal profile a b h = h

-- the two together
pub same_element-is : (profile : Profile) (a b : Element) → same_element profile a b ≡ eq_by_cmp element_cmp (normal profile a) (normal profile b)
same_element-is profile a b =
    let test = same_element-Decides profile a b in
    let equal = equal-Decides (normal profile a) (normal profile b) in
    same_from_decides _ _ test (λ e. same_from_normal profile a b (equal.0 e), λ s. equal.1 (normal-alike profile a b s))

-- ---- the kept form

-- a kept polygon is kept unchanged
kept_again : (profile : Profile) (layer datatype : ℕ) (points : List Point) (o : Option Corners) → drawn_box profile points ≡ o →
    normal profile (normal_polygon layer datatype (least_of points) o) ≡ normal_polygon layer datatype (least_of points) o
kept_again profile layer datatype points None e =
    λ i. normal_polygon layer datatype (least_of-least_of points i)
    ((drawn-alike profile (least_of points) points (same_ring_back points (least_of points) (least_of-IsLeastReadingOf points).same) ∙ e) i)
kept_again profile layer datatype points (Some c) e = refl

-- a kept form is its own kept form
pub normal-normal : (profile : Profile) (e : Element) → normal profile (normal profile e) ≡ normal profile e
normal-normal profile (Polygon layer datatype points) = kept_again profile layer datatype points _ refl
normal-normal profile e = refl

-- an element is the same as its kept form
pub normal-same : (profile : Profile) (e : Element) → SameElement profile (normal profile e) e
normal-same profile e = same_from_normal profile (normal profile e) e (normal-normal profile e)

-- under profile one an element weighs as much as its kept form
pub weight_of-normal : (e : Element) → weight_of (normal One e) ≡ weight_of e
weight_of-normal (Polygon layer datatype points) = ap (λ (n : ℕ). 1 + n) (length-least_of points)
weight_of-normal e = refl

-- a kept polygon weighs no more than it did
kept_weight : (layer datatype : ℕ) (points : List Point) (o : Option Corners) → weight_of (normal_polygon layer datatype (least_of points) o) ≤ 1 + length points
kept_weight layer datatype points None = omega (arith, length-least_of points)
kept_weight layer datatype points (Some c) = omega arith

-- and under both at least as much
pub weight_of-normal-le : (profile : Profile) (e : Element) → weight_of (normal profile e) ≤ weight_of e
weight_of-normal-le profile (Polygon layer datatype points) = kept_weight layer datatype points (drawn_box profile points)
weight_of-normal-le profile e = omega arith

-- a kept polygon is in its least reading, and under profile two it goes round no rectangle
kept_polygon : (profile : Profile) (layer datatype : ℕ) (points : List Point) (o : Option Corners) → drawn_box profile points ≡ o →
    normal_polygon layer datatype (least_of points) o ≡ Polygon layer datatype points → (least_of points ≡ points) × (o ≡ None)
kept_polygon profile layer datatype points None e h = (cc, refl)
kept_polygon profile layer datatype points (Some c) e h = let no : ⊥ = cc in absurd no

-- a polygon that is kept unchanged is in its least reading
pub normal-least : (profile : Profile) (layer datatype : ℕ) (points : List Point) → IsNormal profile (Polygon layer datatype points) → IsLeastReading points
normal-least profile layer datatype points h =
    subst IsLeastReading (kept_polygon profile layer datatype points (drawn_box profile points) refl h).0 (least_of-IsLeastReadingOf points).least

-- and under profile two goes round no rectangle
pub normal-no_box : (layer datatype : ℕ) (points : List Point) (corners : Corners) → IsNormal Two (Polygon layer datatype points) → IsBox points corners → ⊥
normal-no_box layer datatype points corners h b =
    let none : box_of points ≡ None = (kept_polygon Two layer datatype points (box_of points) refl h).1 in
    let some : box_of points ≡ Some corners = box_of-is points corners b in cc

-- and each such polygon is kept unchanged
pub normal-polygon : (profile : Profile) (layer datatype : ℕ) (points : List Point) → IsLeastReading points → ((corners : Corners) → IsDrawn profile points corners → ⊥) →
    IsNormal profile (Polygon layer datatype points)
normal-polygon One layer datatype points least none =
    ap (Polygon layer datatype) (sym (least_of-is points points (record { same = same_ring_itself points; least = least })))
normal-polygon Two layer datatype points least none =
    λ i. normal_polygon layer datatype (sym (least_of-is points points (record { same = same_ring_itself points; least = least })) i) (box_of-none points none i)

-- among kept elements the same ones are the equal ones
pub same_normal : (profile : Profile) (a b : Element) → IsNormal profile a → IsNormal profile b → same_element profile a b ≡ eq_by_cmp element_cmp a b
same_normal profile a b h k = same_element-is profile a b ∙ (λ i. eq_by_cmp element_cmp (h i) (k i))

-- in place of an element its kept form may be counted
pub same_with-normal : (profile : Profile) (q e : Element) → same_element profile q (normal profile e) ≡ same_element profile q e
same_with-normal profile q e = same_element-is profile q (normal profile e) ∙ ap (λ x. eq_by_cmp element_cmp (normal profile q) x) (normal-normal profile e) ∙ sym (same_element-is profile q e)

-- and counted with
pub same_from-normal : (profile : Profile) (q e : Element) → same_element profile (normal profile q) e ≡ same_element profile q e
same_from-normal profile q e = same_element-is profile (normal profile q) e ∙ ap (λ x. eq_by_cmp element_cmp x (normal profile e)) (normal-normal profile q) ∙ sym (same_element-is profile q e)
