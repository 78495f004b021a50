-- The kept form of an element has its points and is within the grid, where the element is.
use Rattle.std.proofs.Common.{◌≡◌, ℕ, Bool, true, false, ◌&&◌, List, [], ◌∷◌, length, Option, None, Some, refl, sym, ◌∙◌, ap, inl, inr}
use Rattle.std.specs.Prelude.{reverse, nat_lt}
use Rattle.std.specs.List.{list_all}
use Rattle.std.proofs.lemmas.List.{reverse-append}
use Rattle.std.proofs.lemmas.List.Folds.{list_all-append}
use Rattle.oas_ring.specs.declared.point.Point.{Point}
use Rattle.oas_ring.specs.declared.rectangles.Corners.{Corners}
use Rattle.oas_ring.specs.Rings.{SameRing, IsRotation}
use Rattle.oas_ring.specs.Laws.RingsLaws.{parts_of_rotation}
use Rattle.oas_ring.specs.Readings.{least_of}
use Rattle.oas_ring.specs.Laws.ReadingsLaws.{least_of-IsLeastReadingOf, length-least_of}
use Rattle.oas_ring.specs.Rectangles.{IsBox, corners_of}
use Rattle.oas_ring.specs.Laws.RectanglesLaws.{box_of-box}
use Rattle.oas_elements.specs.declared.profile.Profile.{Profile}
use Rattle.oas_elements.specs.declared.profile.Profile.TheVariants.{One, Two}
use Rattle.oas_elements.specs.declared.element.Element.{Element}
use Rattle.oas_elements.specs.declared.element.Element.TheVariants.{Polygon}
use Rattle.oas_elements.specs.Weight.{lacks_points}
use Rattle.oas_elements.specs.Grid.{is_coordinate, is_grid_point, fits_grid}
use Rattle.oas_elements.specs.Same.{drawn_box, rectangle_of, normal_polygon, normal}
use Rattle.oas_elements.specs.Laws.SameLaws.{corners_back}

-- tests may change places
and_turned : (a b : Bool) → (a && b) ≡ (b && a)
and_turned true true = refl
and_turned true false = refl
and_turned false true = refl
and_turned false false = refl

-- each of several tests that hold
record Both (a b : Bool) : Type 0 where
  left : a ≡ true
  right : b ≡ true

both : (a b : Bool) → (a && b) ≡ true → Both a b
both true b h = record { left = refl; right = h }
both false b h = cc

module _ (test : Point → Bool) where
  -- what holds for each point does so in each rotation
  all-rotation : (p q : List Point) → IsRotation p q → list_all test q ≡ list_all test p
  all-rotation p q h =
      let t = parts_of_rotation p q h in
      ap (list_all test) t.turned ∙ list_all-append test t.back t.front ∙ and_turned (list_all test t.back) (list_all test t.front) ∙ sym (list_all-append test t.front t.back)
      ∙ ap (list_all test) (sym t.whole)

  -- and in the other order
  all-reverse : (p : List Point) → list_all test (reverse p) ≡ list_all test p
  all-reverse [] = refl
  all-reverse (x ∷ xs) = ap (list_all test) (reverse-append (x ∷ []) xs) ∙ list_all-append test (reverse xs) (x ∷ []) ∙ and_turned (list_all test (reverse xs)) (test x && true)
      ∙ ap (λ b. (test x && true) && b) (all-reverse xs) ∙ one (test x) (list_all test xs) where
        one : (a b : Bool) → ((a && true) && b) ≡ (a && b)
        one true b = refl
        one false b = refl

  -- so in each ring that is the same
  pub all-same_ring : (p q : List Point) → SameRing p q → list_all test q ≡ list_all test p
  all-same_ring p q (inl h) = all-rotation p q h
  all-same_ring p q (inr h) = all-rotation (reverse p) q h ∙ all-reverse p

-- a kept polygon has its points
kept_points : (layer datatype : ℕ) (points : List Point) (o : Option Corners) → nat_lt (length points) 3 ≡ false → lacks_points (normal_polygon layer datatype (least_of points) o) ≡ false
kept_points layer datatype points None h = ap (λ n. nat_lt n 3) (length-least_of points) ∙ h
kept_points layer datatype points (Some c) h = refl

-- the kept form has its points
pub lacks_points-normal : (profile : Profile) (e : Element) → lacks_points e ≡ false → lacks_points (normal profile e) ≡ false
lacks_points-normal profile (Polygon layer datatype points) h = kept_points layer datatype points (drawn_box profile points) h
lacks_points-normal profile e h = h

-- the rectangle that a ring goes round reaches no further than the ring
box_inside : (layer datatype : ℕ) (points : List Point) (c : Corners) → IsBox points c → list_all is_grid_point points ≡ true → fits_grid (rectangle_of layer datatype c) ≡ true
box_inside layer datatype points c b h =
    let round : list_all is_grid_point (corners_of c) ≡ true = all-same_ring is_grid_point points (corners_of c) b.round ∙ h in
    let first = both (is_grid_point c.low) _ round in
    let second = both (is_grid_point (record { x = c.low.x; y = c.high.y })) _ first.right in
    let third = both (is_grid_point c.high) _ second.right in
    let low = both (is_coordinate c.low.x) (is_coordinate c.low.y) first.left in
    let high = both (is_coordinate c.high.x) (is_coordinate c.high.y) third.left in
    let back = corners_back c b.wide b.tall in
    let x = ap (λ (d : Corners). is_coordinate d.high.x) back ∙ high.left in
    let y = ap (λ (d : Corners). is_coordinate d.high.y) back ∙ high.right in
    λ i. (low.left i && x i) && (low.right i && y i)

-- a kept polygon is within the grid
kept_inside : (profile : Profile) (layer datatype : ℕ) (points : List Point) (o : Option Corners) → drawn_box profile points ≡ o → list_all is_grid_point points ≡ true →
    fits_grid (normal_polygon layer datatype (least_of points) o) ≡ true
kept_inside profile layer datatype points None e h = all-same_ring is_grid_point points (least_of points) (least_of-IsLeastReadingOf points).same ∙ h
kept_inside One layer datatype points (Some c) e h = let no : ⊥ = cc in absurd no
kept_inside Two layer datatype points (Some c) e h = box_inside layer datatype points c (box_of-box points c e) h

-- the kept form is within the grid
pub fits_grid-normal : (profile : Profile) (e : Element) → fits_grid e ≡ true → fits_grid (normal profile e) ≡ true
fits_grid-normal profile (Polygon layer datatype points) h = kept_inside profile layer datatype points (drawn_box profile points) refl h
fits_grid-normal profile e h = h
