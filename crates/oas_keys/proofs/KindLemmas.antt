-- What the fields of a kind are, one after another.
use Rattle.std.proofs.lemmas.Int.{ints}
use Rattle.std.proofs.Common.{w64, to_z, of_z, ◌≡◌, ℕ, ℤ, Bool, true, List, [], ◌∷◌, ◌++◌, sym, ap, ◌∙◌, arith}
use Rattle.std.specs.Prelude.{◌&&◌}
use Rattle.std.specs.List.{list_all}
use Rattle.std.proofs.lemmas.List.{append-nil}
use Rattle.oas_ring.specs.declared.point.Point.{Point}
use Rattle.oas_elements.specs.declared.element.Turns.{Turns}
use Rattle.oas_elements.specs.declared.element.Element.{Element}
use Rattle.oas_elements.specs.declared.element.Element.TheVariants.{Placement, Text, Rectangle, Polygon, Path, Circle}
use Rattle.oas_elements.specs.Grid.{is_coordinate, is_grid_point, reaches}
use Rattle.oas_elements.specs.Sound.{IsSound}
use Rattle.oas_keys.specs.Numbers.{IsStep}
use Rattle.oas_keys.specs.Keys.{key_of, fields_key}
use Rattle.oas_keys.specs.Reading.{HasFields}
use Rattle.oas_keys.specs.Laws.KeyLaws.{both, all_within}
use Rattle.oas_keys.specs.Laws.FieldLaws.{AreWithin, coordinate_fits}

-- both places of two coordinates
pub record AreSteps (x y : ℤ) : Type 0 where
  pub across : IsStep x
  pub up : IsStep y

steps : (x y : ℤ) → (is_coordinate x && is_coordinate y) ≡ true → AreSteps x y
steps x y h = let b = both (is_coordinate x) (is_coordinate y) h in record { across = coordinate_fits x b.0; up = coordinate_fits y b.1 }

-- nothing follows the second
pub ends : (a b : List ℕ) → a ++ b ≡ a ++ (b ++ [])
ends a b = ap (λ (t : List ℕ). a ++ t) (sym (append-nil b))

pub placement_steps : (cell : List ℕ) (x y : ℤ) (turns : Turns) (flip : Bool) → IsSound (Placement cell x y turns flip) → AreSteps x y
placement_steps cell x y turns flip h = steps x y h.inside

pub text_steps : (string : List ℕ) (textlayer texttype : ℕ) (x y : ℤ) → IsSound (Text string textlayer texttype x y) → AreSteps x y
text_steps string textlayer texttype x y h = steps x y h.inside

pub rectangle_steps : (layer datatype width height : ℕ) (x y : ℤ) → IsSound (Rectangle layer datatype width height x y) → AreSteps x y
rectangle_steps layer datatype width height x y h =
    let a = both (reaches x width) (reaches y height) h.inside in
    record { across = coordinate_fits x (both (is_coordinate x) _ a.0).0; up = coordinate_fits y (both (is_coordinate y) _ a.1).0 }

pub circle_steps : (layer datatype radius : ℕ) (x y : ℤ) → IsSound (Circle layer datatype radius x y) → AreSteps x y
circle_steps layer datatype radius x y h = let a = both _ (is_coordinate x && is_coordinate y) h.inside in steps x y a.1

-- the ends of a path and its points
pub record IsPath (start end : ℤ) (points : List Point) : Type 0 where
  pub first : IsStep start
  pub last : IsStep end
  pub within : AreWithin points

pub path_steps : (layer datatype half_width : ℕ) (start end : ℤ) (points : List Point) → IsSound (Path layer datatype half_width start end points) → IsPath start end points
path_steps layer datatype half_width start end points h =
    let a = both _ (is_coordinate start && (is_coordinate end && list_all is_grid_point points)) h.inside in
    let b = both (is_coordinate start) _ a.1 in
    let c = both (is_coordinate end) (list_all is_grid_point points) b.1 in
    record { first = coordinate_fits start b.0; last = coordinate_fits end c.0; within = all_within points c.1 }

pub polygon_within : (layer datatype : ℕ) (points : List Point) → IsSound (Polygon layer datatype points) → AreWithin points
polygon_within layer datatype points h = all_within points h.inside

-- a step as it is passed on
pub step_is : (r x : ℤ) → IsStep x → r ≡ x → to_z w64 (of_z w64 r) ≡ x
step_is r x step e =
    let low = step.above in
    let high = step.below in
    omega (arith, ints)

-- the first bytes of equal lists
first_is : (n : ℕ) (a b : List ℕ) → 3 ∷ a ≡ n ∷ b → 3 ≡ n
first_is n a b e = cc

-- a key that begins with 3 is a rectangle's
pub rectangle_of : (e : Element) (key left : List ℕ) → IsSound e → key ≡ key_of e → key ≡ 3 ∷ left
    → (layer : ℕ) × (datatype : ℕ) × (width : ℕ) × (height : ℕ) × (x : ℤ) × (y : ℤ) × HasFields (Rectangle layer datatype width height x y) left
rectangle_of (Rectangle layer datatype width height x y) key left sound is was =
    let both : 3 ∷ left ≡ key_of (Rectangle layer datatype width height x y) = sym was ∙ is in
    let same : left ≡ fields_key (Rectangle layer datatype width height x y) = cc in
    (layer, datatype, width, height, x, y, record { sound = sound; is = same })
rectangle_of (Placement cell x y turns flip) key left sound is was = absurd (omega (arith, first_is 1 left _ (sym was ∙ is)))
rectangle_of (Text string textlayer texttype x y) key left sound is was = absurd (omega (arith, first_is 2 left _ (sym was ∙ is)))
rectangle_of (Polygon layer datatype points) key left sound is was = absurd (omega (arith, first_is 4 left _ (sym was ∙ is)))
rectangle_of (Path layer datatype half_width start end points) key left sound is was = absurd (omega (arith, first_is 5 left _ (sym was ∙ is)))
rectangle_of (Circle layer datatype radius x y) key left sound is was = absurd (omega (arith, first_is 6 left _ (sym was ∙ is)))
