-- What bytes encode, read from the start.
use Rattle.std.specs.Prelude.{◌≡◌, ℕ, ◌+◌, ◌-◌, ◌*◌, ◌^◌, nat_lt, nat_eq, cond, true, ℤ, ◌-ℤ◌, List, [], ◌∷◌, ◌++◌, Option, None, Some}
use Rattle.oas_ring.specs.declared.point.Point.{Point}
use Rattle.oas_elements.specs.declared.element.Element.{Element}
use Rattle.oas_elements.specs.declared.element.Element.TheVariants.{Placement, Text, Rectangle, Polygon, Path, Circle}
use Rattle.oas_elements.specs.Grid.{is_grid_point}
use Rattle.oas_elements.specs.Sound.{IsSound}
use Rattle.oas_keys.specs.declared.points.SpelledPoints.{SpelledPoints}
use Rattle.oas_keys.specs.declared.spelled.SpelledElement.{SpelledElement}
use Rattle.oas_keys.specs.declared.spelled.SpelledElement.TheVariants as spelled
use Rattle.oas_keys.specs.Keys.{points_key, fields_key}
use Rattle.oas_keys.specs.declared.classes.Class.{Class}
use Rattle.oas_keys.specs.Laws.FieldLaws.{AreWithin}

-- the number of more digits, to base 256
abbrev pub joined_digits : ℕ → List ℕ → ℕ
joined_digits n [] = n
joined_digits n (b ∷ bs) = joined_digits (n * 256 + b) bs

-- the least number of these classes that begins with a byte, where their first bytes begin at `base`
abbrev pub least_with : List Class → ℕ → ℕ → ℕ
least_with [] base first = 0
least_with (c ∷ cs) base first = cond (nat_lt first (base + c.firsts)) ((first - base) * 2 ^ (8 * c.more)) (c.size + least_with cs (base + c.firsts) first)

-- how many bytes come after the first
abbrev pub more_with : List Class → ℕ → ℕ → ℕ
more_with [] base first = 8
more_with (c ∷ cs) base first = cond (nat_lt first (base + c.firsts)) c.more (more_with cs (base + c.firsts) first)

-- the place of the first 0
abbrev pub text_len : List ℕ → ℕ
text_len [] = 0
text_len (b ∷ bs) = cond (nat_eq b 0) 0 (1 + text_len bs)

-- a list of points, and the step to the first of them, or none
abbrev pub NextStep : Option (ℤ × ℤ) → Point → List Point → List ℕ → List ℕ → Type 0
NextStep None before ps rest new = (ps ≡ []) × (new ≡ 0 ∷ rest)
NextStep (Some step) before ps rest new = (p : Point) × (qs : List Point) × (ps ≡ p ∷ qs) × (step.0 ≡ p.x -ℤ before.x) × (step.1 ≡ p.y -ℤ before.y) × (new ≡ points_key p qs ++ rest)

-- a list of points whose first is p, or none
abbrev pub NextPoint : Option Point → List Point → List ℕ → List ℕ → Type 0
NextPoint None ps rest new = (ps ≡ []) × (new ≡ 0 ∷ rest)
NextPoint (Some p) ps rest new = (qs : List Point) × (ps ≡ p ∷ qs) × (new ≡ points_key p qs ++ rest)

-- these are the fields of a sound element
pub record HasFields (e : Element) (bytes : List ℕ) : Type 0 where
  pub sound : IsSound e
  pub is : bytes ≡ fields_key e

-- these are the points that are still to be read
pub record HasPoints (s : SpelledPoints) (ps : List Point) : Type 0 where
  pub rest : List ℕ
  pub from : is_grid_point s.before ≡ true
  pub within : AreWithin ps
  pub is : s.left ≡ points_key s.before ps ++ rest

-- the first of these points was read, or there was none
abbrev pub YieldsPoint : Option Point → List Point → SpelledPoints → Type 0
YieldsPoint None ps new = (ps ≡ []) × HasPoints new []
YieldsPoint (Some p) ps new = (qs : List Point) × (ps ≡ p ∷ qs) × (is_grid_point p ≡ true) × HasPoints new qs

-- this element is spelled
abbrev pub Spells : SpelledElement → Element → Type 0
Spells (spelled.Placement cell x y turns flip) e = Placement cell.now x y turns flip ≡ e
Spells (spelled.Text string textlayer texttype x y) e = Text string.now textlayer texttype x y ≡ e
Spells (spelled.Rectangle layer datatype width height x y) e = Rectangle layer datatype width height x y ≡ e
Spells (spelled.Polygon layer datatype points) e = (ps : List Point) × HasPoints points ps × (Polygon layer datatype ps ≡ e)
Spells (spelled.Path layer datatype half_width start end points) e = (ps : List Point) × HasPoints points ps × (Path layer datatype half_width start end ps ≡ e)
Spells (spelled.Circle layer datatype radius x y) e = Circle layer datatype radius x y ≡ e
