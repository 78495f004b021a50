-- The steps between the points of a key, as they are read.
use Rattle.std.specs.Prelude.{◌≡◌, ℕ, ℤ, ◌-ℤ◌, true, List, [], ◌∷◌, ◌++◌, Option, None, Some}
use Rattle.oas_ring.specs.declared.point.Point.{Point}
use Rattle.oas_elements.specs.Grid.{is_grid_point}
use Rattle.oas_keys.specs.declared.points.SpelledSteps.{SpelledSteps}
use Rattle.oas_keys.specs.Keys.{points_key}
use Rattle.oas_keys.specs.Laws.FieldLaws.{AreWithin}

-- these are the points to which steps are still to be read, and the point before them
pub record HasSteps (s : SpelledSteps) (before : Point) (ps : List Point) : Type 0 where
  pub rest : List ℕ
  pub from : is_grid_point before ≡ true
  pub within : AreWithin ps
  pub is : s.left ≡ points_key before ps ++ rest

-- the step to the first of these points was read, or there was none
abbrev pub YieldsStep : Option (ℤ × ℤ) → Point → List Point → SpelledSteps → Type 0
YieldsStep None before ps new = ps ≡ []
YieldsStep (Some step) before ps new = (p : Point) × (qs : List Point) × (ps ≡ p ∷ qs) × (step.0 ≡ p.x -ℤ before.x) × (step.1 ≡ p.y -ℤ before.y) × HasSteps new p qs

-- the first of these points was read, and the steps to the others are left, or there was none
abbrev pub BeginsSteps : Option (Point × SpelledSteps) → List Point → Type 0
BeginsSteps None ps = ps ≡ []
BeginsSteps (Some begun) ps = (qs : List Point) × (ps ≡ begun.0 ∷ qs) × HasSteps begun.1 begun.0 qs
