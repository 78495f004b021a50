-- The points of a key, read one by one.
use Rattle.std.proofs.Common.{◌≡◌, ℕ, ◌+◌, ◌≤◌, true, List, [], ◌++◌, length, refl, sym, ap, ◌∙◌, subst}
use Rattle.std.proofs.lemmas.List.{append-nil}
use Rattle.oas_ring.specs.declared.point.Point.{Point}
use Rattle.oas_ring.specs.Points.{origin}
use Rattle.oas_elements.specs.Grid.{is_grid_point}
use Rattle.oas_keys.specs.declared.points.SpelledPoints.{SpelledPoints}
use Rattle.oas_keys.specs.Keys.{points_key}
use Rattle.oas_keys.specs.Laws.FieldLaws.{AreWithin}
use Rattle.oas_keys.specs.Reading.{HasPoints}

-- from the origin on, all points of a key
pub has_points : (s : SpelledPoints) (ps : List Point) → AreWithin ps → s.left ≡ points_key origin ps → s.before ≡ origin → HasPoints s ps
has_points s ps within is from = record {
  rest = [];
  from = subst (λ (p : Point). is_grid_point p ≡ true) (sym from) refl;
  within = within;
  is = is ∙ sym (append-nil (points_key origin ps)) ∙ ap (λ (p : Point). points_key p ps ++ []) (sym from);
}

-- of the points that were there this many were skipped, and these are left
pub record Left (left : List ℕ) (count : ℕ) (ps : List Point) : Type 0 where
  pub before : Point
  pub qs : List Point
  pub rest : List ℕ
  pub from : is_grid_point before ≡ true
  pub within : AreWithin qs
  pub is : left ≡ points_key before qs ++ rest
  pub sum : count + length qs ≡ length ps

-- the same for whichever points were there
pub record Counting (all left : List ℕ) (count : ℕ) : Type 0 where
  pub each : (before : Point) (ps : List Point) (rest : List ℕ) → is_grid_point before ≡ true → AreWithin ps → all ≡ points_key before ps ++ rest → Left left count ps
  pub few : count + length left ≤ length all
