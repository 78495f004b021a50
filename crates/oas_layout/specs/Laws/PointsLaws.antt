-- What is left of a key has one list of points at most.
use Rattle.std.specs.Prelude.{◌≡◌, ℕ, List, [], ◌∷◌, ◌++◌, true}
use Rattle.std.specs.Coded.{Coded-set, coded_ℕ, coded_bool, coded_list, ×_prop, Unit-prop}
use mathlib.Core.HLevel.{is_prop→PathP}
use Rattle.std.proofs.Common.{refl, sym, ap, ◌∙◌}
use Rattle.std.specs.Ordering.{nat_cmp, ordering_then}
use Rattle.std.specs.declared.cmp.Ordering.{Ordering}
use Rattle.std.specs.declared.cmp.Ordering.TheVariants.{Less, Equal, Greater}
use Rattle.std.specs.Cmp.Lexicographic.{slice_cmp}
use Rattle.std.proofs.lemmas.Cmp.{tied_itself, nat_list_cmp_total}
use Rattle.std.proofs.lemmas.Map.Lookups.{exact_bytes}
use Rattle.oas_ring.specs.declared.point.Point.{Point}
use Rattle.oas_ring.specs.Points.{list_cmp}
use Rattle.oas_ring.specs.Laws.PointsLaws.{exact_lists}
use Rattle.oas_elements.specs.Grid.{is_grid_point}
use Rattle.oas_cells.specs.SpelledPoints.{SpelledPoints}
use Rattle.oas_cells.specs.Keys.{points_key}
use Rattle.oas_cells.specs.FieldLaws.{AreWithin, points_order}
use Rattle.oas_cells.specs.Reading.{HasPoints}
use Rattle.oas_layout.specs.Held.{HeldPoints, points_held}

within_prop : (ps : List Point) → IsProp (AreWithin ps)
within_prop [] = Unit-prop
within_prop (p ∷ ps) = ×_prop (Coded-set coded_bool _ _) (within_prop ps)

both_equal : (r o : Ordering) → ordering_then r o ≡ Equal → (r ≡ Equal) × (o ≡ Equal)
both_equal Less o h = (h, cc)
both_equal Equal o h = (refl, h)
both_equal Greater o h = (h, cc)

-- equal bytes are of equal points, and the same stands behind them
pub one_points : (q : Point) (ps rs : List Point) (us vs : List ℕ) → is_grid_point q ≡ true → AreWithin ps → AreWithin rs
    → points_key q ps ++ us ≡ points_key q rs ++ vs → (ps ≡ rs) × (us ≡ vs)
one_points q ps rs us vs from p r same =
    let tie : slice_cmp nat_cmp (points_key q ps ++ us) (points_key q rs ++ vs) ≡ Equal = ap (λ (b : List ℕ). slice_cmp nat_cmp (points_key q ps ++ us) b) (sym same) ∙ tied_itself nat_list_cmp_total (points_key q ps ++ us) in
    let parts = both_equal (list_cmp ps rs) (slice_cmp nat_cmp us vs) (sym (points_order q ps rs from p r us vs) ∙ tie) in
    (exact_lists ps rs parts.0, exact_bytes us vs parts.1)

pub points_prop : (s : SpelledPoints) → IsProp (HeldPoints s)
points_prop s a b = λ i. (
  both.0 i,
  record {
    rest = both.1 i;
    from = Coded-set coded_bool _ _ a.1.from b.1.from i;
    within = is_prop→PathP (λ j. AreWithin (both.0 j)) (λ j. within_prop (both.0 j)) a.1.within b.1.within i;
    is = is_prop→PathP (λ j. s.left ≡ points_key s.before (both.0 j) ++ both.1 j) (λ j. Coded-set (coded_list coded_ℕ) _ _) a.1.is b.1.is i;
  },
)
  where
    both : (a.0 ≡ b.0) × (a.1.rest ≡ b.1.rest)
    both = one_points s.before a.0 b.0 a.1.rest b.1.rest a.1.from a.1.within b.1.within (sym a.1.is ∙ b.1.is)

-- it is the one that is known
pub points_is : {s : SpelledPoints} (h : HeldPoints s) (ps : List Point) → HasPoints s ps → points_held h ≡ ps
unfolding points_held
points_is {s} h ps g = (one_points s.before h.0 ps h.1.rest g.rest h.1.from h.1.within g.within (sym h.1.is ∙ g.is)).0

-- and it is there
pub has_them : {s : SpelledPoints} (h : HeldPoints s) → HasPoints s (points_held h)
unfolding points_held
has_them h = h.1
