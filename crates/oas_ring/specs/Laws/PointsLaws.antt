-- The orders on points and on lists of points are total, and points or lists that compare as equal are equal.
use Rattle.std.proofs.Common.{◌≡◌, ◌≢◌, ◌↔◌, ℤ, Bool, false, IsTrue, List, [], ◌∷◌, Ordering, refl, sym, ap, ◌∙◌}
use Rattle.std.specs.Ordering.{int_cmp, ordering_then, ordering_reverse, is_eq, is_gt, eq_by_cmp}
use Rattle.std.specs.declared.cmp.Ordering.TheVariants.{Less, Equal, Greater}
use Rattle.std.specs.Cmp.{IsTotalOrder, int_cmp_total, on_total, then_total}
use Rattle.std.specs.Cmp.Lexicographic.{lists_total}
use Rattle.std.proofs.lemmas.Map.Lookups.{CmpEqualImpliesEq, exact_pairs, exact_signed}
use Rattle.std.proofs.lemmas.Cmp.{tied_itself, upto}
use Rattle.std.proofs.lemmas.Map.Views.{tells_apart}
use Rattle.oas_ring.specs.declared.point.Point.{Point}
use Rattle.oas_ring.specs.Points.{point_cmp, list_cmp}

-- points are totally ordered
pub points_total : IsTotalOrder point_cmp
points_total = then_total (on_total (λ p. p.x) int_cmp_total) (on_total (λ p. p.y) int_cmp_total)

-- and so are lists of points
pub point_lists_total : IsTotalOrder list_cmp
point_lists_total = lists_total points_total

-- points that compare as equal are one point
pub exact_points : CmpEqualImpliesEq point_cmp
exact_points a b h =
    ap (λ (p : ℤ × ℤ). record { x = p.0; y = p.1 })
    (exact_pairs int_cmp int_cmp exact_signed exact_signed (a.x, a.y) (b.x, b.y) h)

-- where a comparison by two keys returns Equal, both keys do
both_equal : (r o : Ordering) → ordering_then r o ≡ Equal → (r ≡ Equal) × (o ≡ Equal)
both_equal Less o h = (h, cc)
both_equal Equal o h = (refl, h)
both_equal Greater o h = (h, cc)

-- lists that compare as equal are one list
pub exact_lists : CmpEqualImpliesEq list_cmp
exact_lists [] [] h = refl
exact_lists [] (y ∷ ys) h = cc
exact_lists (x ∷ xs) [] h = cc
exact_lists (x ∷ xs) (y ∷ ys) h =
    let both = both_equal (point_cmp x y) (list_cmp xs ys) h in
    let first = exact_points x y both.0 in
    let rest = exact_lists xs ys both.1 in cc

-- what `==` of two `Points` says
pub equal_points : (a b : List Point) (r : Bool) → r ≡ eq_by_cmp list_cmp a b → IsTrue r ↔ (a ≡ b)
equal_points a b r answer = (
  λ t. tells_apart exact_lists a b (sym answer ∙ t),
  λ e. answer ∙ ap (λ x. is_eq (list_cmp a x)) (sym e) ∙ ap is_eq (tied_itself point_lists_total a),
)

-- the test of two lists holds exactly for equal ones
pub equal_lists : (a b : List Point) → IsTrue (eq_by_cmp list_cmp a b) ↔ (a ≡ b)
equal_lists a b = equal_points a b (eq_by_cmp list_cmp a b) refl

-- neither list is below the other: they are one list
pub equal_if_neither_below : (a b : List Point) → list_cmp a b ≢ Less → list_cmp b a ≢ Less → a ≡ b
equal_if_neither_below a b p q =
    exact_lists a b (neither (list_cmp a b) (list_cmp b a) (point_lists_total.antisymm a b) p q)
  where
    neither : (o r : Ordering) → o ≡ ordering_reverse r → o ≢ Less → r ≢ Less → o ≡ Equal
    neither Less r e p q = absurd (p refl)
    neither Equal r e p q = refl
    neither Greater Less e p q = absurd (q refl)
    neither Greater Equal e p q = cc
    neither Greater Greater e p q = cc

-- not being below, by the other comparison
not_greater : (o r : Ordering) → o ≡ ordering_reverse r → o ≢ Less → is_gt r ≡ false
not_greater o Less e p = refl
not_greater o Equal e p = refl
not_greater o Greater e p = absurd (p e)

-- and back
not_less : (o r : Ordering) → o ≡ ordering_reverse r → is_gt r ≡ false → o ≢ Less
not_less o Less e p h = cc
not_less o Equal e p h = cc
not_less o Greater e p h = cc

-- no list is below itself
pub not_below_itself : (a : List Point) → list_cmp a a ≢ Less
not_below_itself a h = let e = tied_itself point_lists_total a in cc

-- at most one of two lists is below the other
pub below_one_way : (a b : List Point) → list_cmp a b ≡ Less → list_cmp b a ≢ Less
below_one_way a b h g =
    let e = point_lists_total.antisymm a b in
    let f : list_cmp a b ≡ ordering_reverse Less = e ∙ ap ordering_reverse g in cc

-- not being below is transitive
pub not_below_twice : (a b c : List Point) → list_cmp a b ≢ Less → list_cmp b c ≢ Less → list_cmp a c ≢ Less
not_below_twice a b c g h =
    let ab = not_greater (list_cmp a b) (list_cmp b a) (point_lists_total.antisymm a b) g in
    let bc = not_greater (list_cmp b c) (list_cmp c b) (point_lists_total.antisymm b c) h in
    not_less (list_cmp a c) (list_cmp c a) (point_lists_total.antisymm a c) (upto point_lists_total c b a bc ab)

-- where a comparison of two lists doesn't return that the first is greater, the second is not below the first
pub not_below_from_not_above : (a b : List Point) (o : Ordering) → o ≡ list_cmp a b → o ≢ Greater → list_cmp b a ≢ Less
not_below_from_not_above a b o e h l = h (e ∙ point_lists_total.antisymm a b ∙ ap ordering_reverse l)

-- where it does, the first is not below
pub not_below_from_above : (a b : List Point) (o : Ordering) → o ≡ list_cmp a b → o ≡ Greater → list_cmp a b ≢ Less
not_below_from_above a b o e h l = let x : Greater ≡ Less = sym h ∙ e ∙ l in cc
