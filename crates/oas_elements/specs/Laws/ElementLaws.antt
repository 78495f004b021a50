-- The order of elements is total, and no two elements tie.
use Rattle.std.specs.Prelude.{◌≡◌, ℕ, ℤ, List, Bool, true, false, refl}
use Rattle.std.specs.Ordering.{nat_cmp, int_cmp, bool_cmp, is_eq}
use Rattle.std.specs.Cmp.Lexicographic.{slice_cmp}
use Rattle.oas_ring.specs.Laws.PointsLaws.{exact_lists}
use Rattle.std.proofs.lemmas.Map.Lookups.{CmpEqualImpliesEq, exact_unsigned, exact_signed, exact_bytes, exact_pairs}
use Rattle.oas_ring.specs.declared.point.Point.{Point}
use Rattle.oas_elements.specs.declared.element.Turns.{Turns}
use Rattle.oas_elements.specs.declared.element.Turns.TheVariants.{T0, T1, T2, T3}
use Rattle.oas_elements.specs.contracts.element.TurnsOrd.TheImpl as turns_order
use Rattle.std.proofs.Common.{sym, ◌∙◌, ap, subst}
use Rattle.std.specs.declared.cmp.Ordering.{Ordering}
use Rattle.std.specs.Bool.{Decides}
use Rattle.std.specs.Cmp.{IsTotalOrder, Equal-is, tied_itself}
use Rattle.oas_elements.specs.contracts.element.ElementPartialEq.TheImpl as equality
use Rattle.oas_elements.specs.declared.element.Element.{Element}
use Rattle.oas_elements.specs.declared.element.Element.TheVariants.{Placement, Text, Rectangle, Polygon, Path, Circle}
use Rattle.oas_elements.specs.Element.{element_cmp, turn_count, ◌then◌}
use Rattle.oas_elements.specs.contracts.element.ElementOrd.TheImpl as order
use Rattle.oas_elements.specs.contracts.element.ElementOrd.TheImpl.Laws as laws

-- what the derived `cmp` returns
abbrev pub derived_cmp : Element → Element → Ordering
derived_cmp = order.ghosts.cmp

-- which is total
pub derived_total : IsTotalOrder derived_cmp
derived_total = laws.total-law

-- the order of quarter turns
abbrev pub turns_cmp : Turns → Turns → Ordering
turns_cmp s t = nat_cmp (turn_count s) (turn_count t)

-- what the derived `cmp` of quarter turns returns
abbrev pub derived_turns_cmp : Turns → Turns → Ordering
derived_turns_cmp = turns_order.ghosts.cmp

-- the derived order of quarter turns is that of their numbers
pub same_turns : (s t : Turns) → derived_turns_cmp s t ≡ turns_cmp s t
same_turns T0 T0 = refl
same_turns T1 T1 = refl
same_turns T2 T2 = refl
same_turns T3 T3 = refl
same_turns s t = refl

-- the derived order is the stated one
pub order_is_stated : (a b : Element) → derived_cmp a b ≡ element_cmp a b
order_is_stated (Placement cell x y turns flip) (Placement cell' x' y' turns' flip') =
    ap (λ r. slice_cmp nat_cmp cell cell' then int_cmp x x' then int_cmp y y' then r then bool_cmp flip flip') (same_turns turns turns')
order_is_stated (Text string textlayer texttype x y) (Text string' textlayer' texttype' x' y') = refl
order_is_stated (Rectangle layer datatype width height x y) (Rectangle layer' datatype' width' height' x' y') = refl
order_is_stated (Polygon layer datatype points) (Polygon layer' datatype' points') = refl
order_is_stated (Path layer datatype half_width start end points) (Path layer' datatype' half_width' start' end' points') = refl
order_is_stated (Circle layer datatype radius x y) (Circle layer' datatype' radius' x' y') = refl
order_is_stated a b = refl

-- quarter turns that tie are equal
turns_exact : CmpEqualImpliesEq turns_cmp
turns_exact T0 T0 h = refl
turns_exact T1 T1 h = refl
turns_exact T2 T2 h = refl
turns_exact T3 T3 h = refl
turns_exact s t h = cc

-- so are truth values
bool_exact : CmpEqualImpliesEq bool_cmp
bool_exact false false h = refl
bool_exact true true h = refl
bool_exact a b h = cc

-- elements that tie are equal
pub exact_elements : CmpEqualImpliesEq element_cmp
exact_elements (Placement cell x y turns flip) (Placement cell' x' y' turns' flip') h =
    ap (λ (p : List ℕ × (ℤ × (ℤ × (Turns × Bool)))). Placement p.0 p.1.0 p.1.1.0 p.1.1.1.0 p.1.1.1.1)
    (exact_pairs _ _ exact_bytes (exact_pairs _ _ exact_signed (exact_pairs _ _ exact_signed (exact_pairs _ _ turns_exact bool_exact))) (cell, (x, (y, (turns, flip))))
    (cell', (x', (y', (turns', flip')))) h)
exact_elements (Text string textlayer texttype x y) (Text string' textlayer' texttype' x' y') h =
    ap (λ (p : List ℕ × (ℕ × (ℕ × (ℤ × ℤ)))). Text p.0 p.1.0 p.1.1.0 p.1.1.1.0 p.1.1.1.1)
    (exact_pairs _ _ exact_bytes (exact_pairs _ _ exact_unsigned (exact_pairs _ _ exact_unsigned (exact_pairs _ _ exact_signed exact_signed))) (string, (textlayer, (texttype, (x, y))))
    (string', (textlayer', (texttype', (x', y')))) h)
exact_elements (Rectangle layer datatype width height x y) (Rectangle layer' datatype' width' height' x' y') h =
    ap (λ (p : ℕ × (ℕ × (ℕ × (ℕ × (ℤ × ℤ))))). Rectangle p.0 p.1.0 p.1.1.0 p.1.1.1.0 p.1.1.1.1.0 p.1.1.1.1.1)
    (exact_pairs _ _ exact_unsigned (exact_pairs _ _ exact_unsigned (exact_pairs _ _ exact_unsigned (exact_pairs _ _ exact_unsigned (exact_pairs _ _ exact_signed exact_signed))))
    (layer, (datatype, (width, (height, (x, y))))) (layer', (datatype', (width', (height', (x', y'))))) h)
exact_elements (Polygon layer datatype points) (Polygon layer' datatype' points') h =
    ap (λ (p : ℕ × (ℕ × List Point)). Polygon p.0 p.1.0 p.1.1)
    (exact_pairs _ _ exact_unsigned (exact_pairs _ _ exact_unsigned exact_lists) (layer, (datatype, points)) (layer', (datatype', points')) h)
exact_elements (Path layer datatype half_width start end points) (Path layer' datatype' half_width' start' end' points') h =
    ap (λ (p : ℕ × (ℕ × (ℕ × (ℤ × (ℤ × List Point))))). Path p.0 p.1.0 p.1.1.0 p.1.1.1.0 p.1.1.1.1.0 p.1.1.1.1.1)
    (exact_pairs _ _ exact_unsigned (exact_pairs _ _ exact_unsigned (exact_pairs _ _ exact_unsigned (exact_pairs _ _ exact_signed (exact_pairs _ _ exact_signed exact_lists))))
    (layer, (datatype, (half_width, (start, (end, points))))) (layer', (datatype', (half_width', (start', (end', points'))))) h)
exact_elements (Circle layer datatype radius x y) (Circle layer' datatype' radius' x' y') h =
    ap (λ (p : ℕ × (ℕ × (ℕ × (ℤ × ℤ)))). Circle p.0 p.1.0 p.1.1.0 p.1.1.1.0 p.1.1.1.1)
    (exact_pairs _ _ exact_unsigned (exact_pairs _ _ exact_unsigned (exact_pairs _ _ exact_unsigned (exact_pairs _ _ exact_signed exact_signed))) (layer, (datatype, (radius, (x, y))))
    (layer', (datatype', (radius', (x', y')))) h)
exact_elements a b h = cc

-- the stated order is the derived one
pub stated_cmp : derived_cmp ≡ element_cmp
stated_cmp i a b = order_is_stated a b i

-- the order of elements is total
pub element_total : IsTotalOrder element_cmp
element_total = subst (λ R. IsTotalOrder R) stated_cmp derived_total

-- elements that tie in the derived order are equal
pub exact_derived : CmpEqualImpliesEq derived_cmp
exact_derived a b h = exact_elements a b (sym (order_is_stated a b) ∙ h)

-- what the derived `==` returns
abbrev pub derived_eq : Element → Element → Bool
derived_eq = equality.ghosts.eq

-- which is true exactly for equal elements
pub derived_eq-Decides : (a b : Element) → Decides (derived_eq a b) (a ≡ b)
derived_eq-Decides a b =
    let tie : derived_eq a b ≡ is_eq (derived_cmp a b) = laws.matches_eq-law a b in
    (λ e. exact_derived a b ((Equal-is (derived_cmp a b)).0 (sym tie ∙ e)), λ e. tie ∙ (Equal-is (derived_cmp a b)).1 (ap (λ x. derived_cmp a x) (sym e) ∙ tied_itself derived_total a))
