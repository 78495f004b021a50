-- The order of what records draw is total, and no two of them tie.
use Rattle.std.specs.Prelude.{◌≡◌, ℕ, ℤ, Bool, true, false, refl}
use Rattle.std.specs.Ordering.{nat_cmp, int_cmp, bool_cmp}
use Rattle.std.specs.declared.cmp.Ordering.{Ordering}
use Rattle.std.specs.Cmp.{IsTotalOrder}
use Rattle.std.proofs.Common.{ap, subst}
use Rattle.std.proofs.lemmas.Map.Lookups.{CmpEqualImpliesEq, exact_unsigned, exact_signed, exact_pairs}
use Rattle.oas_elements.specs.declared.element.Turns.{Turns}
use Rattle.oas_elements.specs.declared.element.Turns.TheVariants.{T0, T1, T2, T3}
use Rattle.oas_elements.specs.Element.{◌then◌}
use Rattle.oas_elements.specs.Laws.ElementLaws.{order_is_stated, exact_elements, same_turns, turns_cmp}
use Rattle.oas_drawing.specs.declared.drawn.Drawn.{Drawn}
use Rattle.oas_drawing.specs.declared.drawn.Drawn.TheVariants.{Named, PlacementBy, TextBy}
use Rattle.oas_drawing.specs.contracts.drawn.DrawnOrd.TheImpl as order
use Rattle.oas_drawing.specs.contracts.drawn.DrawnOrd.TheImpl.Laws as laws
use Rattle.oas_drawing.specs.Drawn.{drawn_cmp}

-- what the derived `cmp` returns
abbrev pub derived_cmp : Drawn → Drawn → Ordering
derived_cmp = order.ghosts.cmp

-- the derived order is the stated one
pub order_is_stated_of : (a b : Drawn) → derived_cmp a b ≡ drawn_cmp a b
order_is_stated_of (Named e) (Named f) = order_is_stated e f
order_is_stated_of (PlacementBy number x y turns flip) (PlacementBy number' x' y' turns' flip') =
    ap (λ r. nat_cmp number number' then int_cmp x x' then int_cmp y y' then r then bool_cmp flip flip') (same_turns turns turns')
order_is_stated_of (TextBy number textlayer texttype x y) (TextBy number' textlayer' texttype' x' y') = refl
order_is_stated_of a b = refl

-- also as a whole
pub stated_cmp : derived_cmp ≡ drawn_cmp
stated_cmp i a b = order_is_stated_of a b i

-- the order is total
pub drawn_total : IsTotalOrder drawn_cmp
drawn_total = subst (λ R. IsTotalOrder R) stated_cmp laws.total-law

-- quarter turns that tie are equal
turns_exact : CmpEqualImpliesEq turns_cmp
turns_exact T0 T0 h = refl
turns_exact T1 T1 h = refl
turns_exact T2 T2 h = refl
turns_exact T3 T3 h = refl
turns_exact s t h = cc

-- so are truth values
bool_exact : CmpEqualImpliesEq bool_cmp
bool_exact false false h = refl
bool_exact true true h = refl
bool_exact a b h = cc

-- no two tie
pub exact_drawn : CmpEqualImpliesEq drawn_cmp
exact_drawn (Named e) (Named f) h = ap Named (exact_elements e f h)
exact_drawn (PlacementBy number x y turns flip) (PlacementBy number' x' y' turns' flip') h =
    ap (λ (p : ℕ × (ℤ × (ℤ × (Turns × Bool)))). PlacementBy p.0 p.1.0 p.1.1.0 p.1.1.1.0 p.1.1.1.1)
    (exact_pairs _ _ exact_unsigned (exact_pairs _ _ exact_signed (exact_pairs _ _ exact_signed (exact_pairs _ _ turns_exact bool_exact)))
    (number, (x, (y, (turns, flip)))) (number', (x', (y', (turns', flip')))) h)
exact_drawn (TextBy number textlayer texttype x y) (TextBy number' textlayer' texttype' x' y') h =
    ap (λ (p : ℕ × (ℕ × (ℕ × (ℤ × ℤ)))). TextBy p.0 p.1.0 p.1.1.0 p.1.1.1.0 p.1.1.1.1)
    (exact_pairs _ _ exact_unsigned (exact_pairs _ _ exact_unsigned (exact_pairs _ _ exact_unsigned (exact_pairs _ _ exact_signed exact_signed)))
    (number, (textlayer, (texttype, (x, y)))) (number', (textlayer', (texttype', (x', y')))) h)
exact_drawn a b h = cc
