-- The order of groups is total, and no two tie.
use Rattle.std.specs.Prelude.{◌≡◌, ℕ, refl}
use Rattle.std.specs.declared.cmp.Ordering.{Ordering}
use Rattle.std.specs.Cmp.{IsTotalOrder}
use Rattle.std.proofs.Common.{ap, subst}
use Rattle.std.proofs.lemmas.Map.Lookups.{CmpEqualImpliesEq, exact_unsigned, exact_pairs}
use Rattle.oas_info.specs.declared.group.Group.{Group}
use Rattle.oas_info.specs.declared.group.Group.TheVariants.{Layer, TextLayer, Placements, Texts, Rectangles, Polygons, Paths, Circles}
use Rattle.oas_info.specs.contracts.group.GroupOrd.TheImpl as order
use Rattle.oas_info.specs.contracts.group.GroupOrd.TheImpl.Laws as laws
use Rattle.oas_info.specs.Groups.{group_cmp}

-- what the derived `cmp` returns
abbrev pub derived_cmp : Group → Group → Ordering
derived_cmp = order.ghosts.cmp

-- the derived order is the stated one
pub order_is_stated : (a b : Group) → derived_cmp a b ≡ group_cmp a b
order_is_stated Placements Placements = refl
order_is_stated Texts Texts = refl
order_is_stated Rectangles Rectangles = refl
order_is_stated Polygons Polygons = refl
order_is_stated Paths Paths = refl
order_is_stated Circles Circles = refl
order_is_stated (Layer layer datatype) (Layer layer' datatype') = refl
order_is_stated (TextLayer textlayer texttype) (TextLayer textlayer' texttype') = refl
order_is_stated a b = refl

-- also as a whole
pub stated_cmp : derived_cmp ≡ group_cmp
stated_cmp i a b = order_is_stated a b i

-- the order is total
pub group_total : IsTotalOrder group_cmp
group_total = subst (λ R. IsTotalOrder R) stated_cmp laws.total-law

-- no two tie
pub exact_groups : CmpEqualImpliesEq group_cmp
exact_groups (Layer layer datatype) (Layer layer' datatype') h =
    ap (λ (p : ℕ × ℕ). Layer p.0 p.1) (exact_pairs _ _ exact_unsigned exact_unsigned (layer, datatype) (layer', datatype') h)
exact_groups (TextLayer textlayer texttype) (TextLayer textlayer' texttype') h =
    ap (λ (p : ℕ × ℕ). TextLayer p.0 p.1) (exact_pairs _ _ exact_unsigned exact_unsigned (textlayer, texttype) (textlayer', texttype') h)
exact_groups Placements Placements h = refl
exact_groups Texts Texts h = refl
exact_groups Rectangles Rectangles h = refl
exact_groups Polygons Polygons h = refl
exact_groups Paths Paths h = refl
exact_groups Circles Circles h = refl
exact_groups a b h = cc
