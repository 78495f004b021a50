-- Cells, put in order, are a layout, which is the same as their meaning.
use Rattle.std.proofs.Common.{◌≡◌, ℕ, ◌≤◌, false, List, [], ◌∷◌, refl, sym, ap, ◌∙◌, subst, arith}
use Rattle.std.specs.List.{AllByRecursion}
use Rattle.std.specs.List.Sorted.{IsStrictlySortedBy}
use Rattle.std.specs.Map.{keys_of}
use Rattle.std.specs.Ordering.{nat_cmp}
use Rattle.std.specs.Cmp.Lexicographic.{slice_cmp}
use Rattle.std.specs.FinMap.Entries.{put}
use Rattle.oas_num.specs.Texts.{IsName}
use Rattle.oas_elements.specs.declared.limits.Limits.{Limits}
use Rattle.oas_elements.specs.declared.profile.Profile.{Profile}
use Rattle.oas_elements.specs.declared.element.Element.{Element}
use Rattle.oas_elements.specs.Bag.{items, with_more, IsBag}
use Rattle.oas_elements.specs.Contents.{Cell, Contents, expanded, names, meaning_of, AllSound, IsCell, IsLayout}
use Rattle.oas_elements.specs.Meaning.{Meaning, SameLayout, element_count, cells_weight}
use Rattle.oas_elements.specs.Same.{normal}
use Rattle.oas_elements.specs.Sound.{IsUnit}
use Rattle.oas_form.specs.Meaning.{has_twice}
use Rattle.oas_form.specs.Records.{Cells}
use Rattle.oas_form.proofs.OrderedLayouts.{keys-expanded}
use Rattle.oas_form.proofs.Sizes.{tally, tally_is_bag, ordered, is_ordered, in_order_same, ordered_count, ordered_weight}
use Rattle.oas_layout.specs.Held.{contents_of}
use Rattle.oas_layout.specs.Counting.{counted, counted_cells, AreSound}
use Rattle.oas_layout.specs.LayoutOf.{IsLayoutOf}
use Rattle.oas_layout.proofs.KeyedLemmas.{counted_sound}
use Rattle.oas_layout.proofs.PlaceLemmas.{expanded-insert, elements-insert}

module _ (profile : Profile) where
  counted_is : (xs : List Element) → counted profile xs ≡ tally profile xs
  counted_is [] = refl
  counted_is (x ∷ xs) = ap (λ (es : List (Element × ℕ)). with_more es (normal profile x) 1) (counted_is xs)

  -- with each element as often as it is there they are those of oas_form
  pub expanded_is : (cs : Cells) → expanded (counted_cells profile cs) ≡ ordered profile cs
  expanded_is [] = refl
  expanded_is (c ∷ cs) =
      expanded-insert (counted_cells profile cs) c.0 (counted profile c.1)
      ∙ (λ i. put (slice_cmp nat_cmp) c.0 (items (counted_is c.1 i)) (expanded_is cs i))

  are_bags : (cs : Cells) → AllByRecursion (λ c. IsBag profile c.1) (counted_cells profile cs)
  are_bags [] = tt
  are_bags (c ∷ cs) = elements-insert (IsBag profile) (counted_cells profile cs) c.0 (counted profile c.1) (subst (IsBag profile) (sym (counted_is c.1)) (tally_is_bag profile c.1)) (are_bags cs)

  pub are_sound : (cs : Cells) → AreSound cs → AllByRecursion (λ c. AllSound c.1) (counted_cells profile cs)
  are_sound [] h = tt
  are_sound (c ∷ cs) h = elements-insert AllSound (counted_cells profile cs) c.0 (counted profile c.1) (counted_sound profile c.1 h.0) (are_sound cs h.1)

  are_cells : (cs : List Cell) → AllByRecursion (λ c. IsName c.0) cs → AllByRecursion (λ c. IsBag profile c.1) cs → AllByRecursion (λ c. AllSound c.1) cs → AllByRecursion (IsCell profile) cs
  are_cells [] n b s = tt
  are_cells (c ∷ cs) n b s = (record { name = n.0; bag = b.0; sound = s.0 }, are_cells cs n.1 b.1 s.1)

  pub names_ascend : (cs : Cells) → IsStrictlySortedBy (slice_cmp nat_cmp) (names (counted_cells profile cs))
  names_ascend cs =
      subst (IsStrictlySortedBy (slice_cmp nat_cmp)) (ap (λ (ds : Cells). keys_of ds) (sym (expanded_is cs)) ∙ keys-expanded (counted_cells profile cs)) (is_ordered profile cs).names

  -- the layout of the meaning
  abbrev pub layout_of : Limits → Meaning → Contents
  layout_of limits m = contents_of m.unit limits profile (counted_cells profile m.cells)

  -- what is known of a meaning of which a layout is made
  pub record CanBeHeld (limits : Limits) (m : Meaning) : Type 0 where
    pub unit : IsUnit m.unit
    pub named : AllByRecursion (λ c. IsName c.0) (counted_cells profile m.cells)
    pub sound : AreSound m.cells
    pub once : has_twice (keys_of m.cells) ≡ false
    pub few : element_count m.cells ≤ limits.elements
    pub light : cells_weight m.cells ≤ limits.weight

  -- it is a layout
  is_layout : (limits : Limits) (m : Meaning) → CanBeHeld limits m → IsLayout (layout_of limits m)
  is_layout limits m s =
      let few : element_count (expanded (counted_cells profile m.cells)) ≡ element_count m.cells = ap element_count (expanded_is m.cells) ∙ ordered_count profile m.cells s.once in
      let lighter : cells_weight (expanded (counted_cells profile m.cells)) ≤ cells_weight m.cells = subst (λ (ds : Cells). cells_weight ds ≤ cells_weight m.cells) (sym (expanded_is m.cells)) (ordered_weight profile m.cells s.once) in
      record {
        unit = s.unit;
        limits = record { few = limits.few; light = limits.light; room = limits.room; short = limits.short };
        cells = are_cells (counted_cells profile m.cells) s.named (are_bags m.cells) (are_sound m.cells s.sound);
        ascending = names_ascend m.cells;
        few = omega (arith, few, s.few);
        light = omega (arith, lighter, s.light);
      }

  -- the same as the meaning
  same_layout : (limits : Limits) (m : Meaning) → SameLayout profile m (meaning_of (layout_of limits m))
  same_layout limits m =
      let s = subst (λ (ds : Cells). SameLayout profile (record { unit = m.unit; cells = ds }) m) (sym (expanded_is m.cells)) (in_order_same profile m) in
      record { unit = sym s.unit; cells = λ name. sym (s.cells name); counts = λ name e. sym (s.counts name e) }

  pub is_layout_of : (limits : Limits) (m : Meaning) → CanBeHeld limits m → IsLayoutOf profile limits m (layout_of limits m)
  is_layout_of limits m s = record { same = same_layout limits m; layout = is_layout limits m s; within = refl; by = refl }
