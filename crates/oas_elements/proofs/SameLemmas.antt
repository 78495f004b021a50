-- Layouts are the same exactly if their cells are equal.
use Rattle.std.proofs.Common.{◌≡◌, ℕ, suc, ◌<◌, List, [], ◌∷◌, Bool, true, false, cond, Option, None, Some, is_some, unwrap_or, length, slice_get, refl, sym, ◌∙◌, ap, subst, arith}
use Rattle.std.proofs.Common.{◌&&◌, T, not, IsTrue, true≢false}
use Rattle.std.specs.Prelude.{◌==◌, option_map, IfSome}
use Rattle.std.specs.List.{AllByRecursion}
use Rattle.std.specs.List.Sorted.{IsStrictlySortedBy}
use Rattle.std.specs.Map.{lookup, keys_of}
use Rattle.std.specs.BTreeMap.{is_at}
use Rattle.std.specs.FinMap.Entries.{same_entries, is_sorted, below_all, find}
use Rattle.std.proofs.lemmas.Map.Keys.{sorted_head, sorted_tail}
use Rattle.std.specs.declared.cmp.Ordering.TheVariants.{Less}
use Rattle.std.specs.Cmp.Lexicographic.{pointwise, nat_list_cmp_total, nat_list_eq_equiv, texts_ties}
use Rattle.std.proofs.lemmas.Map.Lookups.{exact_bytes}
use Rattle.oas_elements.specs.declared.element.Element.{Element}
use Rattle.oas_elements.specs.declared.profile.Profile.{Profile}
use Rattle.oas_elements.specs.Laws.ElementLaws.{element_total, exact_elements}
use Rattle.oas_elements.specs.Bag.{items, IsBag}
use Rattle.oas_elements.specs.Same.{same_element, IsNormal}
use Rattle.oas_elements.specs.Laws.SameLaws.{same_normal}
use Rattle.oas_elements.specs.Meaning.{elements_of, count_of, SameLayout}
use Rattle.oas_elements.specs.Contents.{Cell, Contents, expanded, meaning_of, IsCell, IsLayout}
use Rattle.oas_elements.specs.Laws.BagLaws.{sum_by-items}
use Rattle.oas_elements.proofs.Counting.{same_bags}
use Rattle.oas_elements.proofs.Sealed.{name_cmp}

-- bags with equal counts of each element are equal
pub same_held : (profile : Profile) (es fs : List (Element × ℕ)) → IsBag profile es → IsBag profile fs → ((e : Element) → count_of profile e (items es) ≡ count_of profile e (items fs)) → es ≡ fs
same_held profile es fs b c h =
    same_bags element_total exact_elements (same_element profile) (IsNormal profile)
    (same_normal profile) es fs b.normal c.normal b.tally.positive c.tally.positive b.tally.ascending c.tally.ascending (λ q _. sym (sum_by-items _ es) ∙ h q ∙ sum_by-items _ fs)

-- what a look-up finds is a bag
bag_at : (profile : Profile) (test : List ℕ → Bool) (cs : List Cell) → AllByRecursion (IsCell profile) cs → IfSome (lookup test cs) (IsBag profile)
bag_at profile test [] h = tt
bag_at profile test (c ∷ cs) h = elim (test c.0) as (λ b. IfSome (cond b (Some c.1) (lookup test cs)) (IsBag profile)) [ true ↦ h.0.bag | false ↦ bag_at profile test cs h.1 ]

-- the elements of a cell, by the counts that are held
elements_of-expanded : (name : List ℕ) (cs : List Cell) → elements_of name (expanded cs) ≡ option_map items (lookup (pointwise ◌==◌ name) cs)
elements_of-expanded name [] = refl
elements_of-expanded name (c ∷ cs) =
    elim (pointwise ◌==◌ name c.0) as (λ b. cond b (Some (items c.1)) (elements_of name (expanded cs)) ≡ option_map items
    (cond b (Some c.1) (lookup (pointwise ◌==◌ name) cs))) [ true ↦ refl | false ↦ elements_of-expanded name cs ]

-- bags that are both there, or both not, with equal counts
joined : (profile : Profile) (o p : Option (List (Element × ℕ))) → IfSome o (IsBag profile) → IfSome p (IsBag profile) → is_some (option_map items o) ≡ is_some (option_map items p) →
    ((e : Element) → count_of profile e (unwrap_or (option_map items o) []) ≡ count_of profile e (unwrap_or (option_map items p) [])) → o ≡ p
joined profile None None b c s h = refl
joined profile None (Some y) b c s h = cc
joined profile (Some x) None b c s h = cc
joined profile (Some x) (Some y) b c s h = ap Some (same_held profile x y b c h)

-- a name is found by equality as by the order
by_cmp : (q : List ℕ) (cs : List Cell) → lookup (pointwise ◌==◌ q) cs ≡ lookup (is_at (name_cmp q)) cs
by_cmp q cs = λ i. lookup (λ k. texts_ties q k i) cs

-- the first name is below the others, as a test
sorted_below : (x : List ℕ) (cs : List Cell) → AllByRecursion (λ k. name_cmp x k ≡ Less) (keys_of cs) → T (below_all name_cmp x cs)
sorted_below x [] h = tt
sorted_below x (c ∷ cs) h = rw h.0 (sorted_below x cs h.1)

-- names that ascend pass the test for it
sorted_list : (cs : List Cell) → IsStrictlySortedBy name_cmp (keys_of cs) → T (is_sorted name_cmp cs)
sorted_list [] s = tt
sorted_list (c ∷ cs) s = both _ _ (sorted_below c.0 cs (sorted_head name_cmp c.0 (keys_of cs) s)) (sorted_list cs (sorted_tail name_cmp c.0 (keys_of cs) s)) where
  -- two tests that hold
  both : (a b : Bool) → T a → T b → T (a && b)
  both true b p q = q
  both false b p q = p

-- the two kinds of look-up agree
find_is : (q : List ℕ) (cs : List Cell) → find name_cmp q cs ≡ lookup (is_at (name_cmp q)) cs
find_is q [] = refl
find_is q (c ∷ cs) = ap (λ o. cond (is_at (name_cmp q) c.0) (Some c.1) o) (find_is q cs)

-- layouts that are the same have equal cells
pub cells_from_same : (a b : Contents) → a.profile ≡ b.profile → IsLayout a → IsLayout b → SameLayout a.profile (meaning_of a) (meaning_of b) → a.cells ≡ b.cells
cells_from_same a b alike k l s =
    let others : AllByRecursion (IsCell a.profile) b.cells = subst (λ p. AllByRecursion (IsCell p) b.cells) (sym alike) l.cells in
    same_entries name_cmp nat_list_cmp_total exact_bytes a.cells b.cells (sorted_list a.cells k.ascending) (sorted_list b.cells l.ascending)
    (λ q.
    let left = elements_of-expanded q a.cells in
    let right = elements_of-expanded q b.cells in
    find_is q a.cells ∙ sym (by_cmp q a.cells)
    ∙ joined a.profile (lookup (pointwise ◌==◌ q) a.cells) (lookup (pointwise ◌==◌ q) b.cells) (bag_at a.profile _ a.cells k.cells) (bag_at a.profile _ b.cells others)
    (ap is_some (sym left) ∙ s.cells q ∙ ap is_some right)
    (λ e. ap (λ o. count_of a.profile e (unwrap_or o [])) (sym left) ∙ s.counts q e ∙ ap (λ o. count_of a.profile e (unwrap_or o [])) right)
    ∙ by_cmp q b.cells ∙ sym (find_is q b.cells))

-- equal units and cells are the same layout
pub same_from_cells : (profile : Profile) (a b : Contents) → a.unit ≡ b.unit → a.cells ≡ b.cells → SameLayout profile (meaning_of a) (meaning_of b)
same_from_cells profile a b u e = record {
  unit = u;
  cells = λ name. ap (λ cs. is_some (elements_of name (expanded cs))) e;
  counts = λ name x. ap (λ cs. count_of profile x (unwrap_or (elements_of name (expanded cs)) [])) e;
}

-- lists that read alike are equal
pub same_reads : (cs ds : List Cell) → length cs ≡ length ds → ((k : ℕ) → k < length cs → slice_get cs k ≡ slice_get ds k) → cs ≡ ds
same_reads [] [] e h = refl
same_reads [] (d ∷ ds) e h = absurd (omega (arith, e))
same_reads (c ∷ cs) [] e h = absurd (omega (arith, e))
same_reads (c ∷ cs) (d ∷ ds) e h =
    let head : c ≡ d = ap (λ o. unwrap_or o c) (h 0 (omega arith)) in
    λ i. head i ∷ same_reads cs ds (omega (arith, e)) (λ k below. h (suc k) (omega (arith, below))) i

-- layouts whose units or cells differ are not the same
pub differ : (u v a b : Contents) → u ≡ a → v ≡ b → a.profile ≡ b.profile → IsLayout u → IsLayout v → (a.unit ≡ b.unit → a.cells ≡ b.cells → ⊥) →
    (IsTrue false → SameLayout a.profile (meaning_of a) (meaning_of b)) × (SameLayout a.profile (meaning_of a) (meaning_of b) → IsTrue false)
differ u v a b e f alike k l apart =
    (λ h. absurd (true≢false (sym h)), λ s. absurd (apart s.unit (cells_from_same a b alike (subst IsLayout e k) (subst IsLayout f l) s)))

-- one entry of two equal lists
one_entry : (o p : Option Cell) (c d : Cell) → o ≡ p → o ≡ Some c → p ≡ Some d → c ≡ d
one_entry o p c d e f g = ap (λ q. unwrap_or q c) (sym f ∙ e ∙ g)

-- equal lists have equal cells at each place
pub same_at : (cs ds : List Cell) (i : ℕ) (c d : Cell) → slice_get cs i ≡ Some c → slice_get ds i ≡ Some d → cs ≡ ds → c ≡ d
same_at cs ds i c d f g e = one_entry (slice_get cs i) (slice_get ds i) c d (ap (λ (es : List Cell). slice_get es i) e) f g

-- equal cells have no different names
pub unlike_itself : (c d : Cell) → c ≡ d → true ≡ not (pointwise ◌==◌ c.0 d.0) → ⊥
unlike_itself c d e h =
    let alike : pointwise ◌==◌ c.0 d.0 ≡ true = ap (λ k. pointwise ◌==◌ c.0 k) (sym (ap (λ (p : Cell). p.0) e)) ∙ nat_list_eq_equiv.refl c.0 in
    true≢false (h ∙ ap not alike)
