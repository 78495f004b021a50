-- The laws of elements and layouts.
use Rattle.std.proofs.Common.{◌≡◌, ℕ, zero, suc, List, [], ◌∷◌, Bool, cond, Some, unwrap_or, slice_get, refl, sym, ◌∙◌, ap, subst}
use Rattle.std.specs.Cmp.{tied_itself}
use Rattle.std.specs.List.{AllByRecursion}
use Rattle.std.specs.List.Sorted.{IsStrictlySortedBy}
use Rattle.std.specs.Map.{keys_of}
use Rattle.std.specs.declared.cmp.Ordering.TheVariants.{Less, Equal}
use Rattle.std.proofs.lemmas.Map.Keys.{sorted_head, sorted_tail}
use Rattle.oas_elements.specs.declared.profile.Profile.{Profile}
use Rattle.oas_elements.specs.declared.profile.Profile.TheVariants.{One, Two}
use Rattle.oas_elements.specs.declared.element.Element.{Element}
use Rattle.oas_elements.specs.Element.{element_cmp}
use Rattle.oas_elements.specs.Laws.ElementLaws.{element_total, exact_elements}
use Rattle.oas_elements.specs.Same.{same_element, normal, IsNormal}
use Rattle.oas_elements.specs.Laws.SameLaws.{same_element-Decides, normal-alike, same_from_normal, normal-normal, normal-same, normal-least, normal-no_box, normal-polygon, same_normal, same_from-normal}
use Rattle.oas_elements.specs.Laws.LayoutLaws.{TestsSame, KeptIsSame, SameIfKeptEqual, KeptIsKept, KeptPolygons, HeldApart, HeldCounts, EqualCounts, IsReflexive, IsSymmetric, IsTransitive}
use Rattle.oas_elements.specs.Laws.BagLaws.{total, sum_by-items}
use Rattle.oas_elements.proofs.Counting.{share-is, same_lists}

-- the test of sameness is the relation
pub test : (profile : Profile) → TestsSame profile
test profile = same_element-Decides profile

-- an element is the same as its kept form
pub kept_same : (profile : Profile) → KeptIsSame profile
kept_same profile = normal-same profile

-- and the same as another exactly if their kept forms are equal
pub kept_equal : (profile : Profile) → SameIfKeptEqual profile
kept_equal profile a b = (normal-alike profile a b, same_from_normal profile a b)

-- a kept form is its own
pub kept_kept : (profile : Profile) → KeptIsKept profile
kept_kept profile = normal-normal profile

-- which polygons are kept unchanged
pub kept_polygons : (profile : Profile) → KeptPolygons profile
kept_polygons One layer datatype points = (λ h. (normal-least One layer datatype points h, λ corners no. no), λ h. normal-polygon One layer datatype points h.0 h.1)
kept_polygons Two layer datatype points =
    (λ h. (normal-least Two layer datatype points h, λ corners b. normal-no_box layer datatype points corners h b), λ h. normal-polygon Two layer datatype points h.0 h.1)

-- the number beside an element is its count
pub held : (profile : Profile) → HeldCounts profile
held profile es q b =
    sum_by-items _ es ∙ ap (λ (E : Element → Bool). total (λ x. cond (E x) 1 0) es) (λ i x. sym (same_from-normal profile q x) i)
    ∙ share-is element_total exact_elements (same_element profile) (IsNormal profile) (same_normal profile) (normal profile q) es (normal-normal profile q) b.normal b.tally.ascending

-- a key at a place of the list is above any key that all in the list are above
above_at : (k : Element) (es : List (Element × ℕ)) (j : ℕ) (q : Element × ℕ) → AllByRecursion (λ y. element_cmp k y ≡ Less) (keys_of es) → slice_get es j ≡ Some q → element_cmp k q.0 ≡ Less
above_at k [] j q h at = let none : ⊥ = cc in absurd none
above_at k (e ∷ es) zero q h at = ap (λ o. element_cmp k (unwrap_or o e).0) (sym at) ∙ h.0
above_at k (e ∷ es) (suc j) q h at = above_at k es j q h.1 at

below_itself : (a b : Element) → a ≡ b → element_cmp a b ≡ Less → ⊥
below_itself a b e h = let tied : element_cmp a b ≡ Equal = ap (element_cmp a) (sym e) ∙ tied_itself element_total a in cc

-- keys that strictly ascend are different
keys_apart : (es : List (Element × ℕ)) (i j : ℕ) (p q : Element × ℕ) → IsStrictlySortedBy element_cmp (keys_of es) → slice_get es i ≡ Some p → slice_get es j ≡ Some q → p.0 ≡ q.0 → i ≡ j
keys_apart [] i j p q s at bt e = let none : ⊥ = cc in absurd none
keys_apart (x ∷ xs) zero zero p q s at bt e = refl
keys_apart (x ∷ xs) zero (suc j) p q s at bt e =
    absurd (below_itself x.0 q.0 (ap (λ o. (unwrap_or o x).0) at ∙ e) (above_at x.0 xs j q (sorted_head element_cmp x.0 (keys_of xs) s) bt))
keys_apart (x ∷ xs) (suc i) zero p q s at bt e =
    absurd (below_itself x.0 p.0 (ap (λ o. (unwrap_or o x).0) bt ∙ sym e) (above_at x.0 xs i p (sorted_head element_cmp x.0 (keys_of xs) s) at))
keys_apart (x ∷ xs) (suc i) (suc j) p q s at bt e = ap suc (keys_apart xs i j p q (sorted_tail element_cmp x.0 (keys_of xs) s) at bt e)

-- each held element is in its kept form
normal_at : (profile : Profile) (es : List (Element × ℕ)) (i : ℕ) (p : Element × ℕ) → AllByRecursion (λ p. IsNormal profile p.0) es → slice_get es i ≡ Some p → IsNormal profile p.0
normal_at profile [] i p h at = let none : ⊥ = cc in absurd none
normal_at profile (e ∷ es) zero p h at = subst (λ (x : Element × ℕ). IsNormal profile x.0) (ap (λ o. unwrap_or o e) at) h.0
normal_at profile (e ∷ es) (suc i) p h at = normal_at profile es i p h.1 at

-- no two places of what is held have the same element
pub apart : (profile : Profile) → HeldApart profile
apart profile es i j p q b at bt s =
    keys_apart es i j p q b.tally.ascending at bt (sym (normal_at profile es i p b.normal at) ∙ normal-alike profile p.0 q.0 s ∙ normal_at profile es j q b.normal bt)

-- ascending lists with equal counts are equal
pub equal : (profile : Profile) → EqualCounts profile
equal profile xs ys n m a b h = same_lists element_total exact_elements (same_element profile) (IsNormal profile) (same_normal profile) xs ys n m a b (λ q _. h q)

-- each layout is the same as itself
pub reflexive : (profile : Profile) → IsReflexive profile
reflexive profile a = record { unit = refl; cells = λ name. refl; counts = λ name e. refl }

-- in either order
pub symmetric : (profile : Profile) → IsSymmetric profile
symmetric profile a b s = record { unit = sym s.unit; cells = λ name. sym (s.cells name); counts = λ name e. sym (s.counts name e) }

-- and over a third
pub transitive : (profile : Profile) → IsTransitive profile
transitive profile a b c s t = record { unit = s.unit ∙ t.unit; cells = λ name. s.cells name ∙ t.cells name; counts = λ name e. s.counts name e ∙ t.counts name e }
