-- Layouts in order: those that are the same are equal, and what is held as counted elements is in order.
use Rattle.std.proofs.Common.{◌≡◌, ℕ, zero, suc, List, [], ◌∷◌, ◌++◌, Bool, true, false, cond, Option, None, Some, is_some, unwrap_or, replicate, refl, sym, ◌∙◌, ap, subst, T, ◌&&◌}
use Rattle.std.specs.Prelude.{IfSome, ◌==◌}
use Rattle.std.specs.List.{AllByRecursion}
use Rattle.std.specs.List.Sorted.{IsStrictlySortedBy}
use Rattle.std.specs.Map.{lookup, keys_of}
use Rattle.std.specs.Ordering.{is_gt}
use Rattle.std.specs.FinMap.Entries.{same_entries, is_sorted, below_all, find}
use Rattle.std.proofs.lemmas.Map.Keys.{sorted_head, sorted_tail}
use Rattle.std.specs.declared.cmp.Ordering.TheVariants.{Less}
use Rattle.std.specs.Cmp.{tied_itself}
use Rattle.std.specs.Cmp.Lexicographic.{pointwise, nat_list_cmp_total, texts_ties}
use Rattle.std.proofs.lemmas.Map.Lookups.{exact_bytes}
use Rattle.oas_elements.specs.declared.profile.Profile.{Profile}
use Rattle.oas_elements.specs.declared.element.Element.{Element}
use Rattle.oas_elements.specs.Element.{element_cmp}
use Rattle.oas_elements.specs.Laws.ElementLaws.{element_total}
use Rattle.oas_elements.specs.Ascending.{Ascends}
use Rattle.oas_elements.specs.Bag.{items}
use Rattle.oas_elements.specs.Same.{IsNormal}
use Rattle.oas_elements.specs.Meaning.{Meaning, SameLayout, count_of, elements_of}
use Rattle.oas_elements.specs.Contents.{Cell, names, expanded, IsCell}
use Rattle.oas_elements.proofs.LawProofs.{equal}
use Rattle.oas_elements.proofs.Sealed.{name_cmp}
use Rattle.oas_form.specs.Records.{Cells}
use Rattle.oas_form.specs.Canonical.{IsOrdered}
use Rattle.oas_form.specs.Layouts.{EqualInOrder, LayoutInOrder}

-- ---- names that ascend, as a test

-- the first name is below the others
sorted_below : (x : List ℕ) (cs : Cells) → AllByRecursion (λ k. name_cmp x k ≡ Less) (keys_of cs) → T (below_all name_cmp x cs)
sorted_below x [] h = tt
sorted_below x (c ∷ cs) h = rw h.0 (sorted_below x cs h.1)

pub sorted_list : (cs : Cells) → IsStrictlySortedBy name_cmp (keys_of cs) → T (is_sorted name_cmp cs)
sorted_list [] s = tt
sorted_list (c ∷ cs) s = both _ _ (sorted_below c.0 cs (sorted_head name_cmp c.0 (keys_of cs) s)) (sorted_list cs (sorted_tail name_cmp c.0 (keys_of cs) s)) where
  both : (a b : Bool) → T a → T b → T (a && b)
  both true b p q = q
  both false b p q = p

-- a name is found by the order as by equality
pub find_is : (name : List ℕ) (cs : Cells) → find name_cmp name cs ≡ elements_of name cs
find_is name [] = refl
find_is name (c ∷ cs) = λ i. cond (sym (texts_ties name c.0) i) (Some c.1) (find_is name cs i)

-- ---- layouts that are the same are equal

module _ (profile : Profile) where
  abbrev InOrder : List Element → Type 0
  InOrder xs = AllByRecursion (IsNormal profile) xs × Ascends element_cmp xs

  in_order_at : (test : List ℕ → Bool) (cs : Cells) → AllByRecursion (λ c. AllByRecursion (IsNormal profile) c.1) cs → AllByRecursion (λ c. Ascends element_cmp c.1) cs →
      IfSome (lookup test cs) InOrder
  in_order_at test [] n a = tt
  in_order_at test (c ∷ cs) n a = elim (test c.0) as (λ b. IfSome (cond b (Some c.1) (lookup test cs)) InOrder) [ true ↦ (n.0, a.0) | false ↦ in_order_at test cs n.1 a.1 ]

  joined : (o p : Option (List Element)) → IfSome o InOrder → IfSome p InOrder → is_some o ≡ is_some p →
      ((e : Element) → count_of profile e (unwrap_or o []) ≡ count_of profile e (unwrap_or p [])) → o ≡ p
  joined None None b c s h = refl
  joined None (Some y) b c s h = cc
  joined (Some x) None b c s h = cc
  joined (Some x) (Some y) b c s h = ap Some (equal profile x y b.0 c.0 b.1 c.1 h)

  -- layouts in order that are the same have equal cells
  pub same_cells : (m n : Meaning) → IsOrdered profile m.cells → IsOrdered profile n.cells → SameLayout profile m n → m.cells ≡ n.cells
  same_cells m n p q s =
      same_entries name_cmp nat_list_cmp_total exact_bytes m.cells n.cells (sorted_list m.cells p.names) (sorted_list n.cells q.names)
      (λ name. find_is name m.cells
      ∙ joined (elements_of name m.cells) (elements_of name n.cells) (in_order_at (pointwise ◌==◌ name) m.cells p.normal p.ascending)
      (in_order_at (pointwise ◌==◌ name) n.cells q.normal q.ascending) (s.cells name) (s.counts name)
      ∙ sym (find_is name n.cells))

pub equal_in_order : EqualInOrder
equal_in_order profile m n p q s = let cs = same_cells profile m n p q s in λ i. record { unit = s.unit i; cells = cs i }

-- ---- what is held is in order

-- a list that begins with one element, this often
repeated : (n : ℕ) (x : Element) (ys : List Element) → AllByRecursion (λ y. is_gt (element_cmp x y) ≡ false) ys → Ascends element_cmp ys → Ascends element_cmp (replicate n x ++ ys)
repeated zero x ys h a = a
repeated (suc n) x ys h a = (at_most n, repeated n x ys h a) where
  at_most : (n : ℕ) → AllByRecursion (λ y. is_gt (element_cmp x y) ≡ false) (replicate n x ++ ys)
  at_most zero = h
  at_most (suc n) = (ap is_gt (tied_itself element_total x), at_most n)

-- what holds for the elements holds for each of their places
pub all-items : (P : Element → Type 0) (es : List (Element × ℕ)) → AllByRecursion P (keys_of es) → AllByRecursion P (items es)
all-items P [] h = tt
all-items P (p ∷ ps) h = so_often p.1 (all-items P ps h.1) where
  so_often : (n : ℕ) → AllByRecursion P (items ps) → AllByRecursion P (replicate n p.0 ++ items ps)
  so_often zero more = more
  so_often (suc n) more = (h.0, so_often n more)

none_above : (x : Element) (ks : List Element) → AllByRecursion (λ k. element_cmp x k ≡ Less) ks → AllByRecursion (λ k. is_gt (element_cmp x k) ≡ false) ks
none_above x [] h = tt
none_above x (k ∷ ks) h = (ap is_gt h.0, none_above x ks h.1)

pub items_ascend : (es : List (Element × ℕ)) → IsStrictlySortedBy element_cmp (keys_of es) → Ascends element_cmp (items es)
items_ascend [] s = tt
items_ascend (p ∷ ps) s =
    repeated p.1 p.0 (items ps) (all-items (λ y. is_gt (element_cmp p.0 y) ≡ false) ps (none_above p.0 (keys_of ps) (sorted_head element_cmp p.0 (keys_of ps) s)))
    (items_ascend ps (sorted_tail element_cmp p.0 (keys_of ps) s))

normal_keys : (profile : Profile) (es : List (Element × ℕ)) → AllByRecursion (λ p. IsNormal profile p.0) es → AllByRecursion (IsNormal profile) (keys_of es)
normal_keys profile [] h = tt
normal_keys profile (p ∷ ps) h = (h.0, normal_keys profile ps h.1)

pub items_normal : (profile : Profile) (es : List (Element × ℕ)) → AllByRecursion (λ p. IsNormal profile p.0) es → AllByRecursion (IsNormal profile) (items es)
items_normal profile es h = all-items (IsNormal profile) es (normal_keys profile es h)

pub keys-expanded : (cs : List Cell) → keys_of (expanded cs) ≡ names cs
keys-expanded [] = refl
keys-expanded (c ∷ cs) = ap (λ (ks : List (List ℕ)). c.0 ∷ ks) (keys-expanded cs)

cells_ascend : (profile : Profile) (cs : List Cell) → AllByRecursion (IsCell profile) cs → AllByRecursion (λ c. Ascends element_cmp c.1) (expanded cs)
cells_ascend profile [] h = tt
cells_ascend profile (c ∷ cs) h = (items_ascend c.1 h.0.bag.tally.ascending, cells_ascend profile cs h.1)

cells_normal : (profile : Profile) (cs : List Cell) → AllByRecursion (IsCell profile) cs → AllByRecursion (λ c. AllByRecursion (IsNormal profile) c.1) (expanded cs)
cells_normal profile [] h = tt
cells_normal profile (c ∷ cs) h = (items_normal profile c.1 h.0.bag.normal, cells_normal profile cs h.1)

-- what a layout holds is in order
pub layout_in_order : LayoutInOrder
layout_in_order l h = record {
  names = subst (IsStrictlySortedBy name_cmp) (sym (keys-expanded l.cells)) h.ascending;
  ascending = cells_ascend l.profile l.cells h.cells;
  normal = cells_normal l.profile l.cells h.cells;
}
