-- The two profiles differ in boxes, and in nothing else.
use Rattle.std.proofs.Common.{◌≡◌, ℕ, ◌+◌, List, [], ◌∷◌, Bool, true, false, cond, Option, None, Some, is_some, unwrap_or, refl, sym, ◌∙◌, ap, subst, true≢false, arith}
use Rattle.std.specs.Prelude.{count_by, ◌==◌}
use Rattle.std.specs.List.{AllByRecursion}
use Rattle.std.specs.List.Sorted.{IsStrictlySortedBy}
use Rattle.std.specs.Map.{keys_of}
use Rattle.std.specs.Ordering.{is_eq, eq_by_cmp}
use Rattle.std.specs.declared.cmp.Ordering.TheVariants.{Less}
use Rattle.std.specs.Cmp.Lexicographic.{pointwise, texts_ties, nat_list_eq_equiv, same_text}
use Rattle.std.proofs.lemmas.List.Sums.{sum_by-cons}
use Rattle.std.proofs.lemmas.Map.Keys.{sorted_head, sorted_tail}
use Rattle.oas_num.specs.Style.{Shortest}
use Rattle.oas_ring.specs.declared.rectangles.Corners.{Corners}
use Rattle.oas_ring.specs.Readings.{least_of}
use Rattle.oas_ring.specs.Rectangles.{box_of}
use Rattle.oas_ring.specs.Laws.ReadingsLaws.{least_of-IsLeastReadingOf}
use Rattle.oas_ring.specs.Laws.RectanglesLaws.{box_of-is, box_of-none, box_of-alike}
use Rattle.oas_ring.specs.Laws.RingsLaws.{same_ring_back}
use Rattle.oas_elements.specs.declared.element.Element.{Element}
use Rattle.oas_elements.specs.declared.element.Element.TheVariants.{Polygon}
use Rattle.oas_elements.specs.declared.limits.Limits.{Limits}
use Rattle.oas_elements.specs.declared.profile.Profile.{Profile}
use Rattle.oas_elements.specs.declared.profile.Profile.TheVariants.{One, Two}
use Rattle.oas_elements.specs.Element.{element_cmp}
use Rattle.oas_elements.specs.Laws.SameLaws.{same_element-Decides, same_element-is, normal-alike, normal-no_box}
use Rattle.oas_elements.specs.Meaning.{Meaning, SameLayout, count_of, elements_of}
use Rattle.oas_elements.specs.Same.{same_element, normal_polygon, normal, IsNormal}
use Rattle.oas_elements.proofs.LawProofs.{symmetric}
use Rattle.oas_elements.proofs.Sealed.{name_cmp}
use Rattle.oas_file.specs.Stands.{records_mean}
use Rattle.oas_file.specs.Laws.FileLaws.{file_of, means_one}
use Rattle.oas_file.specs.Acceptance.{Means}
use Rattle.oas_form.specs.Records.{Cells}
use Rattle.oas_form.specs.Canonical.{CanonicalForm}
use Rattle.oas_form.specs.Boxes.{IsNoBox, HasNoBox, SameByOne, OneIsTwo, FormsDifferByBoxes}
use Rattle.oas_form.proofs.Forms.{limits_apart}
use Rattle.oas_form.proofs.Rekeying.{coarser, within, counts_alike}

-- ---- boxes, as a test

-- whether it is a polygon that goes round a rectangle
abbrev is_boxed : Element → Bool
is_boxed (Polygon layer datatype points) = is_some (box_of points)
is_boxed e = false

-- the same for its kept form by profile one
boxed_alike : (e : Element) → is_boxed (normal One e) ≡ is_boxed e
boxed_alike (Polygon layer datatype points) = ap is_some (box_of-alike (least_of points) points (same_ring_back points (least_of points) (least_of-IsLeastReadingOf points).same))
boxed_alike e = refl

unboxed : (e : Element) → IsNoBox e → is_boxed e ≡ false
unboxed (Polygon layer datatype points) h = ap is_some (box_of-none points h)
unboxed e h = refl

no_box : (e : Element) → is_boxed e ≡ false → IsNoBox e
no_box (Polygon layer datatype points) h = λ corners b. absurd (true≢false (ap is_some (sym (box_of-is points corners b)) ∙ h))
no_box e h = tt

-- where none is a box, none is counted
none_counted : (xs : List Element) → AllByRecursion IsNoBox xs → count_by is_boxed xs ≡ 0
none_counted [] h = refl
none_counted (x ∷ xs) h = sum_by-cons (λ y. cond (is_boxed y) 1 0) x xs ∙ (λ i. cond (unboxed x h.0 i) 1 0 + none_counted xs h.1 i)

-- and back
all_unboxed : (xs : List Element) → count_by is_boxed xs ≡ 0 → AllByRecursion IsNoBox xs
all_unboxed [] h = tt
all_unboxed (x ∷ xs) h =
    let more = sum_by-cons (λ y. cond (is_boxed y) 1 0) x xs in
    (no_box x (first (is_boxed x) (omega (arith, more, h))), all_unboxed xs (omega (arith, more, h))) where
      first : (b : Bool) → ◌≡◌ {A = ℕ} (cond b 1 0) 0 → b ≡ false
      first true e = absurd (omega (arith, e))
      first false e = refl

-- of layouts that are the same by profile one both have boxes or neither
boxes_alike : (m n : Meaning) → SameLayout One m n → HasNoBox m → HasNoBox n
boxes_alike m n s h name =
    let xs : List Element = unwrap_or (elements_of name m.cells) [] in
    let ys : List Element = unwrap_or (elements_of name n.cells) [] in
    all_unboxed ys (sym (counts_alike is_boxed boxed_alike xs ys (s.counts name)) ∙ none_counted xs (h name))

-- ---- what is no box is kept alike

kept_alike : (e : Element) → IsNoBox e → normal Two e ≡ normal One e
kept_alike (Polygon layer datatype points) h = ap (normal_polygon layer datatype (least_of points)) (box_of-none points h)
kept_alike e h = refl

unboxed_by_two : (e : Element) → IsNormal Two e → IsNoBox e
unboxed_by_two (Polygon layer datatype points) h = λ corners b. normal-no_box layer datatype points corners h b
unboxed_by_two e h = tt

unboxed_elements : (es : List Element) → AllByRecursion (IsNormal Two) es → AllByRecursion IsNoBox es
unboxed_elements [] h = tt
unboxed_elements (e ∷ es) h = (unboxed_by_two e h.0, unboxed_elements es h.1)

elements_by_two : (es : List Element) → AllByRecursion (IsNormal One) es → AllByRecursion IsNoBox es → AllByRecursion (IsNormal Two) es
elements_by_two [] h n = tt
elements_by_two (e ∷ es) h n = (kept_alike e n.0 ∙ h.0, elements_by_two es h.1 n.1)

cells_by_two : (cs : Cells) → AllByRecursion (λ c. AllByRecursion (IsNormal One) c.1) cs → AllByRecursion (λ c. AllByRecursion IsNoBox c.1) cs → AllByRecursion (λ c. AllByRecursion (IsNormal Two) c.1) cs
cells_by_two [] h n = tt
cells_by_two (c ∷ cs) h n = (elements_by_two c.1 h.0 n.0, cells_by_two cs h.1 n.1)

-- ---- without boxes the same by two are the same by one

-- what is no box is counted alike by both profiles
alike_by_both : (q x : Element) → IsNoBox q → IsNoBox x → same_element One q x ≡ same_element Two q x
alike_by_both q x h n = same_element-is One q x ∙ (λ i. eq_by_cmp element_cmp (sym (kept_alike q h) i) (sym (kept_alike x n) i)) ∙ sym (same_element-is Two q x)

-- and a box isn't the same by profile one
other_than_boxed : (q x : Element) → is_boxed q ≡ true → IsNoBox x → same_element One q x ≡ false
other_than_boxed q x boxed n = by (same_element One q x) refl where
  by : (b : Bool) → same_element One q x ≡ b → same_element One q x ≡ false
  by false e = e
  by true e =
      let kept : normal One q ≡ normal One x = normal-alike One q x ((same_element-Decides One q x).0 e) in
      absurd (true≢false (sym boxed ∙ sym (boxed_alike q) ∙ ap is_boxed kept ∙ boxed_alike x ∙ unboxed x n))

count_by_both : (q : Element) (xs : List Element) → IsNoBox q → AllByRecursion IsNoBox xs → count_of One q xs ≡ count_of Two q xs
count_by_both q [] h n = refl
count_by_both q (x ∷ xs) h n =
    sum_by-cons (λ y. cond (same_element One q y) 1 0) x xs ∙ (λ i. cond (alike_by_both q x h n.0 i) 1 0 + count_by_both q xs h n.1 i) ∙ sym (sum_by-cons (λ y. cond (same_element Two q y) 1 0) x xs)

no_boxed : (q : Element) (xs : List Element) → is_boxed q ≡ true → AllByRecursion IsNoBox xs → count_of One q xs ≡ 0
no_boxed q [] boxed n = refl
no_boxed q (x ∷ xs) boxed n = sum_by-cons (λ y. cond (same_element One q y) 1 0) x xs ∙ (λ i. cond (other_than_boxed q x boxed n.0 i) 1 0 + no_boxed q xs boxed n.1 i)

counts_by_one : (q : Element) (xs ys : List Element) → AllByRecursion IsNoBox xs → AllByRecursion IsNoBox ys → count_of Two q xs ≡ count_of Two q ys → count_of One q xs ≡ count_of One q ys
counts_by_one q xs ys h n same = by (is_boxed q) refl where
  by : (b : Bool) → is_boxed q ≡ b → count_of One q xs ≡ count_of One q ys
  by true e = no_boxed q xs e h ∙ sym (no_boxed q ys e n)
  by false e = count_by_both q xs (no_box q e) h ∙ same ∙ sym (count_by_both q ys (no_box q e) n)

pub finer : SameByOne
finer m n h k s = record {
  unit = s.unit;
  cells = s.cells;
  counts = λ name q. counts_by_one q (unwrap_or (elements_of name m.cells) []) (unwrap_or (elements_of name n.cells) []) (h name) (k name) (s.counts name q);
}

-- ---- in each cell, and in the cell of each name

at_name : (name : List ℕ) (cs : Cells) → AllByRecursion (λ c. AllByRecursion (IsNormal Two) c.1) cs → AllByRecursion IsNoBox (unwrap_or (elements_of name cs) [])
at_name name [] h = tt
at_name name (c ∷ cs) h =
    elim (pointwise ◌==◌ name c.0) as (λ b. AllByRecursion IsNoBox (unwrap_or (cond b (Some c.1) (elements_of name cs)) [])) [ true ↦ unboxed_elements c.1 h.0 | false ↦ at_name name cs h.1 ]

-- a name below all others isn't among them
not_among : (name : List ℕ) (cs : Cells) → AllByRecursion (λ k. name_cmp name k ≡ Less) (keys_of cs) → elements_of name cs ≡ None
not_among name [] h = refl
not_among name (c ∷ cs) h =
    (λ i. cond (texts_ties name c.0 i) (Some c.1) (elements_of name cs)) ∙ ap (λ r. cond (is_eq r) (Some c.1) (elements_of name cs)) h.0 ∙ not_among name cs h.1

in_cells : (cs : Cells) → IsStrictlySortedBy name_cmp (keys_of cs) → ((name : List ℕ) → AllByRecursion IsNoBox (unwrap_or (elements_of name cs) [])) → AllByRecursion (λ c. AllByRecursion IsNoBox c.1) cs
in_cells [] s h = tt
in_cells (c ∷ cs) s h = (own, in_cells cs (sorted_tail name_cmp c.0 (keys_of cs) s) others) where
  own : AllByRecursion IsNoBox c.1
  own = subst (λ (b : Bool). AllByRecursion IsNoBox (unwrap_or (cond b (Some c.1) (elements_of c.0 cs)) [])) (nat_list_eq_equiv.refl c.0) (h c.0)

  none : (name : List ℕ) → name ≡ c.0 → elements_of name cs ≡ None
  none name e = ap (λ (n : List ℕ). elements_of n cs) e ∙ not_among c.0 cs (sorted_head name_cmp c.0 (keys_of cs) s)

  others : (name : List ℕ) → AllByRecursion IsNoBox (unwrap_or (elements_of name cs) [])
  others name = by (pointwise ◌==◌ name c.0) refl where
    by : (b : Bool) → pointwise ◌==◌ name c.0 ≡ b → AllByRecursion IsNoBox (unwrap_or (elements_of name cs) [])
    by true e = subst (λ (o : Option (List Element)). AllByRecursion IsNoBox (unwrap_or o [])) (sym (none name (same_text name c.0 (sym e)))) tt
    by false e = subst (λ (b : Bool). AllByRecursion IsNoBox (unwrap_or (cond b (Some c.1) (elements_of name cs)) [])) e (h name)

-- ---- forms

means_records : {limits : Limits} {profile : Profile} {c : List ℕ} (f : CanonicalForm limits profile c) → Means c (records_mean f.head.unit f.records)
means_records {c = c} f = record { head = f.head; records = f.records; file = file_of Shortest f.head f.records c f.file; is = refl }

pub one_is_two : OneIsTwo
one_is_two limits c m f means = (
  λ t.
      let n : Meaning = records_mean t.head.unit t.records in
      subst HasNoBox (means_one c n m (means_records t) means) (λ name. at_name name n.cells t.ordered.normal),
  λ h.
      let n : Meaning = records_mean f.head.unit f.records in
      let none : HasNoBox n = subst HasNoBox (means_one c m n means (means_records f)) h in
      record {
        head = f.head;
        records = f.records;
        file = f.file;
        allowed = f.allowed;
        whole = f.whole;
        ordered = record { names = f.ordered.names; ascending = f.ordered.ascending; normal = cells_by_two n.cells f.ordered.normal (in_cells n.cells f.ordered.names none) };
      },
)

pub forms_differ : FormsDifferByBoxes
forms_differ one other b c d m k h means = (
  λ e.
      let two : CanonicalForm other Two c = subst (CanonicalForm other Two) (sym e) h.form in
      let none : HasNoBox k.target = (one_is_two other c k.target (within other c two) k.becomes).0 two in
      subst HasNoBox (means_one b k.source m k.means means) (boxes_alike k.target k.source (symmetric One k.source k.target k.same) none),
  λ none.
      let source : HasNoBox k.source = subst HasNoBox (means_one b m k.source means k.means) none in
      let two = (one_is_two one c k.target k.form k.becomes).1 (boxes_alike k.source k.target k.same source) in
      limits_apart one other Two b c d (record { form = two; source = k.source; target = k.target; means = k.means; becomes = k.becomes; same = coarser k.source k.target k.same }) h,
)
