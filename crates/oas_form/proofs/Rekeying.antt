-- Sameness by profile one implies sameness by profile two; canonical forms by either.
use Rattle.std.proofs.Common.{◌≡◌, ℕ, ◌+◌, ◌*◌, Bool, List, [], ◌∷◌, cond, unwrap_or, refl, sym, ◌∙◌, ap, subst, arith}
use Rattle.std.specs.Prelude.{count_by}
use Rattle.std.specs.List.{AllByRecursion}
use Rattle.std.specs.Ordering.{eq_by_cmp}
use Rattle.std.proofs.lemmas.List.Sums.{sum_by-cons}
use Rattle.oas_num.specs.Style.{Shortest}
use Rattle.oas_ring.specs.Readings.{least_of}
use Rattle.oas_ring.specs.Laws.ReadingsLaws.{least_of-IsLeastReadingOf, least_of-least_of}
use Rattle.oas_ring.specs.Laws.RectanglesLaws.{box_of-alike}
use Rattle.oas_ring.specs.Laws.RingsLaws.{same_ring_back}
use Rattle.oas_elements.specs.declared.profile.Profile.TheVariants.{One, Two}
use Rattle.oas_elements.specs.declared.element.Element.{Element}
use Rattle.oas_elements.specs.declared.element.Element.TheVariants.{Polygon}
use Rattle.oas_elements.specs.Element.{element_cmp}
use Rattle.oas_elements.specs.Laws.ElementLaws.{exact_elements}
use Rattle.oas_elements.specs.Bag.{items, with_more}
use Rattle.oas_elements.specs.Laws.BagLaws.{total, sum_by-items, total-put_more}
use Rattle.oas_elements.specs.Same.{same_element, normal_polygon, normal, IsNormal}
use Rattle.oas_elements.specs.Laws.SameLaws.{same_element-is, normal-least, normal-polygon}
use Rattle.oas_elements.specs.Meaning.{Meaning, SameLayout, count_of, elements_of}
use Rattle.oas_elements.proofs.LawProofs.{equal, reflexive, symmetric, transitive}
use Rattle.oas_file.specs.Stands.{records_mean}
use Rattle.oas_file.specs.Laws.FileLaws.{file_of, means_one}
use Rattle.oas_file.specs.Acceptance.{Means}
use Rattle.oas_form.specs.Records.{Cells}
use Rattle.oas_form.specs.Rekeying.{SameByTwo, OneThenTwo, TwoIsOne, FormIsItsOwn}
use Rattle.oas_form.proofs.OrderedLayouts.{items_ascend, items_normal}
use Rattle.oas_form.proofs.Sizes.{tally, tally_is_bag, tally_count}

-- ---- the same by one are the same by two

-- the kept form by profile two of the kept form by profile one is that of the element
normal_twice : (e : Element) → normal Two (normal One e) ≡ normal Two e
normal_twice (Polygon layer datatype points) =
    λ i. normal_polygon layer datatype (least_of-least_of points i) (box_of-alike (least_of points) points (same_ring_back points (least_of points) (least_of-IsLeastReadingOf points).same) i)
normal_twice e = refl

-- so one may be counted for the other
same_by_two : (q e : Element) → same_element Two q (normal One e) ≡ same_element Two q e
same_by_two q e = same_element-is Two q (normal One e) ∙ ap (λ (x : Element). eq_by_cmp element_cmp (normal Two q) x) (normal_twice e) ∙ sym (same_element-is Two q e)

-- among elements in their kept forms by profile one, a test that gives the same for these counts as many
tally_counts : (test : Element → Bool) → ((e : Element) → test (normal One e) ≡ test e) → (xs : List Element) → count_by test (items (tally One xs)) ≡ count_by test xs
tally_counts test alike [] = refl
tally_counts test alike (x ∷ xs) =
    let one : Element → ℕ = λ y. cond (test y) 1 0 in
    let more : total one (with_more (tally One xs) (normal One x) 1) ≡ total one (tally One xs) + 1 * one (normal One x) = total-put_more element_cmp one (tally One xs) (normal One x) 1
    (λ y h. ap one (sym (exact_elements (normal One x) y h))) in
    let there : one (normal One x) ≡ one x = ap (λ b. cond b 1 0) (alike x) in
    omega (arith, sum_by-items one (with_more (tally One xs) (normal One x) 1), more, sum_by-items one (tally One xs), there, sum_by-cons one x xs, tally_counts test alike xs)

-- lists that count the same by profile one hold the same kept forms
one_tally : (xs ys : List Element) → ((q : Element) → count_of One q xs ≡ count_of One q ys) → items (tally One xs) ≡ items (tally One ys)
one_tally xs ys h =
    let b = tally_is_bag One xs in
    let c = tally_is_bag One ys in
    equal One (items (tally One xs)) (items (tally One ys)) (items_normal One (tally One xs) b.normal) (items_normal One (tally One ys) c.normal)
    (items_ascend (tally One xs) b.tally.ascending) (items_ascend (tally One ys) c.tally.ascending)
    (λ q. tally_count One q xs ∙ h q ∙ sym (tally_count One q ys))

-- such a test counts as many of both
pub counts_alike : (test : Element → Bool) → ((e : Element) → test (normal One e) ≡ test e) → (xs ys : List Element) → ((q : Element) → count_of One q xs ≡ count_of One q ys) →
    count_by test xs ≡ count_by test ys
counts_alike test alike xs ys h = sym (tally_counts test alike xs) ∙ ap (count_by test) (one_tally xs ys h) ∙ tally_counts test alike ys

pub coarser : SameByTwo
coarser m n s = record {
  unit = s.unit;
  cells = s.cells;
  counts = λ name q. counts_alike (same_element Two q) (same_by_two q) (unwrap_or (elements_of name m.cells) []) (unwrap_or (elements_of name n.cells) []) (s.counts name);
}

-- ---- from the one form to the other

pub keeps : OneThenTwo
keeps one other b c d k = (
  λ h. record {
    form = h.form;
    source = k.source;
    target = h.target;
    means = k.means;
    becomes = h.becomes;
    same = transitive Two k.source k.target h.target there
        (from k.target h.source h.target (means_one c h.source k.target h.means k.becomes) h.same);
  },
  λ h. record {
    form = h.form;
    source = k.target;
    target = h.target;
    means = k.becomes;
    becomes = h.becomes;
    same = transitive Two k.target k.source h.target
        (symmetric Two k.source k.target there) (from k.source h.source h.target (means_one b h.source k.source h.means k.means) h.same);
  },
) where
  there : SameLayout Two k.source k.target
  there = coarser k.source k.target k.same

  from : (m n o : Meaning) → n ≡ m → SameLayout Two n o → SameLayout Two m o
  from m n o e s = subst (λ (l : Meaning). SameLayout Two l o) e s

-- ---- forms by two are forms by one

-- an element in its kept form by profile two is in that by profile one
normal_by_one : (e : Element) → IsNormal Two e → IsNormal One e
normal_by_one (Polygon layer datatype points) h = normal-polygon One layer datatype points (normal-least Two layer datatype points h) (λ corners no. no)
normal_by_one e h = refl

elements_by_one : (es : List Element) → AllByRecursion (IsNormal Two) es → AllByRecursion (IsNormal One) es
elements_by_one [] h = tt
elements_by_one (e ∷ es) h = (normal_by_one e h.0, elements_by_one es h.1)

cells_by_one : (cs : Cells) → AllByRecursion (λ c. AllByRecursion (IsNormal Two) c.1) cs → AllByRecursion (λ c. AllByRecursion (IsNormal One) c.1) cs
cells_by_one [] h = tt
cells_by_one (c ∷ cs) h = (elements_by_one c.1 h.0, cells_by_one cs h.1)

pub within : TwoIsOne
within limits c h = record {
  head = h.head;
  records = h.records;
  file = h.file;
  allowed = h.allowed;
  whole = h.whole;
  ordered = record { names = h.ordered.names; ascending = h.ordered.ascending; normal = cells_by_one (records_mean h.head.unit h.records).cells h.ordered.normal };
}

-- ---- a form is its own

pub own : FormIsItsOwn
own limits profile c h =
    let m : Meaning = records_mean h.head.unit h.records in
    let means : Means c m = record { head = h.head; records = h.records; file = file_of Shortest h.head h.records c h.file; is = refl } in
    record { form = h; source = m; target = m; means = means; becomes = means; same = reflexive profile m }
