-- The records of cells are accepted.
use Rattle.std.proofs.Common.{◌≡◌, ℕ, ◌+◌, ◌≤◌, Bool, true, false, List, ◌∷◌, map, reverse, None, Some, length, ◌||◌, refl, sym, ap, subst, ◌∙◌, arith, []}
use Rattle.std.proofs.lemmas.Bool.{le-ltb}
use Rattle.std.proofs.lemmas.List.Sums.{sum_by-cons}
use Rattle.std.proofs.lemmas.Map.Keys.{sorted_head, sorted_tail}
use Rattle.std.specs.Prelude.{cond, nat_lt, sum_by}
use Rattle.std.specs.List.{AllByRecursion, list_any}
use Rattle.std.specs.List.Sorted.{IsStrictlySortedBy}
use Rattle.std.specs.Map.{keys_of}
use Rattle.std.specs.Ordering.{nat_cmp, is_eq}
use Rattle.std.specs.declared.cmp.Ordering.TheVariants.{Less}
use Rattle.std.specs.Cmp.Lexicographic.{slice_cmp, texts_ties}
use Rattle.oas_num.specs.declared.refusals.Why.TheVariants.{OutOfPlace, TooHeavy, UnknownReference, DuplicateCell}
use Rattle.oas_record.specs.Records.{id_of}
use Rattle.oas_record.specs.declared.records.Record.{Record}
use Rattle.oas_record.specs.declared.records.Record.TheVariants as record_of
use Rattle.oas_record.specs.declared.references.CellRef.TheVariants as cell
use Rattle.oas_elements.specs.declared.element.Element.{Element}
use Rattle.oas_elements.specs.declared.element.Element.TheVariants.{Placement}
use Rattle.oas_elements.specs.declared.limits.Limits.{Limits}
use Rattle.oas_elements.specs.Grid.{fits_grid}
use Rattle.oas_elements.specs.Weight.{weight_of, lacks_points}
use Rattle.oas_elements.specs.Meaning.{element_count, cells_weight}
use Rattle.oas_file.specs.Drawn.{Drawn}
use Rattle.oas_file.specs.Drawn.TheVariants.{Named}
use Rattle.oas_file.specs.Modal.{ModalState, modal_of, stepped}
use Rattle.oas_file.specs.DrawingDrawn.{weight_so_far}
use Rattle.oas_file.specs.Drawing.{elements_at}
use Rattle.oas_file.specs.Reasons.{first_of, draw_reason}
use Rattle.oas_file.specs.Names.{named, cell_names, text_strings, same_string}
use Rattle.oas_file.specs.Meaning.{is_unnamed, lacks_name, has_twice, end_reason}
use Rattle.oas_file.specs.Standing.{element_reason}
use Rattle.oas_file.specs.Stands as stands
use Rattle.oas_file.specs.Stands.{is_in_cell, number_drawn, weight_so_far_of, seen, refused_after}
use Rattle.oas_form.specs.Records.{Cells, element_record, records_of}
use Rattle.oas_form.specs.RecordMeaning.{HavePoints, FitGrid, CanonicalAllowed, CanonicalWhole, AscendingWhole}
use Rattle.oas_form.proofs.MeantLemmas.{onto, onto-append, reverse-is, IsAbsolute, draws, absolute_element, drawn_cell, drawn_again, cells_named}
use Rattle.oas_form.proofs.AllKinds.{of_element}

-- ---- one element

-- after records in a cell
pub in_cell_as : (limits : Limits) (e : Element) (before : List Record) →
    refused_after limits before (element_record e) ≡ element_reason limits (seen before) (stepped (modal_of before) (element_record e)) (element_record e)
in_cell_as limits (Placement name x y turns flip) before = refl
in_cell_as limits e before = refl

refused_none : (limits : Limits) (e : Element) (before : List Record) → IsAbsolute before → is_in_cell before ≡ true → lacks_points e ≡ false → fits_grid e ≡ true →
    number_drawn before + 1 ≤ limits.elements → weight_so_far_of before + weight_of e ≤ limits.weight
    → refused_after limits before (element_record e) ≡ None
refused_none limits e before absolute opened points inside few light =
    let m : ModalState = modal_of before in
    let r : Record = element_record e in
    in_cell_as limits e before
    ∙ ap (λ (b : Bool). cond b (draw_reason limits (number_drawn before) (weight_so_far_of before) (stepped m r) r) (Some (OutOfPlace (id_of r)))) opened
    ∙ (of_element e).allowed limits (number_drawn before) (weight_so_far_of before) m absolute (record { drawn = (of_element e).drawn m absolute points; points = points; inside = inside; few = few; light = light })

-- ---- all records

-- the records are allowed, and this many elements are drawn, with that weight
pub record Goes (limits : Limits) (before : List Record) (count weight : ℕ) : Type 0 where
  pub allowed : stands.Allowed limits before
  pub count_is : number_drawn before ≡ count
  pub weight_is : weight_so_far_of before ≡ weight

-- one more element, in a cell
pub open_stays : (e : Element) (before : List Record) → is_in_cell (element_record e ∷ before) ≡ is_in_cell before
open_stays (Placement name x y turns flip) before = refl
open_stays e before = refl

weighs : (e : Element) (before : List Record) → weight_so_far_of (element_record e ∷ before) ≡ weight_so_far_of before + sum_by weight_so_far (elements_at (element_record e) before)
weighs (Placement name x y turns flip) before = refl
weighs e before = refl

element_goes : (limits : Limits) (e : Element) (before : List Record) (count weight : ℕ) → Goes limits before count weight → IsAbsolute before → is_in_cell before ≡ true →
    lacks_points e ≡ false → fits_grid e ≡ true → count + 1 ≤ limits.elements → weight + weight_of e ≤ limits.weight
    → Goes limits (element_record e ∷ before) (count + 1) (weight + weight_of e)
element_goes limits e before count weight g absolute opened points inside few light =
    let drawn = draws e before absolute points in
    record {
      allowed = (g.allowed, refused_none limits e before absolute opened points inside (omega (arith, g.count_is, few)) (omega (arith, g.weight_is, light)));
      count_is = omega (arith, g.count_is, ap (λ (ds : List Drawn). length ds) drawn);
      weight_is = omega (arith, weighs e before, g.weight_is, ap (λ (ds : List Drawn). sum_by weight_so_far ds) drawn);
    }

pub elements_go : (limits : Limits) (es : List Element) (before : List Record) (count weight : ℕ) → Goes limits before count weight → IsAbsolute before → is_in_cell before ≡ true →
    AllByRecursion (λ e. lacks_points e ≡ false) es → AllByRecursion (λ e. fits_grid e ≡ true) es → count + length es ≤ limits.elements → weight + sum_by weight_of es ≤ limits.weight
    → Goes limits (onto (map element_record es) before) (count + length es) (weight + sum_by weight_of es)
elements_go limits [] before count weight g absolute opened points inside few light = record { allowed = g.allowed; count_is = omega (arith, g.count_is); weight_is = omega (arith, g.weight_is) }
elements_go limits (e ∷ es) before count weight g absolute opened points inside few light =
    let sum = sum_by-cons weight_of e es in
    let one = element_goes limits e before count weight g absolute opened points.0 inside.0 (omega (arith, few)) (omega (arith, light, sum)) in
    let all = elements_go limits es (element_record e ∷ before) (count + 1) (weight + weight_of e) one (absolute_element e before ∙ absolute)
    (open_stays e before ∙ opened) points.1 inside.1 (omega (arith, few)) (omega (arith, light, sum)) in
    record { allowed = all.allowed; count_is = omega (arith, all.count_is); weight_is = omega (arith, all.weight_is, sum) }

-- one more CELL
cell_goes : (limits : Limits) (name : List ℕ) (before : List Record) (count weight : ℕ) → Goes limits before count weight → weight + (1 + length name) ≤ limits.weight →
    Goes limits (record_of.Cell (cell.Name name) ∷ before) count (weight + (1 + length name))
cell_goes limits name before count weight g light =
    let heavy : nat_lt limits.weight (weight_so_far_of before + (1 + length name)) ≡ false = le-ltb limits.weight (weight_so_far_of before + (1 + length name)) (omega (arith, g.weight_is, light)) in
    record {
      allowed = (g.allowed, ap (λ (b : Bool). first_of ((b, TooHeavy) ∷ [])) heavy);
      count_is = omega (arith, g.count_is);
      weight_is = omega (arith, g.weight_is);
    }

cells_go : (limits : Limits) (cs : Cells) (before : List Record) (count weight : ℕ) → Goes limits before count weight → HavePoints cs → FitGrid cs →
    count + element_count cs ≤ limits.elements → weight + cells_weight cs ≤ limits.weight
    → stands.Allowed limits (onto (records_of cs) before)
cells_go limits [] before count weight g points inside few light = g.allowed
cells_go limits (c ∷ cs) before count weight g points inside few light =
    let opened : List Record = record_of.Cell (cell.Name c.0) ∷ before in
    let begun = cell_goes limits c.0 before count weight g (omega (arith, light)) in
    let filled = elements_go limits c.1 opened count (weight + (1 + length c.0)) begun refl refl points.0 inside.0 (omega (arith, few)) (omega (arith, light)) in
    subst (stands.Allowed limits) (sym (onto-append (map element_record c.1) (records_of cs) opened))
    (cells_go limits cs (onto (map element_record c.1) opened) (count + length c.1) (weight + (1 + length c.0) + sum_by weight_of c.1) filled points.1 inside.1 (omega (arith, few))
    (omega (arith, light)))

pub canonical_allowed : CanonicalAllowed
canonical_allowed limits cs points inside few light =
    subst (stands.Allowed limits) (sym (reverse-is (records_of cs)))
    (cells_go limits cs [] 0 0 (record { allowed = tt; count_is = refl; weight_is = refl }) points inside (omega (arith, few)) (omega (arith, light)))

-- ---- END

-- names that ascend are distinct
pub distinct_names : (names : List (List ℕ)) → IsStrictlySortedBy (slice_cmp nat_cmp) names → has_twice names ≡ false
distinct_names [] s = refl
distinct_names (x ∷ xs) s =
    ap (λ (b : Bool). b || has_twice xs) (apart xs (sorted_head (slice_cmp nat_cmp) x xs s)) ∙ distinct_names xs (sorted_tail (slice_cmp nat_cmp) x xs s) where
      apart : (ys : List (List ℕ)) → AllByRecursion (λ y. slice_cmp nat_cmp x y ≡ Less) ys → list_any (same_string x) ys ≡ false
      apart [] h = refl
      apart (y ∷ ys) h = ap (λ (b : Bool). b || list_any (same_string x) ys) (texts_ties x y ∙ ap is_eq h.0) ∙ apart ys h.1

-- no number is used
module _ (names strings : List (ℕ × List ℕ)) where
  none_unnamed : (es : List Element) → list_any (is_unnamed names strings) (map Named es) ≡ false
  none_unnamed [] = refl
  none_unnamed (e ∷ es) = none_unnamed es

  none_lacks : (cs : Cells) → lacks_name names strings (map drawn_cell cs) ≡ false
  none_lacks [] = refl
  none_lacks (c ∷ cs) = (λ i. none_unnamed c.1 i || lacks_name names strings (map drawn_cell cs)) ∙ none_lacks cs

  ends : (limits : Limits) (cs : Cells) → has_twice (keys_of cs) ≡ false → cells_weight cs ≤ limits.weight → end_reason names strings limits (map drawn_cell cs) ≡ None
  ends limits cs distinct light =
      (λ i. first_of ((none_lacks cs i, UnknownReference) ∷ (has_twice (keys_of (cells_named names strings cs i)), DuplicateCell) ∷
      (nat_lt limits.weight (cells_weight (cells_named names strings cs i)), TooHeavy) ∷ []))
      ∙ (λ i. first_of ((false, UnknownReference) ∷ (distinct i, DuplicateCell) ∷ (le-ltb limits.weight (cells_weight cs) light i, TooHeavy) ∷ []))

pub canonical_whole : CanonicalWhole
canonical_whole limits cs points distinct light =
    let names : List (ℕ × List ℕ) = named cell_names (reverse (records_of cs)) in
    let strings : List (ℕ × List ℕ) = named text_strings (reverse (records_of cs)) in
    ap (end_reason names strings limits) (drawn_again cs points) ∙ ends names strings limits cs distinct light

pub ascending_whole : AscendingWhole
ascending_whole limits cs points ascending light = canonical_whole limits cs points (distinct_names (keys_of cs) ascending) light
