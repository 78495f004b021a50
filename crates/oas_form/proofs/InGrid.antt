-- The elements of canonical records that are accepted are within the grid.
use Rattle.std.proofs.Common.{◌≡◌, ℕ, Bool, true, false, List, [], ◌∷◌, ◌++◌, map, Option, None, Some, refl, sym, ap, subst, ◌∙◌}
use Rattle.std.specs.Prelude.{cond, not, ◌&&◌}
use Rattle.std.specs.List.{AllByRecursion}
use Rattle.std.specs.Option.{option_or, option_to_list}
use Rattle.oas_num.specs.declared.refusals.Why.{Why}
use Rattle.oas_num.specs.declared.refusals.Why.TheVariants.{CoordinateRange, OutOfPlace}
use Rattle.oas_shape.specs.Steps.{still}
use Rattle.oas_record.specs.declared.records.Record.{Record}
use Rattle.oas_record.specs.declared.records.Record.TheVariants as record_of
use Rattle.oas_record.specs.declared.references.CellRef.TheVariants as cell
use Rattle.oas_record.specs.declared.placements.Turn.TheVariants.{Quarters}
use Rattle.oas_record.specs.Records.{id_of}
use Rattle.oas_elements.specs.declared.element.Element.{Element}
use Rattle.oas_elements.specs.declared.limits.Limits.{Limits}
use Rattle.oas_elements.specs.Element.{turn_count}
use Rattle.oas_elements.specs.Grid.{fits_grid}
use Rattle.oas_elements.specs.Weight.{lacks_points}
use Rattle.oas_file.specs.Drawn.{Drawn}
use Rattle.oas_file.specs.Drawn.TheVariants.{Named}
use Rattle.oas_file.specs.Kind.{Kind}
use Rattle.oas_file.specs.Kind.TheVariants as kind
use Rattle.oas_file.specs.Modal.{ModalState, modal_of, stepped}
use Rattle.oas_file.specs.Drawing.{kind_of, repeats, drawn_if, drawn_by, copies_at, offsets_if, elements_at}
use Rattle.oas_file.specs.Reasons.{first_of, fits_if, all_fit, kind_reason, reason_if, draw_reason}
use Rattle.oas_file.proofs.Steps.{modal_step}
use Rattle.oas_file.specs.Standing.{element_reason}
use Rattle.oas_file.specs.Stands as stands
use Rattle.oas_file.specs.Stands.{seen, refused_after}
use Rattle.oas_file.specs.Acceptance.{Allowed}
use Rattle.oas_form.specs.Records.{Cells, element_record, records_of}
use Rattle.oas_form.specs.RecordMeaning.{HavePoints, FitGrid}
use Rattle.oas_form.proofs.AllKinds.{of_element}
use Rattle.oas_form.proofs.AllowedLemmas.{in_cell_as}
use Rattle.oas_form.proofs.MeantLemmas.{onto, onto-append, reverse-is, IsAbsolute, draws, absolute_element}

-- ---- one record

-- the element that is drawn alone
drawn_alone : (o : Option Drawn) (d : Drawn) → option_to_list o ++ [] ≡ d ∷ [] → o ≡ Some d
drawn_alone None d h = cc
drawn_alone (Some e) d h = cc

-- no reason is left at the end
last_none : (o : Option Why) (b : Bool) → option_or o (first_of ((not b, CoordinateRange) ∷ [])) ≡ None → b ≡ true
last_none None true h = refl
last_none None false h = cc
last_none (Some why) b h = cc

open_cell : (b : Bool) (o : Option Why) (why : Why) → cond b o (Some why) ≡ None → o ≡ None
open_cell true o why h = h
open_cell false o why h = cc

left_true : (a : Bool) → (a && true) ≡ true → a ≡ true
left_true true h = refl
left_true false h = cc

-- a record without a repetition that is not refused and draws one element
within : (limits : Limits) (count weight : ℕ) (m : ModalState) (r : Record) (k : Kind) (e : Element) → kind_of r ≡ Some k → repeats r ≡ false →
    copies_at m r (offsets_if (repeats r) m.repetition) ≡ Named e ∷ [] → draw_reason limits count weight m r ≡ None → fits_grid e ≡ true
within limits count weight m r k e is once draws none =
    let copies : option_to_list (drawn_by m k still) ++ [] ≡ Named e ∷ [] =
    (λ i. sym (ap (λ (b : Bool). copies_at m r (offsets_if b m.repetition)) once ∙ ap (λ (o : Option Kind). option_to_list (drawn_if m o still) ++ []) is) i) ∙ draws in
    let drawn : drawn_by m k still ≡ Some (Named e) = drawn_alone (drawn_by m k still) (Named e) copies in
    let reason : option_or (kind_reason limits count weight m k false) (first_of ((not (all_fit m k false), CoordinateRange) ∷ [])) ≡ None =
    sym (ap (λ (b : Bool). reason_if limits count weight m (kind_of r) b) once ∙ ap (λ (o : Option Kind). reason_if limits count weight m o false) is) ∙ none in
    let fits : fits_if (drawn_by m k still) ≡ true = left_true (fits_if (drawn_by m k still)) (last_none (kind_reason limits count weight m k false) (all_fit m k false) reason) in
    ap fits_if (sym drawn) ∙ fits

-- so after any records
within_after : (limits : Limits) (before : List Record) (r : Record) (k : Kind) (e : Element) → kind_of r ≡ Some k → repeats r ≡ false → elements_at r before ≡ Named e ∷ [] →
    element_reason limits (seen before) (stepped (modal_of before) r) r ≡ None → fits_grid e ≡ true
within_after limits before r k e is once draws none =
    let s = seen before in
    let reason : draw_reason limits s.count s.weight (stepped (modal_of before) r) r ≡ None = open_cell s.in_cell (draw_reason limits s.count s.weight (stepped (modal_of before) r) r)
    (OutOfPlace (id_of r)) none in
    within limits s.count s.weight (modal_of (r ∷ before)) r k e is once draws (ap (λ (m : ModalState). draw_reason limits s.count s.weight m r) (modal_step before r) ∙ reason)

-- an element
element_within : (limits : Limits) (e : Element) (before : List Record) → IsAbsolute before → lacks_points e ≡ false → refused_after limits before (element_record e) ≡ None → fits_grid e ≡ true
element_within limits e before absolute h none = let o = of_element e in within_after limits before (element_record e) o.kind e o.is o.once (draws e before absolute h) (sym (in_cell_as limits e before) ∙ none)

-- ---- all records

-- what is allowed as all records is allowed as the first
prefix_allowed : (limits : Limits) (rs before : List Record) → stands.Allowed limits (onto rs before) → stands.Allowed limits before
prefix_allowed limits [] before h = h
prefix_allowed limits (r ∷ rs) before h = (prefix_allowed limits rs (r ∷ before) h).0

elements_within : (limits : Limits) (es : List Element) (before : List Record) → IsAbsolute before → AllByRecursion (λ e. lacks_points e ≡ false) es →
    stands.Allowed limits (onto (map element_record es) before) → AllByRecursion (λ e. fits_grid e ≡ true) es
elements_within limits [] before absolute points h = tt
elements_within limits (e ∷ es) before absolute points h = (
  element_within limits e before absolute points.0 (prefix_allowed limits (map element_record es) (element_record e ∷ before) h).1,
  elements_within limits es (element_record e ∷ before)
      (absolute_element e before ∙ absolute) points.1 h,
)

cells_within : (limits : Limits) (cs : Cells) (before : List Record) → HavePoints cs → stands.Allowed limits (onto (records_of cs) before) → FitGrid cs
cells_within limits [] before points h = tt
cells_within limits (c ∷ cs) before points h =
    let opened : List Record = record_of.Cell (cell.Name c.0) ∷ before in
    let all : stands.Allowed limits (onto (records_of cs) (onto (map element_record c.1) opened)) = subst (stands.Allowed limits) (onto-append (map element_record c.1) (records_of cs) opened) h in (
      elements_within limits c.1 opened refl points.0 (prefix_allowed limits (records_of cs) (onto (map element_record c.1) opened) all),
      cells_within limits cs
          (onto (map element_record c.1) opened) points.1 all,
    )

pub allowed_fit : (limits : Limits) (cs : Cells) → HavePoints cs → Allowed limits (records_of cs) → FitGrid cs
allowed_fit limits cs points h = cells_within limits cs [] points (subst (stands.Allowed limits) (reverse-is (records_of cs)) h)
