-- What an allowed record draws is sound.
use Rattle.std.proofs.Common.{◌≡◌, ℕ, ◌+◌, ◌*◌, ◌≤◌, Bool, true, false, cond, ◌&&◌, List, [], ◌∷◌, ◌++◌, length, Option, None, Some, refl, sym, ap, subst, ◌∙◌, arith, length-append}
use Rattle.std.proofs.lemmas.Nat.{mul-le}
use Rattle.std.proofs.lemmas.List.FromFn.{length-map-range_with_len}
use Rattle.std.specs.Prelude.{IfSome, not}
use Rattle.std.specs.Option.{option_or, option_to_list}
use Rattle.std.specs.List.{AllByRecursion, list_all}
use Rattle.oas_num.specs.declared.refusals.Why.{Why}
use Rattle.oas_num.specs.declared.refusals.Why.TheVariants.{OutOfPlace, CoordinateRange}
use Rattle.oas_num.specs.declared.deltas.GDelta.{GDelta}
use Rattle.oas_shape.specs.Steps.{still}
use Rattle.oas_record.specs.declared.records.Record.{Record}
use Rattle.oas_record.specs.declared.records.Record.TheVariants as record_of
use Rattle.oas_record.specs.declared.references.CellRef.TheVariants as cell
use Rattle.oas_record.specs.declared.references.TextRef.TheVariants as text
use Rattle.oas_record.specs.Records.{id_of}
use Rattle.oas_elements.specs.declared.element.Element.TheVariants as element
use Rattle.oas_elements.specs.declared.limits.Limits.{Limits}
use Rattle.oas_file.specs.Drawn.{Drawn}
use Rattle.oas_file.specs.Drawn.TheVariants.{Named, PlacementBy, TextBy}
use Rattle.oas_file.specs.Kind.{Kind}
use Rattle.oas_file.specs.Modal.{ModalState, modal_of, stepped}
use Rattle.oas_file.specs.Drawing.{kind_of, repeats, place_of, point_from, drawn_by, drawn_if, drawn_at, offset_if, number_if, offsets_of, copies_at, elements_at}
use Rattle.oas_file.specs.DrawingDrawn.{weight_so_far}
use Rattle.oas_file.specs.Reasons.{first_of, weight_if, lacks_if, fits_if, kind_reason, all_fit, reason_if, draw_reason}
use Rattle.oas_file.proofs.Steps.{modal_step}
use Rattle.oas_file.specs.Names.{cell_names, text_strings, same_string, name_reason}
use Rattle.oas_file.specs.Finish.{IsFit}
use Rattle.oas_file.specs.Standing.{element_reason}
use Rattle.oas_file.specs.Stands as stands
use Rattle.oas_file.specs.Stands.{is_in_cell, number_drawn, weight_so_far_of, seen, refused_after}
use Rattle.oas_file.proofs.DrawLemmas.{is_element, is_passed}
use Rattle.oas_file.proofs.AllKinds.{drawn_alike}
use Rattle.oas_file.proofs.TakeLemmas.{all_append}
use Rattle.oas_form.proofs.FieldsGiven.{GivenFieldsFit}
use Rattle.oas_form.proofs.DrawnFits.{DrawnFits}
use Rattle.oas_form.proofs.AllKinds.{kind_fits}

-- ---- what an allowed record draws

-- it has its points, is within the grid, and its fields fit
pub record IsSoundDrawn (d : Drawn) : Type 0 where
  pub fit : IsFit d
  pub fields : DrawnFits d

fit_when : (b : Bool) → first_of ((not b, CoordinateRange) ∷ []) ≡ None → b ≡ true
fit_when true h = refl
fit_when false h = cc

passed_both : (o : Option Why) (b : Bool) → option_or o (first_of ((not b, CoordinateRange) ∷ [])) ≡ None → (o ≡ None) × (b ≡ true)
passed_both None b h = (refl, fit_when b h)
passed_both (Some w) b h = cc

both : (a b : Bool) → (a && b) ≡ true → (a ≡ true) × (b ≡ true)
both true b h = (refl, h)
both false b h = cc

one_sound : (o : Option Drawn) → fits_if o ≡ true → lacks_if o ≡ false → IfSome o DrawnFits → AllByRecursion IsSoundDrawn (option_to_list o)
one_sound None f l h = tt
one_sound (Some (Named e)) f l h = (record { fit = record { points = l; inside = f }; fields = h }, tt)
one_sound (Some (PlacementBy number x y turns flip)) f l h = (record { fit = record { points = refl; inside = f }; fields = h }, tt)
one_sound (Some (TextBy number textlayer texttype x y)) f l h = (record { fit = record { points = refl; inside = f }; fields = h }, tt)

-- the copies at offsets where all fit
copies_sound : (m : ModalState) (r : Record) (kind : Kind) → kind_of r ≡ Some kind → lacks_if (drawn_by m kind still) ≡ false → ((d : GDelta) → IfSome (drawn_by m kind d) DrawnFits) →
    (ds : List GDelta) → list_all (λ d. fits_if (drawn_by m kind d)) ds ≡ true → AllByRecursion IsSoundDrawn (copies_at m r ds)
copies_sound m r kind e points fields [] h = tt
copies_sound m r kind e points fields (d ∷ ds) h =
    let b = both (fits_if (drawn_by m kind d)) (list_all (λ d. fits_if (drawn_by m kind d)) ds) h in
    all_append IsSoundDrawn (option_to_list (drawn_at m r d)) (copies_at m r ds)
    (subst (λ (k : Option Kind). AllByRecursion IsSoundDrawn (option_to_list (drawn_if m k d))) (sym e) (one_sound (drawn_by m kind d) b.0 ((drawn_alike m kind d still).1 ∙ points) (fields d)))
    (copies_sound m r kind e points fields ds b.1)

copies_number : (m : ModalState) (r : Record) (ds : List GDelta) → length (copies_at m r ds) ≤ length ds
copies_number m r [] = omega arith
copies_number m r (d ∷ ds) = omega (arith, length-append (option_to_list (drawn_at m r d)) (copies_at m r ds), one (drawn_at m r d), copies_number m r ds) where
  one : (o : Option Drawn) → length (option_to_list o) ≤ 1
  one None = omega arith
  one (Some d) = omega arith

-- each has the same weight
copies_weight : (m : ModalState) (r : Record) (kind : Kind) → kind_of r ≡ Some kind → (ds : List GDelta) → AllByRecursion (λ x. weight_so_far x ≤ weight_if (drawn_by m kind still)) (copies_at m r ds)
copies_weight m r kind e [] = tt
copies_weight m r kind e (d ∷ ds) =
    all_append (λ (x : Drawn). weight_so_far x ≤ weight_if (drawn_by m kind still)) (option_to_list (drawn_at m r d)) (copies_at m r ds)
    (subst (λ (k : Option Kind). AllByRecursion (λ x. weight_so_far x ≤ weight_if (drawn_by m kind still)) (option_to_list (drawn_if m k d))) (sym e)
    (one (drawn_by m kind d) (drawn_alike m kind d still).0)) (copies_weight m r kind e ds) where
      one : (o : Option Drawn) → weight_if o ≡ weight_if (drawn_by m kind still) → AllByRecursion (λ x. weight_so_far x ≤ weight_if (drawn_by m kind still)) (option_to_list o)
      one None h = tt
      one (Some x) h = (omega (arith, h), tt)

-- one of several weighs no more than all
one_of_many : (n w all : ℕ) → 1 ≤ n → n * w ≤ all → w ≤ all
one_of_many n w all some h = let more : 1 * w ≤ n * w = mul-le 1 w n w some (omega arith) in omega (arith, more, h)

-- a record without a kind draws nothing
none_drawn : (m : ModalState) (r : Record) → kind_of r ≡ None → (ds : List GDelta) → copies_at m r ds ≡ []
none_drawn m r e [] = refl
none_drawn m r e (d ∷ ds) = (λ i. option_to_list (drawn_if m (e i) d) ++ none_drawn m r e ds i)

-- sound, and within the limits
pub record DrawsSound (limits : Limits) (r : Record) (before : List Record) : Type 0 where
  pub sound : AllByRecursion IsSoundDrawn (elements_at r before)
  pub few : number_drawn before + length (elements_at r before) ≤ limits.elements
  pub light : (d : Drawn) → elements_at r before ≡ d ∷ [] → weight_so_far d ≤ limits.weight

in_cell : (b : Bool) (o : Option Why) (w : Why) → cond b o (Some w) ≡ None → o ≡ None
in_cell true o w h = h
in_cell false o w h = cc

pub draws_sound : (limits : Limits) (r : Record) (before : List Record) → AllByRecursion GivenFieldsFit (r ∷ before) → number_drawn before ≤ limits.elements →
    refused_after limits before r ≡ None → DrawsSound limits r before
draws_sound limits r before given few h = by (kind_of r) refl where
  by : (k : Option Kind) → kind_of r ≡ k → DrawsSound limits r before
  by None e =
      let none : elements_at r before ≡ [] = none_drawn (modal_of (r ∷ before)) r e (offsets_of (modal_of (r ∷ before)) r) in
      record { sound = subst (AllByRecursion IsSoundDrawn) (sym none) tt; few = omega (arith, few, ap length none); light = λ d one. let no : ⊥ = cc (none, one) in absurd no }
  by (Some kind) e =
      let v : ModalState = modal_of (r ∷ before) in
      let step : v ≡ stepped (modal_of before) r = modal_step before r in
      let judged : element_reason limits (seen before) (stepped (modal_of before) r) r ≡ None = sym
      ((is_element r kind e).judged limits (name_reason same_string cell_names before) (name_reason same_string text_strings before) (seen before)) ∙ h in
      let drawn : draw_reason limits (number_drawn before) (weight_so_far_of before) (stepped (modal_of before) r) r ≡ None = in_cell (is_in_cell before) _ (OutOfPlace (id_of r)) judged in
      let now : reason_if limits (number_drawn before) (weight_so_far_of before) v (Some kind) (repeats r) ≡ None =
      (λ i. reason_if limits (number_drawn before) (weight_so_far_of before) (step i) (sym e i) (repeats r)) ∙ drawn in
      let parts = passed_both (kind_reason limits (number_drawn before) (weight_so_far_of before) v kind (repeats r)) (all_fit v kind (repeats r)) now in
      let number = copies_number v r (offsets_of v r) in
      let long = length-map-range_with_len (offset_if (repeats r) v.repetition) 0 (number_if (repeats r) v.repetition) in
      let p = is_passed limits (number_drawn before) (weight_so_far_of before) v kind (repeats r) parts.0 in
      record {
        sound = copies_sound v r kind e p.points (λ d. kind_fits (r ∷ before) given kind (point_from (place_of v kind) d)) (offsets_of v r) parts.1;
        few = omega (arith, p.few, number, long);
        light = λ d one.
            let weights = subst (AllByRecursion (λ x. weight_so_far x ≤ weight_if (drawn_by v kind still))) one (copies_weight v r kind e (offsets_of v r)) in
            let all : weight_if (drawn_by v kind still) ≤ limits.weight =
            one_of_many (number_if (repeats r) v.repetition) (weight_if (drawn_by v kind still)) limits.weight (omega (arith, number, long, ap length one)) (omega (arith, p.light)) in
            omega (arith, weights.0, all);
      }
