-- an element record that is drawn
use Rattle.std.proofs.Common.{◌≡◌, ℕ, zero, suc, ◌+◌, ◌*◌, ◌<◌, ◌≤◌, List, length, refl, sym, ap, ◌∙◌, subst, arith, Bool, true, false, length-append}
use Rattle.std.proofs.lemmas.Bool.Decides.{nat_tests}
use Rattle.std.proofs.lemmas.List.Sums.{sum_by-append}
use Rattle.std.specs.Prelude.{Option, None, Some, is_none, nat_lt, not, cond, sum_by}
use Rattle.std.specs.Option.{option_to_list}
use Rattle.std.specs.List.{AllByRecursion}
use Rattle.oas_num.specs.declared.refusals.Why.{Why}
use Rattle.oas_num.specs.declared.refusals.Why.TheVariants.{ModalUndefined, Magnification, Angle, TooManyElements, TooHeavy, PointCount, CoordinateRange}
use Rattle.oas_shape.specs.Steps.{still}
use Rattle.oas_record.specs.declared.records.Record.{Record}
use Rattle.oas_record.specs.declared.records.Record.TheVariants as record_of
use Rattle.oas_elements.specs.declared.limits.Limits.{Limits}
use Rattle.oas_drawing.specs.declared.drawn.Drawn.{Drawn}
use Rattle.oas_drawing.specs.declared.drawn.Drawn.TheVariants.{Named, PlacementBy, TextBy}
use Rattle.oas_drawing.specs.declared.kinds.Kind.{Kind}
use Rattle.oas_drawing.specs.Positions.{IsNear}
use Rattle.oas_drawing.specs.declared.positions.Position.{Position}
use Rattle.oas_drawing.specs.Modal.{ModalState, stepped}
use Rattle.oas_reader.specs.Names.{cell_names, text_strings}
use Rattle.oas_drawing.specs.Drawn.{weight_so_far, drawn_fits}
use Rattle.oas_drawing.specs.Drawing.{kind_of, drawn_by, place_of, offset_if, number_if, lacks_repetition}
use Rattle.oas_drawing.specs.Reasons.{is_magnified, is_askew, weight_if, lacks_if, fits_if, fault_of, kind_reason}
use Rattle.oas_reader.specs.Finish.{IsFit}
use Rattle.oas_reader.specs.Meaning.{DrawnCell, in_last}
use Rattle.oas_reader.specs.Standing.{Standing, drawn_of, weight_with, open_after, element_reason, reason, drawn_after}
use Rattle.oas_reader.specs.Copying.{first_copies}
use Rattle.oas_reader.proofs.CopyLemmas.{next_copy}
use Rattle.oas_drawing.proofs.AllKinds.{drawn_alike, drawn_defined}
use Rattle.oas_reader.proofs.TakeLemmas.{all_append}

-- ---- what all element records have in common

pub record IsElement (r : Record) : Type 0 where
  pub judged : (limits : Limits) (names strings : Record → Option Why) (s : Standing) → reason limits names strings s r ≡ element_reason limits s (stepped s.modal r) r
  pub draws : (ds : List DrawnCell) (m : ModalState) → drawn_after ds m r ≡ in_last (drawn_of m r) ds
  pub inside : (b : Bool) → open_after b r ≡ b
  pub weighs : (ds : List Drawn) → weight_with r ds ≡ sum_by weight_so_far ds
  pub no_name : cell_names r ≡ None
  pub no_string : text_strings r ≡ None

pub is_element : (r : Record) (kind : Kind) → kind_of r ≡ Some kind → IsElement r
is_element record_of.Pad kind e = cc
is_element record_of.End kind e = cc
is_element (record_of.CellName name number) kind e = cc
is_element (record_of.TextString label number) kind e = cc
is_element (record_of.Cell c) kind e = cc
is_element record_of.XyAbsolute kind e = cc
is_element record_of.XyRelative kind e = cc
is_element _ kind e = record { judged = λ l n t s. refl; draws = λ ds m. refl; inside = λ b. refl; weighs = λ ds. refl; no_name = refl; no_string = refl }

-- an element without a fault is within the grid
no_fault : (o : Option Drawn) → fault_of o ≡ None → fits_if o ≡ true
no_fault None h = cc
no_fault (Some d) h = fits (drawn_fits d) h where
  fits : (b : Bool) → cond (not b) (Some CoordinateRange) None ≡ None → b ≡ true
  fits true h = refl
  fits false h = cc

abbrev place_if : ModalState → Option Kind → Position
place_if m None = m.geometry
place_if m (Some kind) = place_of m kind

-- the positions after it
abbrev pub AllNear : ModalState → Type 0
AllNear m = IsNear m.placement × IsNear m.text × IsNear m.geometry

near_case : (m : ModalState) (r : Record) (kind : Kind) → kind_of r ≡ Some kind → AllNear m → IsNear (place_if (stepped m r) (kind_of r)) → AllNear (stepped m r)
near_case m (record_of.Placement p) kind e n h = (h, n.1, n.2)
near_case m (record_of.Text p) kind e n h = (n.0, h, n.2)
near_case m record_of.Pad kind e n h = cc
near_case m record_of.End kind e n h = cc
near_case m (record_of.CellName name number) kind e n h = cc
near_case m (record_of.TextString label number) kind e n h = cc
near_case m (record_of.Cell c) kind e n h = cc
near_case m record_of.XyAbsolute kind e n h = cc
near_case m record_of.XyRelative kind e n h = cc
near_case m _ kind e n h = (n.0, n.1, h)

pub near_after : (m m' : ModalState) (r : Record) (kind : Kind) → kind_of r ≡ Some kind → m' ≡ stepped m r → AllNear m → IsNear (place_of m' kind) → AllNear m'
near_after m m' r kind e is n h =
    subst AllNear (sym is) (near_case m r kind e n (subst (λ (k : Option Kind). IsNear (place_if (stepped m r) k)) (sym e) (subst (λ (v : ModalState). IsNear (place_of v kind)) is h)))

-- ---- what holds for an element record that isn't refused

passed : (b : Bool) (w : Why) (o : Option Why) → cond b (Some w) o ≡ None → (b ≡ false) × (o ≡ None)
passed false w o h = (refl, h)
passed true w o h = cc

not_less : (a b : ℕ) → nat_lt a b ≡ false → b ≤ a
not_less a b h = grind (arith, nat_tests)

pub record IsSkipped (limits : Limits) (count weight : ℕ) (m : ModalState) (kind : Kind) (repeated : Bool) : Type 0 where
  pub there : is_none (drawn_by m kind still) ≡ false
  pub few : count + number_if repeated m.repetition ≤ limits.elements
  pub light : weight + number_if repeated m.repetition * weight_if (drawn_by m kind still) ≤ limits.weight
  pub points : lacks_if (drawn_by m kind still) ≡ false

pub is_passed : (limits : Limits) (count weight : ℕ) (m : ModalState) (kind : Kind) (repeated : Bool) → kind_reason limits count weight m kind repeated ≡ None
    → IsSkipped limits count weight m kind repeated
is_passed limits count weight m kind repeated h =
    let a = passed (is_none (drawn_by m kind still)) ModalUndefined _ h in
    let b = passed (lacks_repetition repeated m.repetition) ModalUndefined _ a.1 in
    let c = passed (is_magnified kind) Magnification _ b.1 in
    let d = passed (is_askew kind) Angle _ c.1 in
    let e = passed (nat_lt limits.elements (count + number_if repeated m.repetition)) TooManyElements _ d.1 in
    let f = passed (nat_lt limits.weight (weight + number_if repeated m.repetition * weight_if (drawn_by m kind still))) TooHeavy _ e.1 in
    let g = passed (lacks_if (drawn_by m kind still)) PointCount _ f.1 in
    record { there = a.0; few = not_less _ _ e.0; light = not_less _ _ f.0; points = g.0 }

one_of : (o : Option Drawn) → is_none o ≡ false → length (option_to_list o) ≡ 1
one_of None h = cc
one_of (Some d) h = refl

weight_of_one : (o : Option Drawn) → sum_by weight_so_far (option_to_list o) ≡ weight_if o
weight_of_one None = refl
weight_of_one (Some d) = omega arith

on : (n : ℕ) → suc n ≡ n + 1
on n = omega arith

module _ (m : ModalState) (kind : Kind) (repeated : Bool) where
  pub copy_number : is_none (drawn_by m kind still) ≡ false → (n : ℕ) → length (first_copies m kind repeated n) ≡ n
  copy_number there zero = refl
  copy_number there (suc n) =
      omega (
        arith,
        ap (λ (k : ℕ). length (first_copies m kind repeated k)) (on n),
        ap length (next_copy m kind repeated n),
        length-append (first_copies m kind repeated n) (option_to_list (drawn_by m kind (offset_if repeated m.repetition n))),
        one_of (drawn_by m kind (offset_if repeated m.repetition n)) (drawn_defined m kind (offset_if repeated m.repetition n) still ∙ there),
        copy_number there n,
      )

  pub copy_weight : (n : ℕ) → sum_by weight_so_far (first_copies m kind repeated n) ≡ n * weight_if (drawn_by m kind still)
  copy_weight zero = omega arith
  copy_weight (suc n) =
      omega (
        arith,
        ap (λ (k : ℕ). sum_by weight_so_far (first_copies m kind repeated k)) (on n),
        ap (sum_by weight_so_far) (next_copy m kind repeated n),
        sum_by-append weight_so_far (first_copies m kind repeated n) (option_to_list (drawn_by m kind (offset_if repeated m.repetition n))),
        weight_of_one (drawn_by m kind (offset_if repeated m.repetition n)),
        (drawn_alike m kind (offset_if repeated m.repetition n) still).0,
        copy_weight n,
      )

  fit_one : (o : Option Drawn) → fault_of o ≡ None → lacks_if o ≡ false → AllByRecursion IsFit (option_to_list o)
  fit_one None h l = cc
  fit_one (Some (Named e)) h l = (record { points = l; inside = no_fault (Some (Named e)) h }, tt)
  fit_one (Some (PlacementBy number x y turns flip)) h l = (record { points = refl; inside = no_fault (Some (PlacementBy number x y turns flip)) h }, tt)
  fit_one (Some (TextBy number textlayer texttype x y)) h l = (record { points = refl; inside = no_fault (Some (TextBy number textlayer texttype x y)) h }, tt)

  fit_copies : lacks_if (drawn_by m kind still) ≡ false → (n : ℕ) → ((i : ℕ) → i < n → fault_of (drawn_by m kind (offset_if repeated m.repetition i)) ≡ None)
      → AllByRecursion IsFit (first_copies m kind repeated n)
  fit_copies points zero h = tt
  fit_copies points (suc n) h =
      subst (λ (k : ℕ). AllByRecursion IsFit (first_copies m kind repeated k)) (sym (on n)) (
      subst (AllByRecursion IsFit) (sym (next_copy m kind repeated n)) (
      all_append IsFit (first_copies m kind repeated n) (option_to_list (drawn_by m kind (offset_if repeated m.repetition n))) (fit_copies points n (λ i lt. h i (omega arith)))
      (fit_one (drawn_by m kind (offset_if repeated m.repetition n)) (h n (omega arith)) ((drawn_alike m kind (offset_if repeated m.repetition n) still).1 ∙ points))))

-- a copy that is drawn is within the grid and has its points
pub copy_fit : (m : ModalState) (kind : Kind) (repeated : Bool) (i : ℕ) (d : Drawn) → drawn_by m kind (offset_if repeated m.repetition i) ≡ Some d
    → fault_of (drawn_by m kind (offset_if repeated m.repetition i)) ≡ None → lacks_if (drawn_by m kind still) ≡ false → IsFit d
copy_fit m kind repeated i d is fits points =
    (subst (λ (o : Option Drawn). AllByRecursion IsFit (option_to_list o)) is
    (fit_one m kind repeated (drawn_by m kind (offset_if repeated m.repetition i)) fits ((drawn_alike m kind (offset_if repeated m.repetition i) still).1 ∙ points))).0
