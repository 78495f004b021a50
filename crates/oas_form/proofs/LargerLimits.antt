-- What is accepted under limits is accepted under larger ones.
use Rattle.std.proofs.Common.{◌≡◌, ℕ, ◌*◌, ◌+◌, ◌≤◌, Bool, true, false, cond, not, List, [], ◌∷◌, reverse, Option, None, Some, refl, arith}
use Rattle.std.specs.Prelude.{nat_lt, is_none}
use Rattle.std.specs.Map.{keys_of}
use Rattle.std.specs.Option.{option_or}
use Rattle.std.proofs.lemmas.Bool.Decides.{nat_tests}
use Rattle.oas_num.specs.declared.refusals.Why.{Why}
use Rattle.oas_num.specs.declared.refusals.Why.TheVariants.{UnknownReference, DuplicateCell, TooHeavy, OutOfPlace, ModalUndefined, Magnification, Angle, TooManyElements, PointCount, CoordinateRange}
use Rattle.oas_shape.specs.Steps.{still}
use Rattle.oas_record.specs.declared.records.Record.{Record}
use Rattle.oas_record.specs.declared.records.Record.TheVariants as record_of
use Rattle.oas_record.specs.Records.{id_of}
use Rattle.oas_elements.specs.declared.limits.Limits.{Limits}
use Rattle.oas_elements.specs.Meaning.{cells_weight}
use Rattle.oas_file.specs.Kind.{Kind}
use Rattle.oas_file.specs.Modal.{ModalState, stepped}
use Rattle.oas_file.specs.Drawing.{kind_of, repeats, place_of, drawn_by, number_if, lacks_repetition, elements_at}
use Rattle.oas_file.specs.Reasons.{first_of, is_magnified, is_askew, weight_if, lacks_if, is_on_grid, kind_reason, all_fit, reason_if, draw_reason}
use Rattle.oas_file.specs.Names.{cell_names, text_strings, named}
use Rattle.oas_file.specs.Meaning.{DrawnCell, cells_drawn, cells_by_name, lacks_name, has_twice, end_reason}
use Rattle.oas_file.specs.Standing.{Standing, cell_weight, element_reason}
use Rattle.oas_file.specs.Stands as stands
use Rattle.oas_file.specs.Stands.{weight_so_far_of, seen, refused_after}
use Rattle.oas_form.specs.Layouts.{LargerLimits}

-- ---- reasons, where one or two hold more rarely

-- by weight alone
lighter : (heavy less : Bool) → (heavy ≡ false → less ≡ false) → first_of ((heavy, TooHeavy) ∷ []) ≡ None → first_of ((less, TooHeavy) ∷ []) ≡ None
lighter true less step h = absurd cc
lighter false true step h = let never : true ≡ false = step refl in absurd cc
lighter false false step h = refl

-- those of END
abbrev end_reasons : Bool → Bool → Bool → Option Why
end_reasons lacks twice heavy = first_of ((lacks, UnknownReference) ∷ (twice, DuplicateCell) ∷ (heavy, TooHeavy) ∷ [])

end_lighter : (lacks twice heavy less : Bool) → (heavy ≡ false → less ≡ false) → end_reasons lacks twice heavy ≡ None → end_reasons lacks twice less ≡ None
end_lighter true twice heavy less step h = absurd cc
end_lighter false true heavy less step h = absurd cc
end_lighter false false heavy less step h = lighter heavy less step h

-- those of an element
abbrev kind_reasons : Bool → Bool → Bool → Bool → Bool → Bool → Bool → Bool → Option Why
kind_reasons undefined repeated magnified askew many heavy lacks off =
    first_of (
    (undefined, ModalUndefined) ∷
    (repeated, ModalUndefined) ∷
    (magnified, Magnification) ∷
    (askew, Angle) ∷
    (many, TooManyElements) ∷
    (heavy, TooHeavy) ∷
    (lacks, PointCount) ∷
    (off, CoordinateRange) ∷ [])

kind_lighter : (undefined repeated magnified askew many fewer heavy less lacks off : Bool) → (many ≡ false → fewer ≡ false) → (heavy ≡ false → less ≡ false)
    → kind_reasons undefined repeated magnified askew many heavy lacks off ≡ None → kind_reasons undefined repeated magnified askew fewer less lacks off ≡ None
kind_lighter true repeated magnified askew many fewer heavy less lacks off few light h = absurd cc
kind_lighter false true magnified askew many fewer heavy less lacks off few light h = absurd cc
kind_lighter false false true askew many fewer heavy less lacks off few light h = absurd cc
kind_lighter false false false true many fewer heavy less lacks off few light h = absurd cc
kind_lighter false false false false true fewer heavy less lacks off few light h = absurd cc
kind_lighter false false false false false true heavy less lacks off few light h = let never : true ≡ false = few refl in absurd cc
kind_lighter false false false false false false true less lacks off few light h = absurd cc
kind_lighter false false false false false false false true lacks off few light h = let never : true ≡ false = light refl in absurd cc
kind_lighter false false false false false false false false lacks off few light h = h

either : {A : Type 0} (a b c : Option A) → (a ≡ None → b ≡ None) → option_or a c ≡ None → option_or b c ≡ None
either None None c step h = h
either None (Some x) c step h = let never : Some x ≡ None = step refl in absurd cc
either (Some x) b c step h = absurd cc

inside : (b : Bool) (o p q : Option Why) → (o ≡ None → p ≡ None) → cond b o q ≡ None → cond b p q ≡ None
inside true o p q step h = step h
inside false o p q step h = h

fewer : (one other n : ℕ) → one ≤ other → nat_lt one n ≡ false → nat_lt other n ≡ false
fewer one other n more h = grind (arith, nat_tests)

module _ (one other : Limits) (elements : one.elements ≤ other.elements) (weight : one.weight ≤ other.weight) where
  -- ---- one record

  kind_allowed : (count heavy : ℕ) (m : ModalState) (kind : Kind) (repeated : Bool) → kind_reason one count heavy m kind repeated ≡ None → kind_reason other count heavy m kind repeated ≡ None
  kind_allowed count heavy m kind repeated =
      let d = drawn_by m kind still in
      let number = number_if repeated m.repetition in
      kind_lighter
      (is_none d)
      (lacks_repetition repeated m.repetition)
      (is_magnified kind)
      (is_askew kind)
      (nat_lt one.elements (count + number))
      (nat_lt other.elements (count + number))
      (nat_lt one.weight (heavy + number * weight_if d))
      (nat_lt other.weight (heavy + number * weight_if d))
      (lacks_if d)
      (not (is_on_grid (place_of m kind)))
      (fewer one.elements other.elements (count + number) elements)
      (fewer one.weight other.weight (heavy + number * weight_if d) weight)

  drawn_allowed : (count heavy : ℕ) (m : ModalState) (kind : Option Kind) (repeated : Bool) → reason_if one count heavy m kind repeated ≡ None → reason_if other count heavy m kind repeated ≡ None
  drawn_allowed count heavy m None repeated h = refl
  drawn_allowed count heavy m (Some kind) repeated h =
      either (kind_reason one count heavy m kind repeated) (kind_reason other count heavy m kind repeated) (first_of ((not (all_fit m kind repeated), CoordinateRange) ∷ []))
      (kind_allowed count heavy m kind repeated) h

  element_allowed : (s : Standing) (m : ModalState) (r : Record) → element_reason one s m r ≡ None → element_reason other s m r ≡ None
  element_allowed s m r h =
      inside s.in_cell (draw_reason one s.count s.weight m r) (draw_reason other s.count s.weight m r) (Some (OutOfPlace (id_of r))) (drawn_allowed s.count s.weight m (kind_of r) (repeats r)) h

  record_allowed : (before : List Record) (r : Record) → refused_after one before r ≡ None → refused_after other before r ≡ None
  record_allowed before record_of.Pad h = refl
  record_allowed before record_of.End h = absurd cc
  record_allowed before (record_of.CellName name number) h = h
  record_allowed before (record_of.TextString label number) h = h
  record_allowed before (record_of.Cell c) h =
      let heavy = weight_so_far_of before + cell_weight c in
      lighter (nat_lt one.weight heavy) (nat_lt other.weight heavy) (fewer one.weight other.weight heavy weight) h
  record_allowed before record_of.XyAbsolute h = refl
  record_allowed before record_of.XyRelative h = refl
  record_allowed before r h = element_allowed (seen before) (stepped (seen before).modal r) r h

  -- ---- all records, and END

  all_allowed : (rs : List Record) → stands.Allowed one rs → stands.Allowed other rs
  all_allowed [] h = tt
  all_allowed (r ∷ before) h = (all_allowed before h.0, record_allowed before r h.1)

  end_allowed : (names strings : List (ℕ × List ℕ)) (cs : List DrawnCell) → end_reason names strings one cs ≡ None → end_reason names strings other cs ≡ None
  end_allowed names strings cs =
      let meant = cells_by_name names strings cs in
      let heavy = cells_weight meant in
      end_lighter (lacks_name names strings cs) (has_twice (keys_of meant)) (nat_lt one.weight heavy) (nat_lt other.weight heavy) (fewer one.weight other.weight heavy weight)

pub larger_limits : LargerLimits
larger_limits one other b elements weight h =
    record {
      head = h.head;
      records = h.records;
      file = h.file;
      allowed = all_allowed one other elements weight (reverse h.records) h.allowed;
      whole = end_allowed one other elements weight (named cell_names (reverse h.records)) (named text_strings (reverse h.records)) (cells_drawn elements_at (reverse h.records)) h.whole;
    }
