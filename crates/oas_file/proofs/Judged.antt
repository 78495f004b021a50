-- Reasons that records are refused for are about the file: none is about the input's end, a device or the memory.
use Rattle.std.proofs.Common.{◌≡◌, ℕ, Bool, true, false, List, [], ◌∷◌, Option, None, Some, IsTrue, reverse, refl}
use Rattle.std.specs.Prelude.{◌+◌, ◌*◌, nat_lt, not, is_none, unwrap_or}
use Rattle.std.specs.Map.{keys_of}
use Rattle.oas_num.specs.declared.refusals.Why.{Why}
use Rattle.oas_num.specs.declared.refusals.Why.TheVariants.{CoordinateRange}
use Rattle.oas_shape.specs.Steps.{still}
use Rattle.oas_record.specs.declared.records.Record.{Record}
use Rattle.oas_record.specs.declared.records.Record.TheVariants as record_of
use Rattle.oas_elements.specs.declared.limits.Limits.{Limits}
use Rattle.oas_elements.specs.Meaning.{cells_weight}
use Rattle.oas_reader.specs.Kind.{Kind}
use Rattle.oas_reader.specs.Drawing.{kind_of, repeats, elements_at, drawn_by, place_of, number_if, lacks_repetition}
use Rattle.oas_reader.specs.Modal.{ModalState, stepped}
use Rattle.oas_reader.specs.Reasons.{first_of, kind_reason, reason_if, is_magnified, is_askew, weight_if, lacks_if, is_on_grid, all_fit}
use Rattle.oas_reader.specs.declared.names.Numbering.{Numbering}
use Rattle.oas_reader.specs.Names.{is_mixed, numbering_given, is_other, name_of, cell_names, text_strings, same_string, reason_given, numbering_of, next_number, named}
use Rattle.oas_reader.specs.Meaning.{DrawnCell, cells_by_name, lacks_name, has_twice, end_reason, cells_drawn}
use Rattle.oas_reader.specs.Standing.{Standing, cell_weight, element_reason}
use Rattle.oas_reader.specs.Stands.{seen, refused_after, refusal, end_refusal}
use Rattle.oas_num.specs.Refusing.{decides}
use Rattle.oas_num.proofs.RefusingLemmas.{Reasons, none_in, some_in, if_in, or_in}

-- a reason, if there is one, is about the bytes
abbrev InBytes : Option Why → Type 0
InBytes = Reasons (λ (why : Why). IsTrue (decides why))

kind_in : (limits : Limits) (count weight : ℕ) (m : ModalState) (kind : Kind) (repeated : Bool) → InBytes (kind_reason limits count weight m kind repeated)
kind_in limits count weight m kind repeated =
    if_in (is_none (drawn_by m kind still)) _ _ refl (
    if_in (lacks_repetition repeated m.repetition) _ _ refl (
    if_in (is_magnified kind) _ _ refl (
    if_in (is_askew kind) _ _ refl (
    if_in (nat_lt limits.elements (count + number_if repeated m.repetition)) _ _ refl (
    if_in (nat_lt limits.weight (weight + number_if repeated m.repetition * weight_if (drawn_by m kind still))) _ _ refl (
    if_in (lacks_if (drawn_by m kind still)) _ _ refl (
    if_in (not (is_on_grid (place_of m kind))) _ _ refl none_in)))))))

draw_in : (limits : Limits) (count weight : ℕ) (m : ModalState) (kind : Option Kind) (repeated : Bool) → InBytes (reason_if limits count weight m kind repeated)
draw_in limits count weight m None repeated = none_in
draw_in limits count weight m (Some kind) repeated =
    or_in (kind_reason limits count weight m kind repeated) (first_of ((not (all_fit m kind repeated), CoordinateRange) ∷ [])) (kind_in limits count weight m kind repeated)
    (if_in (not (all_fit m kind repeated)) _ _ refl none_in)

element_in : (limits : Limits) (s : Standing) (m : ModalState) (r : Record) → InBytes (element_reason limits s m r)
element_in limits s m r = by s.in_cell where
  by : (in_cell : Bool) → InBytes (element_reason limits (record s { in_cell = in_cell }) m r)
  by true = draw_in limits s.count s.weight m (kind_of r) (repeats r)
  by false = some_in _ refl

name_in : {S : Type 0} (same : S → S → Bool) (numbering : Option Numbering) (next : ℕ) (names : List (ℕ × S)) (given : Option (S × Option ℕ)) → InBytes (reason_given same numbering next names given)
name_in same numbering next names None = none_in
name_in same numbering next names (Some g) = if_in (is_mixed numbering (numbering_given g.1)) _ _ refl (if_in (is_other same (name_of names (unwrap_or g.1 next)) g.0) _ _ refl none_in)

record_in : (limits : Limits) (before : List Record) (r : Record) → InBytes (refused_after limits before r)
record_in limits before record_of.Pad = none_in
record_in limits before record_of.End = some_in _ refl
record_in limits before (record_of.CellName name number) = name_in same_string (numbering_of cell_names before) (next_number cell_names before) (named cell_names before) (Some (name, number))
record_in limits before (record_of.TextString label number) = name_in same_string (numbering_of text_strings before) (next_number text_strings before) (named text_strings before)
    (Some (label, number))
record_in limits before (record_of.Cell c) = if_in (nat_lt limits.weight ((seen before).weight + cell_weight c)) _ _ refl none_in
record_in limits before record_of.XyAbsolute = none_in
record_in limits before record_of.XyRelative = none_in
record_in limits before r = element_in limits (seen before) (stepped (seen before).modal r) r

end_in : (names strings : List (ℕ × List ℕ)) (limits : Limits) (cs : List DrawnCell) → InBytes (end_reason names strings limits cs)
end_in names strings limits cs =
    if_in (lacks_name names strings cs) _ _ refl (
    if_in (has_twice (keys_of (cells_by_name names strings cs))) _ _ refl (
    if_in (nat_lt limits.weight (cells_weight (cells_by_name names strings cs))) _ _ refl none_in))

-- why a record is refused is about the bytes
pub refusal_decides : (limits : Limits) (rs : List Record) (r : Record) (why : Why) → refusal limits rs r ≡ Some why → IsTrue (decides why)
refusal_decides limits rs r why e = (record_in limits (reverse rs) r).such why e

-- and so is why END refuses them
pub end_decides : (limits : Limits) (rs : List Record) (why : Why) → end_refusal limits rs ≡ Some why → IsTrue (decides why)
end_decides limits rs why e = (end_in (named cell_names (reverse rs)) (named text_strings (reverse rs)) limits (cells_drawn elements_at (reverse rs))).such why e
