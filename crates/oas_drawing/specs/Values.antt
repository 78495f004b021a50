-- What a record gives to each modal variable, by the records before it (SEMI P39, Modal variables). They are listed newest first.
use Rattle.std.specs.Prelude.{ℕ, ℤ, pos, List, ◌∷◌, Option, None, Some, Bool, false, cond, unwrap_or}
use Rattle.std.specs.Option.{option_map}
use Rattle.oas_shape.specs.declared.repetitions.Repetition.{Repetition}
use Rattle.oas_shape.specs.declared.repetitions.RepField.{RepField}
use Rattle.oas_shape.specs.declared.repetitions.RepField.TheVariants.{New}
use Rattle.oas_record.specs.declared.paths.Extension.{Extension}
use Rattle.oas_record.specs.declared.paths.Extension.TheVariants as extension
use Rattle.oas_record.specs.declared.paths.Extensions.{Extensions}
use Rattle.oas_record.specs.declared.records.Record.{Record}
use Rattle.oas_drawing.specs.Looking.{latest}
use Rattle.oas_drawing.specs.GivenFields.{GivenFields, given_fields}

-- a field of the record, as it is given
abbrev pub field : {A : Type 0} → (GivenFields → Option A) → Record → List Record → Option A
field of r before = of (given_fields r)

abbrev pub given_width : Record → List Record → Option ℕ
given_width = field (λ g. g.width)

-- a square gives its width, which may be an earlier record's
abbrev pub given_height : Record → List Record → Option ℕ
given_height r before = cond (given_fields r).square (latest given_width (r ∷ before)) (given_fields r).height

abbrev pub given_half_width : Record → List Record → Option ℕ
given_half_width = field (λ g. g.half_width)

-- an extension as a number, by the half-width of its path; the modal one gives none
abbrev pub extension_number : Option ℕ → Extension → Option ℤ
extension_number half_width extension.Modal = None
extension_number half_width extension.Flush = Some (pos 0)
extension_number half_width extension.Half = option_map (λ (n : ℕ). pos n) half_width
extension_number half_width (extension.Explicit z) = Some z

abbrev pub start_number : Option ℕ → Option Extensions → Option ℤ
start_number half_width None = None
start_number half_width (Some e) = extension_number half_width e.start

abbrev pub end_number : Option ℕ → Option Extensions → Option ℤ
end_number half_width None = None
end_number half_width (Some e) = extension_number half_width e.end

-- the number that results, by a half-width that may be an earlier record's
abbrev pub given_start : Record → List Record → Option ℤ
given_start r before = start_number (latest given_half_width (r ∷ before)) (given_fields r).extensions

abbrev pub given_end : Record → List Record → Option ℤ
given_end r before = end_number (latest given_half_width (r ∷ before)) (given_fields r).extensions

-- type 0 gives none, as it means the modal one
abbrev pub new_repetition : Option RepField → Option Repetition
new_repetition (Some (New repetition)) = Some repetition
new_repetition _ = None

-- coordinates are absolute where no record says
abbrev pub is_relative : List Record → Bool
is_relative rs = unwrap_or (latest (field (λ g. g.relative)) rs) false
