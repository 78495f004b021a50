-- How records of the standard are spelled, except START, and where a read of one may fail.
use Rattle.std.proofs.Common.{◌≡◌, ◌≢◌, ℕ, ◌<◌, ◌≤◌, Bool, true, false, List, [], length, Option, Some, None, ◌⊎◌}
use Rattle.std.specs.Prelude.{◌==◌, ◌&&◌, not, Result, Ok, Err}
use Rattle.oas_num.specs.declared.refusals.Why.{Why}
use Rattle.oas_num.specs.declared.refusals.Why.TheVariants.{OutOfPlace, UnknownRecord, EndLength}
use Rattle.oas_num.specs.declared.padding.Padding.{Padding}
use Rattle.oas_num.specs.Combinators.{IsNever}
use Rattle.oas_num.specs.Laws.CombinatorLaws.{OneSpelling-never, OneSpelling-either, IsWithin-either}
use Rattle.oas_num.specs.Grammar.{IsPair, IsImage}
use Rattle.oas_num.specs.Combinators.{IsEither}
use Rattle.oas_num.specs.Pieces.{IsAfter}
use Rattle.oas_num.specs.Reading.{ReadsValue, FailsPiece}
use Rattle.oas_num.specs.Script.{Script}
use Rattle.oas_long_integers.specs.AnyLength.{IsAnyLength, any_length, first_of, settled_first}
use Rattle.oas_record.specs.declared.placements.Turn.TheVariants.{Quarters, Degrees}
use Rattle.oas_record.specs.declared.records.Record.{Record}
use Rattle.oas_record.specs.declared.records.Record.TheVariants as profile_of
use Rattle.oas_record.specs.Found.{found_image, found_either}
use Rattle.oas_record.specs.Records.{after}
use Rattle.oas_record.specs.Refusals.{is_known}
use Rattle.oas_record.specs.Trees.{Choice, exactly, image_any, by_number, no_other, either_never}
use Rattle.oas_standard.specs.declared.blocks.BlockHead.{BlockHead}
use Rattle.oas_standard.specs.declared.ends.WideEnd.{WideEnd}
use Rattle.oas_standard.specs.declared.ends.Validation.TheVariants.{Unvalidated}
use Rattle.oas_standard.specs.declared.extensions.ExtensionGeometry.{ExtensionGeometry}
use Rattle.oas_standard.specs.declared.layer_names.LayerName.{LayerName}
use Rattle.oas_standard.specs.declared.placements.WidePlacement.{WidePlacement}
use Rattle.oas_standard.specs.declared.properties.Property.{Property}
use Rattle.oas_standard.specs.declared.reasons.WideRefusal.{WideRefusal}
use Rattle.oas_standard.specs.declared.reasons.WideWhy.{WideWhy}
use Rattle.oas_standard.specs.declared.reasons.WideWhy.TheVariants.{Profile}
use Rattle.oas_standard.specs.declared.records.WideRecord.{WideRecord}
use Rattle.oas_standard.specs.declared.records.WideRecord.TheVariants as record_of
use Rattle.oas_standard.specs.declared.trapezoids.NamedTrapezoid.{NamedTrapezoid}
use Rattle.oas_standard.specs.declared.trapezoids.Trapezoid.{Trapezoid}
use Rattle.oas_standard.specs.Blocks.{block_head}
use Rattle.oas_standard.specs.Ends.{wide_end}
use Rattle.oas_standard.specs.Extensions.{extension_geometry}
use Rattle.oas_standard.specs.LayerNames.{layer_name}
use Rattle.oas_standard.specs.Long.{IsLong, LongMay}
use Rattle.oas_standard.specs.Placements.{wide_placement, as_wide}
use Rattle.oas_standard.specs.Properties.{property}
use Rattle.oas_standard.specs.Reasons.{named, plain_of}
use Rattle.oas_standard.specs.Strings.{string_kind, attributed}
use Rattle.oas_standard.specs.Trapezoids.{trapezoid, named_trapezoid}

-- ---- the records of one kind

abbrev pub profile : Record → WideRecord
profile r = record_of.Profile r

abbrev pub end : WideEnd → WideRecord
end e = record_of.End e

abbrev pub property_name : Padding × Option ℕ → WideRecord
property_name p = record_of.PropertyName p.0 p.1

abbrev pub property_string : Padding × Option ℕ → WideRecord
property_string p = record_of.PropertyString p.0 p.1

abbrev pub layers_named : LayerName → WideRecord
layers_named n = record_of.LayerName n

abbrev pub textlayers_named : LayerName → WideRecord
textlayers_named n = record_of.TextLayerName n

abbrev pub a_placement : WidePlacement → WideRecord
a_placement p = record_of.Placement p

abbrev pub a_trapezoid : Trapezoid → WideRecord
a_trapezoid t = record_of.Trapezoid t

abbrev pub a_named_trapezoid : NamedTrapezoid → WideRecord
a_named_trapezoid t = record_of.NamedTrapezoid t

abbrev pub a_property : Property → WideRecord
a_property p = record_of.Property p

abbrev pub last_property : Unit {0} → WideRecord
last_property done = record_of.LastProperty

abbrev pub extension_name : ℕ × (Padding × Option ℕ) → WideRecord
extension_name p = record_of.ExtensionName p.0 p.1.0 p.1.1

abbrev pub extension_element : ℕ × (Padding × Option ℕ) → WideRecord
extension_element p = record_of.ExtensionElement p.0 p.1.0

abbrev pub a_geometry : ExtensionGeometry → WideRecord
a_geometry g = record_of.ExtensionGeometry g

abbrev pub a_block : BlockHead → WideRecord
a_block b = record_of.Block b

-- ---- what follows an id

-- END, placements by reals, and what the profile leaves out
abbrev pub foreign : Bool → ℕ → Choice WideRecord
foreign in_end id =
    by_number (id == 2) (image_any end (wide_end in_end))
    (by_number (id == 7) (image_any property_name (string_kind false))
    (by_number (id == 8) (image_any property_name (string_kind true))
    (by_number (id == 9) (image_any property_string (string_kind false))
    (by_number (id == 10) (image_any property_string (string_kind true))
    (by_number (id == 11) (image_any layers_named layer_name)
    (by_number (id == 12) (image_any textlayers_named layer_name)
    (by_number (id == 18) (image_any a_placement wide_placement)
    (by_number (id == 23) (image_any a_trapezoid (trapezoid true true))
    (by_number (id == 24) (image_any a_trapezoid (trapezoid true false))
    (by_number (id == 25) (image_any a_trapezoid (trapezoid false true))
    (by_number (id == 26) (image_any a_named_trapezoid named_trapezoid)
    (by_number (id == 28) (image_any a_property property)
    (by_number (id == 29) (image_any last_property (exactly []))
    (by_number (id == 30) (image_any extension_name (attributed false))
    (by_number (id == 31) (image_any extension_name (attributed true))
    (by_number (id == 32) (image_any extension_element (attributed false))
    (by_number (id == 33) (image_any a_geometry extension_geometry)
    (by_number (id == 34) (image_any a_block block_head)
    no_other))))))))))))))))))

-- the ids of the profile, by its table, except that of END, which has no signature there, and that of placements by reals,
-- which have no floats there
abbrev pub is_profile_id : ℕ → Bool
is_profile_id id = not (id == 2) && (not (id == 18) && is_known id)

-- what a value of a choice denotes
abbrev pub image_choice : {U V : Type 0} → (U → V) → Choice U → Choice V
image_choice f A = record {
  any = IsImage f A.any;
  shortest = IsNever;
  took = A.took;
  found = found_image f A.found;
  one = OneSpelling-never;
  within = record { within = λ v bytes p. absurd p };
  never = A.never;
}

-- one of two choices, by a test
abbrev pub either_choice : {V : Type 0} → Bool → Choice V → Choice V → Choice V
either_choice test A B = record {
  any = IsEither test A.any B.any;
  shortest = IsEither test A.shortest B.shortest;
  took = IsEither test A.took B.took;
  found = found_either test A.any B.any A.found B.found;
  one = OneSpelling-either test A.shortest B.shortest A.one B.one;
  within = IsWithin-either test A.shortest B.shortest A.any B.any A.within B.within;
  never = either_never test A.took B.took A.never B.never;
}

-- what follows an id: as in the profile, with integers of any number of bytes, or as above
abbrev pub fields : Bool → ℕ → Choice WideRecord
fields in_end id = either_choice (is_profile_id id) (image_choice profile (any_length (first_of id) (settled_first id) (after in_end id))) (foreign in_end id)

-- what follows the id of a record of the profile
abbrev pub AnyLengthAfter : Bool → ℕ → Record → List ℕ → Type 0
AnyLengthAfter in_end id = IsAnyLength (first_of id) (after in_end id).any

abbrev pub fields_in : Bool → ℕ → WideRecord → List ℕ → Type 0
fields_in in_end id = (fields in_end id).any

-- The bytes spell the record, in a file whose START says where the table-offsets are: an id in any number of bytes, and what
-- follows it. END, its id and its signature included, is 256 bytes.
pub record wide_record_in (in_end : Bool) (r : WideRecord) (bytes : List ℕ) : Type 0 where
  pub id : ℕ
  pub whole : id ≡ 2 → length bytes ≡ 256
  pub parts : IsPair IsLong (fields_in in_end) (id, r) bytes

-- ---- ids

-- the ids of the standard, except that of START
abbrev pub IsWideId : ℕ → Type 0
IsWideId id = (id ≢ 1) × (id ≤ 34)

-- those after which it isn't as in the profile
abbrev pub IsForeignId : ℕ → Type 0
IsForeignId id = IsWideId id × ((id ≢ 2) × (is_profile_id id ≡ false))

-- no record has that id here, for that reason
abbrev pub IsRefusedWideId : ℕ → Why → Type 0
IsRefusedWideId id (OutOfPlace n) = (n ≡ id) × (id ≡ 1)
IsRefusedWideId id (UnknownRecord n) = (n ≡ id) × (34 < id)
IsRefusedWideId id _ = ⊥

-- why an id is refused, if it is
abbrev pub RefusesWideId : ℕ → Option Why → Type 0
RefusesWideId id None = IsWideId id
RefusesWideId id (Some why) = IsRefusedWideId id why

-- ---- where a read may fail

-- The tables below say for each reason what all the bytes are that were taken, from the record's first on.

-- in the id
abbrev pub WideIdTook : Why → List ℕ → Type 0
WideIdTook why bytes = LongMay why bytes ⊎ ((id : ℕ) × IsLong id bytes × IsRefusedWideId id why)

-- in what follows an id, and the reason is named after it
abbrev pub FieldsTook : Bool → WideWhy → ℕ → List ℕ → Type 0
FieldsTook in_end wide id bytes = (why : Why) × (fields in_end id).took why bytes × (wide ≡ named id why)

-- END in all its parts, but not 256 bytes long
pub record IsWrongWideEnd (in_end : Bool) (bytes : List ℕ) : Type 0 where
  pub value : WideRecord
  pub parts : IsPair IsLong (fields_in in_end) (2, value) bytes
  pub wrong : length bytes ≢ 256

-- where a read of a record may fail: in its id, or in what follows that id; or it is END, whole, and not 256 bytes long
abbrev pub WideRecordTook : Bool → WideWhy → List ℕ → Type 0
WideRecordTook in_end wide bytes =
    ((why : Why) × (wide ≡ Profile why) × WideIdTook why bytes) ⊎
    (IsAfter IsLong (FieldsTook in_end wide) bytes ⊎
    ((wide ≡ Profile EndLength) × IsWrongWideEnd in_end bytes))

-- ---- reading

-- A read fails: no record is spelled there, as far as the bytes decide, and the table holds for all bytes that were taken.
abbrev pub FailsWide : Bool → Script → WideWhy → Script → Type 0
FailsWide in_end old wide new = FailsPiece (wide_record_in in_end) (λ _. WideRecordTook in_end wide) old (plain_of wide) new

-- what a read of a record does
abbrev pub ReadsWide : Bool → Script → Result WideRecord WideWhy → Script → Type 0
ReadsWide in_end old (Ok v) new = ReadsValue (wide_record_in in_end) old v new
ReadsWide in_end old (Err wide) new = FailsWide in_end old wide new

-- the same, with the place: the offset of the first byte that the read found
abbrev pub ReadsWideAt : Bool → Script → Result WideRecord WideRefusal → Script → Type 0
ReadsWideAt in_end old (Ok v) new = ReadsValue (wide_record_in in_end) old v new
ReadsWideAt in_end old (Err refusal) new = (refusal.at ≡ old.given) × FailsWide in_end old refusal.why new

-- ---- records of the profile

-- a record of the profile, except END, among those of the standard
abbrev pub inner_widened : Record → WideRecord
inner_widened (profile_of.Placement p) = elim p.turn [ Quarters turns ↦ record_of.Profile (profile_of.Placement p) | Degrees magnification angle ↦ record_of.Placement (as_wide p magnification angle) ]
inner_widened r = record_of.Profile r

-- and END
abbrev pub widened : Record → WideRecord
widened profile_of.End = record_of.End (record { validation = Unvalidated })
widened r = inner_widened r
