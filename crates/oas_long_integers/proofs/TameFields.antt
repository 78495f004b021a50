-- The fields of records are given unchanged: strings, deltas, point lists, repetitions.
use Rattle.std.proofs.Common.{◌≡◌, ℕ, ◌+◌, ◌<◌, Bool, true, false, List, [], ◌∷◌, length, inl, sym, subst, arith}
use Rattle.std.specs.Prelude.{◌==◌}
use Rattle.std.specs.List.{AllByRecursion}
use Rattle.oas_num.specs.declared.refusals.Why.{Why}
use Rattle.oas_num.specs.declared.refusals.Why.TheVariants.{Truncated, IntegerRange, StringByte, EmptyName, ListKind, PointCount, RepetitionKind, Read, InputTooLong, Memory}
use Rattle.oas_num.specs.declared.deltas.GDelta.{GDelta}
use Rattle.oas_num.specs.Deltas.{SpellsDelta1, SpellsGDelta, GDeltaTook, delta2_of, delta3_of, gdelta_of, has_second}
use Rattle.oas_num.specs.Grammar.{IsPair, IsSuch, IsImage, IsThere, IsEach, IsCount, IsByte}
use Rattle.oas_num.specs.Integers.{IsUnsigned, IsSigned, signed_of}
use Rattle.oas_num.specs.Pieces.{IsAfter, PairTook, ThereTook, SuchTook}
use Rattle.oas_num.specs.Reading.{IntegerMay, TextMay, NameLengthMay, NameTook, LabelTook}
use Rattle.oas_num.specs.Style.{Any}
use Rattle.oas_num.specs.Texts.{IsNameByte, IsLabelByte, IsPositive, name_in, label_in}
use Rattle.oas_shape.specs.declared.list_use.ListUse.{ListUse}
use Rattle.oas_shape.specs.declared.repetitions.RepField.TheVariants.{New}
use Rattle.oas_shape.specs.ListUses.{IsFitting}
use Rattle.oas_shape.specs.Offsets.{offsets_by}
use Rattle.oas_shape.specs.PointLists.{IsListKind, alternating, step2, step3, stepg, deltas_in, polyline_of, point_list_in, DeltasTook, PointListTook}
use Rattle.oas_shape.specs.Repetitions.{IsRepetitionKind, matrix_of, columns_of, rows_of, lattice_of, line_of, AreTwo, TwoTook, x_space, y_space, RefusesNext, grid_of, listed_of}
use Rattle.oas_shape.specs.Repetitions.{repetition_by, RepetitionTook, field_by, FieldTook, field_of, rep_field_in, RepFieldTook}
use Rattle.oas_shape.specs.Steps.{IsPartialSum}
use Rattle.oas_long_integers.proofs.TameLemmas.{IsWhole, IsPart, Tame, whole_none, part_then, small_whole, one_kept, each_whole, tame_pair, tame_there, tame_either, tame_image, tame_such, tame_refused, tame_count, tame_list, tame_number}

pub tame_signed : Tame IsSigned IntegerMay
tame_signed = tame_image signed_of tame_number

-- ---- strings

nothing_part : (why : Why) (bytes : List ℕ) → bytes ≡ [] → IsPart why bytes
nothing_part why bytes e = inl (subst IsWhole (sym e) whole_none).0

byte_part : (why : Why) (b : ℕ) (bytes : List ℕ) → bytes ≡ b ∷ [] → IsPart why bytes
byte_part why b bytes e = subst (IsPart why) (sym e) (inl (one_kept b))

text_part : (class : ℕ → Type 0) (why : Why) (bytes : List ℕ) → TextMay class why bytes → IsPart why bytes
text_part class Truncated bytes h = nothing_part Truncated bytes h
text_part class Read bytes h = nothing_part Read bytes h
text_part class InputTooLong bytes h = nothing_part InputTooLong bytes h
text_part class Memory bytes h = byte_part Memory h.0 bytes h.1
text_part class StringByte bytes h = byte_part StringByte h.0 bytes h.1
text_part class _ bytes h = absurd h

tame_text : (class : ℕ → Type 0) → ((b : ℕ) → class b → b < 128) → Tame (IsSuch class IsByte) (TextMay class)
tame_text class small = record {
  whole = λ b bytes p. subst IsWhole (sym p.spelled.only) (small_whole b (small b p.holds));
  part = text_part class;
  cut = λ bytes h. h;
}

length_part : (why : Why) (bytes : List ℕ) → NameLengthMay why bytes → IsPart why bytes
length_part EmptyName bytes h = inl (tame_number.whole 0 bytes h).0
length_part Truncated bytes h = tame_number.part Truncated bytes h
length_part Read bytes h = tame_number.part Read bytes h
length_part InputTooLong bytes h = tame_number.part InputTooLong bytes h
length_part IntegerRange bytes h = tame_number.part IntegerRange bytes h
length_part _ bytes h = absurd h

tame_length : Tame (IsSuch IsPositive IsUnsigned) NameLengthMay
tame_length = record { whole = λ v bytes p. tame_number.whole v bytes p.spelled; part = length_part; cut = λ bytes h. h }

pub tame_name : Tame (name_in Any) NameTook
tame_name =
    let t = tame_pair tame_length (λ count. tame_count count (tame_text IsNameByte (λ b h. omega (arith, h.1)))) in
    record { whole = λ v bytes p. t.whole (length v, v) bytes p; part = t.part; cut = t.cut }

pub tame_label : Tame (label_in Any) LabelTook
tame_label =
    let t = tame_pair tame_number (λ count. tame_count count (tame_text IsLabelByte (λ b h. omega (arith, h.1)))) in
    record { whole = λ v bytes p. t.whole (length v, v) bytes p; part = t.part; cut = t.cut }

-- ---- deltas

tame_delta1 : Tame SpellsDelta1 IntegerMay
tame_delta1 = record { whole = λ v bytes p. tame_signed.whole v.0 bytes p; part = tame_signed.part; cut = tame_signed.cut }

tame_gdelta : Tame SpellsGDelta GDeltaTook
tame_gdelta =
    let t = tame_image gdelta_of (tame_pair tame_number (λ first. tame_there (has_second first) tame_number)) in
    record { whole = λ v bytes p. t.whole v bytes p; part = t.part; cut = t.cut }

-- ---- point lists

tame_deltas : (kind count : ℕ) → Tame (deltas_in kind count) (DeltasTook kind count)
tame_deltas kind count =
    tame_either (kind == 0) (tame_image (alternating true) (tame_list count tame_delta1))
    (tame_either (kind == 1) (tame_image (alternating false) (tame_list count tame_delta1))
    (tame_either (kind == 2) (tame_list count (tame_image step2 (tame_image delta2_of tame_number)))
    (tame_either (kind == 3) (tame_list count (tame_image step3 (tame_image delta3_of tame_number)))
    (tame_list count (tame_image stepg tame_gdelta)))))

pub tame_points : (purpose : ListUse) → Tame (point_list_in Any purpose) (PointListTook purpose)
tame_points purpose =
    tame_image (polyline_of purpose) (tame_pair (tame_such IsListKind (λ v h. let e : Read ≡ ListKind = h.0 in cc) tame_number)
    (λ kind. tame_pair (tame_such (IsFitting purpose kind) (λ v h. let e : Read ≡ PointCount = h.0 in cc) tame_number) (tame_deltas kind)))

-- ---- repetitions

tame_two : Tame AreTwo TwoTook
tame_two = tame_pair tame_number (λ v. tame_number)

-- displacements of one kind, and how a read of one may fail
module _ (spells : GDelta → List ℕ → Type 0) (took : Why → List ℕ → Type 0) (t : Tame spells took) where
  abbrev Offsets : ℕ → ℕ → List GDelta → List ℕ → Type 0
  Offsets grid count = IsSuch (AllByRecursion IsPartialSum) (IsImage (offsets_by grid) (IsCount spells count))

  abbrev OffsetsMay : ℕ → ℕ → Why → List ℕ → Type 0
  OffsetsMay grid count why bytes =
      IsAfter (IsEach spells) (λ before last. (length before < count) × AllByRecursion IsPartialSum (offsets_by grid before) × SuchTook spells took (RefusesNext grid before) why last) bytes

  next_of : (grid : ℕ) (before : List GDelta) → Tame spells (SuchTook spells took (RefusesNext grid before))
  next_of grid before = tame_refused (λ v h. h) t

  tame_offsets : (grid count : ℕ) → Tame (Offsets grid count) (OffsetsMay grid count)
  tame_offsets grid count = record {
    whole = λ v bytes p. each_whole t.whole p.spelled.from bytes p.spelled.spelled.each;
    part = λ why bytes b. subst (IsPart why) (sym b.joined) (part_then why b.front b.last (each_whole t.whole b.value b.front b.spelled) ((next_of grid b.value).part why b.last b.holds.2));
    cut = λ bytes b. record { value = b.value; front = b.front; last = b.last; spelled = b.spelled; holds = (b.holds.0, b.holds.1, (next_of grid b.value).cut b.last b.holds.2); joined = b.joined };
  }

  tame_listed : (has_grid : Bool) → Tame (IsImage listed_of (IsPair IsUnsigned (λ dim. IsPair (IsThere has_grid IsUnsigned) (λ grid. Offsets (grid_of grid) (dim + 1)))))
      (PairTook IsUnsigned IntegerMay (λ dim. PairTook (IsThere has_grid IsUnsigned) (ThereTook has_grid IntegerMay) (λ grid. OffsetsMay (grid_of grid) (dim + 1))))
  tame_listed has_grid = tame_image listed_of (tame_pair tame_number (λ dim. tame_pair (tame_there has_grid tame_number) (λ grid. tame_offsets (grid_of grid) (dim + 1))))

tame_by_kind : (kind : ℕ) → Tame (repetition_by kind) (RepetitionTook kind)
tame_by_kind kind =
    tame_either (kind == 1) (tame_image matrix_of (tame_pair tame_two (λ v. tame_two)))
    (tame_either (kind == 2) (tame_image columns_of tame_two)
    (tame_either (kind == 3) (tame_image rows_of tame_two)
    (tame_either (kind == 4) (tame_listed _ _ (tame_image x_space tame_number) false)
    (tame_either (kind == 5) (tame_listed _ _ (tame_image x_space tame_number) true)
    (tame_either (kind == 6) (tame_listed _ _ (tame_image y_space tame_number) false)
    (tame_either (kind == 7) (tame_listed _ _ (tame_image y_space tame_number) true)
    (tame_either (kind == 8) (tame_image lattice_of (tame_pair tame_two (λ v. tame_pair tame_gdelta (λ w. tame_gdelta))))
    (tame_either (kind == 9) (tame_image line_of (tame_pair tame_number (λ v. tame_gdelta)))
    (tame_either (kind == 10) (tame_listed _ _ tame_gdelta false)
    (tame_listed _ _ tame_gdelta true))))))))))

tame_field : (kind : ℕ) → Tame (field_by kind) (FieldTook kind)
tame_field kind = tame_either (kind == 0) (record { whole = λ v bytes p. subst IsWhole (sym p.spelled) whole_none; part = λ why bytes h. absurd h; cut = λ bytes h. h }) (tame_image New (tame_by_kind kind))

pub tame_repetition : Tame (rep_field_in Any) RepFieldTook
tame_repetition = tame_image field_of (tame_pair (tame_such IsRepetitionKind (λ v h. let e : Read ≡ RepetitionKind = h.0 in cc) tame_number) tame_field)
