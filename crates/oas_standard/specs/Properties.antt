-- How a property is spelled, after its id (SEMI P39, PROPERTY record).
use Rattle.std.proofs.Common.{◌≡◌, ℕ, ◌/◌, ◌<◌, Bool, List, [], Option, ◌⊎◌, inl, inr, arith}
use Rattle.std.specs.Prelude.{◌==◌, bit_and}
use Rattle.std.proofs.Math.Dec.{ltb}
use Rattle.oas_num.specs.declared.refusals.Why.{Why}
use Rattle.oas_num.specs.declared.refusals.Why.TheVariants.{RealType}
use Rattle.oas_num.specs.declared.integers.Signed.{Signed}
use Rattle.oas_num.specs.declared.padding.Padding.{Padding}
use Rattle.oas_num.specs.Combinators.{IsNever}
use Rattle.oas_num.specs.Laws.CombinatorLaws.{OneSpelling-never}
use Rattle.oas_num.specs.Integers.{SpellsSigned}
use Rattle.oas_num.specs.Laws.IntegerLaws.{Signed-one_front, Signed-some}
use Rattle.oas_num.specs.Reading.{IntegerMay}
use Rattle.oas_num.specs.Pieces.{Unless}
use Rattle.oas_record.specs.Ends.{nothing}
use Rattle.oas_record.specs.Found.{IsFound, settled_either, settled_number}
use Rattle.oas_record.specs.FoundParts.{found_signed, settled_below}
use Rattle.oas_record.specs.Info.{has}
use Rattle.oas_record.specs.Kinds.{Kind, number, padding}
use Rattle.oas_record.specs.Trees.{IsTest, pair, there, either, items, exactly, such, image_any, number_test, info_byte}
use Rattle.oas_standard.specs.declared.properties.Property.{Property}
use Rattle.oas_standard.specs.declared.properties.PropertyName.{PropertyName}
use Rattle.oas_standard.specs.declared.properties.PropertyName.TheVariants as names
use Rattle.oas_standard.specs.declared.properties.PropertyValue.{PropertyValue}
use Rattle.oas_standard.specs.declared.properties.PropertyValue.TheVariants as kinds
use Rattle.oas_standard.specs.declared.reals.WideReal.{WideReal}
use Rattle.oas_standard.specs.Little.{four, eight}
use Rattle.oas_standard.specs.Reals.{fraction}

-- ---- values

-- the types that there are: 0 to 7 a real of that type, 8 and 9 integers, 10 to 12 strings, 13 to 15 numbers of strings
abbrev pub IsValueType : ℕ → Type 0
IsValueType type = type < 16

pub value_test : IsTest number.any IsValueType (Unless IsValueType RealType)
value_test = number_test IsValueType RealType (λ type. settled_below type 16) (omega arith) (λ e. cc)

abbrev pub value_type : Kind ℕ
value_type = such number IsValueType (Unless IsValueType RealType) value_test

abbrev pub real_value : WideReal → PropertyValue
real_value real = kinds.Real real

abbrev pub single_value : ℕ → PropertyValue
single_value bits = kinds.Single bits

abbrev pub double_value : ℕ → PropertyValue
double_value bits = kinds.Double bits

abbrev pub unsigned_value : ℕ → PropertyValue
unsigned_value n = kinds.Unsigned n

abbrev pub signed_value : Signed → PropertyValue
signed_value number = kinds.Signed number

abbrev pub string_value : Padding → PropertyValue
string_value string = kinds.Text string

abbrev pub reference_value : ℕ → PropertyValue
reference_value n = kinds.Reference n

pub found_signed_number : IsFound SpellsSigned
found_signed_number = record {
  one = Signed-one_front;
  find = λ left. elim (found_signed.find left) [
    | inl s ↦ inl (record { value = (let n : Signed = record { 0 = s.value } in n); front = s.front; rest = s.rest; spelled = s.spelled; joined = s.joined })
    | inr lacks ↦ inr (record { none = λ v front rest p e. lacks.none v.0 front rest p e })
  ];
}

-- a signed number, of its own type
abbrev pub signed_number : Kind Signed
signed_number = record {
  any = SpellsSigned;
  shortest = IsNever;
  took = IntegerMay;
  found = found_signed_number;
  one = OneSpelling-never;
  within = record { within = λ v bytes p. absurd p };
  some = Signed-some;
  never = record { none = λ bytes h. h };
}

-- what follows the type of a real: the bits of a float are skipped, whatever they are (own rule)
abbrev pub real_value_after : ℕ → Kind PropertyValue
real_value_after type =
    either (type == 6) (image_any single_value four)
    (either (type == 7) (image_any double_value eight)
    (image_any real_value (fraction type)))

-- what follows a type
abbrev pub value_after : ℕ → Kind PropertyValue
value_after type =
    either (ltb type 8) (real_value_after type)
    (either (type == 8) (image_any unsigned_value number)
    (either (type == 9) (image_any signed_value signed_number)
    (either (ltb type 13) (image_any string_value padding)
    (image_any reference_value number))))

abbrev pub without_type : ℕ × PropertyValue → PropertyValue
without_type p = p.1

abbrev pub property_value : Kind PropertyValue
property_value = image_any without_type (pair value_type value_after)

abbrev pub SpellsValue : PropertyValue → List ℕ → Type 0
SpellsValue = property_value.any

abbrev pub ValueTook : Why → List ℕ → Type 0
ValueTook = property_value.took

-- ---- PROPERTY

-- where the last values are repeated, none are counted
abbrev pub IsPropertyInfo : ℕ → Type 0
IsPropertyInfo info = (bit_and info 8 ≡ 0) ⊎ (info < 16)

abbrev pub number_name : ℕ → PropertyName
number_name n = names.Number n

abbrev pub string_name : Padding → PropertyName
string_name string = names.Text string

-- a number of a PROPNAME, or a string
abbrev pub property_name : Bool → Kind PropertyName
property_name numbered = either numbered (image_any number_name number) (image_any string_name padding)

-- how many values there are: bits 4 to 7, or a number where these are 15
abbrev pub of_info : ℕ → Unit {0} → ℕ
of_info info done = info / 16

abbrev pub value_count : ℕ → Kind ℕ
value_count info = either (info / 16 == 15) number (image_any (of_info info) (exactly []))

abbrev pub count_of : ℕ × Unit {0} → ℕ
count_of p = p.0

-- this many values
abbrev pub value_list : ℕ → Kind (Unit {0})
value_list count = image_any nothing (items count property_value)

abbrev pub values : ℕ → Kind ℕ
values info = image_any count_of (pair (value_count info) value_list)

abbrev pub PropertyFields : Type 0
PropertyFields = Option PropertyName × Option ℕ

-- UUUUVCNS
abbrev pub property_parts : ℕ → Kind PropertyFields
property_parts info = pair (there (has info 4) (property_name (has info 2))) (λ _. there (bit_and info 8 == 0) (values info))

abbrev pub property_of : ℕ × PropertyFields → Property
property_of p = record { standard = has p.0 1; name = p.1.0; values = p.1.1 }

abbrev pub property : Kind Property
property =
    image_any property_of
    (pair (info_byte IsPropertyInfo IsPropertyInfo (λ info. settled_either (settled_number (bit_and info 8) 0) (settled_below info 16)) (inr (omega arith))) property_parts)

abbrev pub SpellsProperty : Property → List ℕ → Type 0
SpellsProperty = property.any

-- where a read of a property may fail
abbrev pub PropertyTook : Why → List ℕ → Type 0
PropertyTook = property.took
