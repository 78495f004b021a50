-- A part of the grammar with all that is known about it: how it is spelled, in any style and in the shortest, where a read of
-- it goes wrong, and its laws. Parts are built from parts (Trees), so a kind of record is one tree.
use Rattle.std.proofs.Common.{ℕ, ℤ, Bool, true, false, inl, inr, List, [], ◌∷◌, refl, arith}
use Rattle.oas_num.specs.declared.refusals.Why.{Why}
use Rattle.oas_num.specs.declared.refusals.Why.TheVariants.{Write}
use Rattle.oas_num.specs.declared.reals.Real.{Real}
use Rattle.oas_num.specs.declared.padding.Padding.{Padding}
use Rattle.oas_num.specs.Grammar.{PrefixFree, IsByte}
use Rattle.oas_num.specs.Combinators.{IsNever, OneSpelling, IsWithin}
use Rattle.oas_num.specs.Laws.CombinatorLaws.{PrefixFree-within, OneSpelling-never, OneSpelling-byte, IsWithin-itself}
use Rattle.oas_num.specs.Begun.{HasSome}
use Rattle.oas_num.specs.Integers.{IsUnsigned, IsSigned}
use Rattle.oas_num.specs.Laws.IntegerLaws.{HasSome-IsUnsigned, HasSome-IsSigned}
use Rattle.oas_num.specs.Style.{Style, Any, Shortest, unsigned_in, signed_in}
use Rattle.oas_num.specs.Laws.StyleLaws.{OneSpelling-unsigned, IsWithin-unsigned, OneSpelling-signed, IsWithin-signed}
use Rattle.oas_num.specs.Texts.{name_in, label_in, SpellsPadding}
use Rattle.oas_num.specs.Laws.TextLaws.{OneSpelling-name, IsWithin-name, HasSome-name, OneSpelling-label, IsWithin-label, HasSome-label, HasSome-padding}
use Rattle.oas_num.specs.Reals.{real_in, RealTook}
use Rattle.oas_num.specs.Laws.RealLaws.{OneSpelling-real, IsWithin-real, HasSome-real}
use Rattle.oas_num.specs.Pieces.{PairTook, ThereTook}
use Rattle.oas_num.specs.Reading.{ByteMay, IntegerMay, NameTook, LabelTook, PaddingTook}
use Rattle.oas_record.specs.Found.{IsFound}
use Rattle.oas_record.specs.FoundParts.{found_unsigned, found_signed, found_byte, found_name, found_label, found_padding, found_real}

-- a read doesn't fail with a fault of writing
pub record Never (took : Why → List ℕ → Type 0) : Type 0 where
  pub none : (bytes : List ℕ) → took Write bytes → ⊥

pub record Kind (V : Type 0) : Type 1 where
  pub any : V → List ℕ → Type 0
  pub shortest : V → List ℕ → Type 0
  -- where the bytes that were read go wrong, and for which reason
  pub took : Why → List ℕ → Type 0
  -- no spelling is a prefix of another, and it is decidable whether there is one at a place
  pub found : IsFound any
  -- in the shortest style a value has one spelling
  pub one : OneSpelling shortest
  -- and it is one that the standard allows
  pub within : IsWithin shortest any
  -- there is a spelling
  pub some : HasSome any
  pub never : Never took

-- how it is spelled in a style
abbrev pub spelled_in : {V : Type 0} → Style → Kind V → V → List ℕ → Type 0
spelled_in Any A = A.any
spelled_in Shortest A = A.shortest

-- in no style is a spelling a prefix of another
pub front_in : {V : Type 0} (style : Style) (A : Kind V) → PrefixFree (spelled_in style A)
front_in Any A = A.found.one
front_in Shortest A = PrefixFree-within A.shortest A.any A.within A.found.one

-- ---- parts

pub pair_never : {V : Type 0} {A : V → List ℕ → Type 0} {first : Why → List ℕ → Type 0} {second : V → Why → List ℕ → Type 0} → Never first
    → ((v : V) → Never (second v)) → Never (PairTook A first second)
pair_never f g = record { none = λ bytes h. elim h [ inl h ↦ f.none bytes h | inr b ↦ (g b.value).none b.last b.holds ] }

pub there_never : (here : Bool) (took : Why → List ℕ → Type 0) → Never took → Never (ThereTook here took)
there_never true took f = record { none = f.none }
there_never false took f = record { none = λ bytes h. h }

pub zero_byte : IsByte 0 (0 ∷ [])
zero_byte = record { only = refl; small = omega arith }

abbrev pub number : Kind ℕ
number = record {
  any = IsUnsigned;
  shortest = unsigned_in Shortest;
  took = IntegerMay;
  found = found_unsigned;
  one = OneSpelling-unsigned;
  within = IsWithin-unsigned;
  some = HasSome-IsUnsigned;
  never = record { none = λ bytes h. h };
}

abbrev pub signed : Kind ℤ
signed = record {
  any = IsSigned;
  shortest = signed_in Shortest;
  took = IntegerMay;
  found = found_signed;
  one = OneSpelling-signed;
  within = IsWithin-signed;
  some = HasSome-IsSigned;
  never = record { none = λ bytes h. h };
}

abbrev pub byte : Kind ℕ
byte = record {
  any = IsByte;
  shortest = IsByte;
  took = ByteMay;
  found = found_byte;
  one = OneSpelling-byte;
  within = IsWithin-itself IsByte;
  some = record { value = 0; bytes = 0 ∷ []; spelled = zero_byte };
  never = record { none = λ bytes h. h };
}

abbrev pub name : Kind (List ℕ)
name = record {
  any = name_in Any;
  shortest = name_in Shortest;
  took = NameTook;
  found = found_name;
  one = OneSpelling-name;
  within = IsWithin-name;
  some = HasSome-name Any;
  never = pair_never (record { none = λ bytes h. h }) (λ n. record { none = λ bytes b. b.holds.1 });
}

abbrev pub label : Kind (List ℕ)
label = record {
  any = label_in Any;
  shortest = label_in Shortest;
  took = LabelTook;
  found = found_label;
  one = OneSpelling-label;
  within = IsWithin-label;
  some = HasSome-label Any;
  never = pair_never (record { none = λ bytes h. h }) (λ n. record { none = λ bytes b. b.holds.1 });
}

-- a skipped string, which no canonical file has
abbrev pub padding : Kind Padding
padding = record {
  any = SpellsPadding;
  shortest = IsNever;
  took = PaddingTook;
  found = found_padding;
  one = OneSpelling-never;
  within = record { within = λ v bytes p. absurd p };
  some = HasSome-padding;
  never = pair_never (record { none = λ bytes h. h }) (λ n. record { none = λ bytes b. b.holds.1 });
}

abbrev pub real : Kind Real
real = record {
  any = real_in Any;
  shortest = real_in Shortest;
  took = RealTook;
  found = found_real;
  one = OneSpelling-real;
  within = IsWithin-real;
  some = HasSome-real Any;
  never = pair_never (record { none = λ bytes h. h }) (λ kind. pair_never (there_never _ IntegerMay (record { none = λ bytes h. h })) (λ _. there_never _ IntegerMay (record { none = λ bytes h. h })));
}
