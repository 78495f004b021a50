-- The parts of a string, one after another.
use Rattle.std.proofs.Common.{◌≡◌, ◌≢◌, ℕ, ◌+◌, ◌<◌, ◌≤◌, ◌^◌, List, [], ◌∷◌, ◌++◌, length, take, slice_index_or, Result, Ok, Err, refl, sym, ap, ◌∙◌, arith}
use Rattle.std.proofs.lemmas.List.{length_push, take_more, take_all}
use Rattle.oas_num.specs.declared.refusals.Why.{Why}
use Rattle.oas_num.specs.declared.refusals.Why.TheVariants.{Truncated, EmptyName, StringByte, Read, InputTooLong}
use Rattle.oas_num.specs.Script.{Script}
use Rattle.oas_num.specs.Grammar.{IsPair, IsSuch, IsByte}
use Rattle.oas_num.specs.Laws.GrammarLaws.{PrefixFree-byte}
use Rattle.oas_num.specs.declared.texts.TextClass.TheVariants as classes
use Rattle.oas_num.specs.Integers.{IsUnsigned}
use Rattle.oas_num.specs.Laws.IntegerLaws.{PrefixFree-IsUnsigned}
use Rattle.oas_num.specs.Style.{Any}
use Rattle.oas_num.specs.Texts.{IsOf, IsNameByte, IsLabelByte, IsName, IsLabel, IsText, IsPositive, IsSkipped, SpellsName, SpellsLabel, SpellsPadding, padding_of, padding_length}
use Rattle.oas_num.specs.Laws.TextLaws.{PrefixFree-positive, text_of, HasSome-name, HasSome-label, HasSome-padding, HasSome-text, HasSome-passed}
use Rattle.oas_num.specs.Pieces.{CountTook}
use Rattle.oas_num.specs.Reading.{ReadsPiece, ReadsValue, FailsPiece, ByteMay, IntegerMay, ClassMay, TextMay, NameLengthMay, TextTook, NameTook, LabelTook, PaddingTook, IsInside}
use Rattle.oas_num.proofs.MidwayLemmas.{Midway, begins, refused, image_fails}
use Rattle.oas_num.proofs.GrammarLemmas.{key_read, such_read, such_fails_by, is_read, Listed, listed_none, listed_more}
use Rattle.oas_num.proofs.PieceLemmas.{first_fails, second_fails, keyed_fails, item_fails}
use Rattle.oas_num.specs.declared.padding.Padding.{Padding}

pub ClassMay-byte : (class : ℕ → Type 0) (why : Why) (last : List ℕ) → ByteMay why last → ClassMay class why last
ClassMay-byte class Truncated last h = h
ClassMay-byte class Read last h = h
ClassMay-byte class InputTooLong last h = h
ClassMay-byte class _ last h = absurd h

pub TextMay-class : (class : ℕ → Type 0) (why : Why) (last : List ℕ) → ClassMay class why last → TextMay class why last
TextMay-class class Truncated last h = h
TextMay-class class Read last h = h
TextMay-class class InputTooLong last h = h
TextMay-class class StringByte last h = h
TextMay-class class _ last h = absurd h

-- a byte of a class spells itself
pub inside : {class : ℕ → Type 0} {byte : ℕ} (last : List ℕ) → IsSuch class IsByte byte last → IsInside class last
inside {byte = byte} last h = (byte, h.spelled.only, h.holds)

-- ---- n-strings

NameLengthMay-integer : (why : Why) (last : List ℕ) → IntegerMay why last → NameLengthMay why last
NameLengthMay-integer EmptyName last h = absurd h
NameLengthMay-integer why last h = h

abbrev name_parts : ℕ × List ℕ → List ℕ → Type 0
name_parts = IsPair (IsSuch IsPositive IsUnsigned) (λ count. IsText IsNameByte count)

-- the length of a name fails
pub name_length_fails : {old new : Script} {why : Why} → FailsPiece IsUnsigned IntegerMay old why new → FailsPiece SpellsName NameTook old why new
name_length_fails {old = old} {new = new} {why = why} f =
    let g : FailsPiece name_parts NameTook old why new = first_fails (such_fails_by IsPositive IsUnsigned NameLengthMay IntegerMay old new why NameLengthMay-integer f) in
    keyed_fails length g

-- a name of length 0
pub empty : {old new : Script} {count : ℕ} → count ≡ 0 → ReadsValue IsUnsigned old count new → FailsPiece SpellsName NameTook old EmptyName new
empty {old = old} {new = new} {count = count} none read =
    let spelled : IsUnsigned 0 read.bytes = rw none at read.spelled in
    let g : FailsPiece name_parts NameTook old EmptyName new =
    first_fails (refused IsPositive IsUnsigned NameLengthMay old new EmptyName count PrefixFree-IsUnsigned read (λ (pos : 0 < count). omega arith)
    spelled (λ e. cc) (λ e. cc) (λ e. cc)) in
    keyed_fails length g

-- the bytes of a name fail
pub name_text_fails : {old mid new : Script} {count : ℕ} {why : Why} → count ≢ 0 → ReadsValue IsUnsigned old count mid
    → FailsPiece (IsText IsNameByte count) (TextTook IsNameByte count) mid why new → FailsPiece SpellsName NameTook old why new
name_text_fails {old = old} {mid = mid} {new = new} {count = count} {why = why} some read f =
    let g : FailsPiece name_parts NameTook old why new = second_fails (PrefixFree-positive Any) (such_read IsPositive IsUnsigned old mid count (omega arith) read) f in
    keyed_fails length g

-- the length of a name was read
pub with_name_length : {old new : Script} {count : ℕ} → count ≢ 0 → ReadsValue IsUnsigned old count new → Midway SpellsName (IsText IsNameByte count) (λ text. text) old new
with_name_length {old = old} {new = new} {count = count} some read =
    key_read SpellsName length (IsSuch IsPositive IsUnsigned) (λ count. IsText IsNameByte count) (λ v. v) old old new count (PrefixFree-positive Any)
    (λ v q h. h.len) (HasSome-text classes.Name count) (begins SpellsName (HasSome-name Any) old)
    (such_read IsPositive IsUnsigned old new count (omega arith) read)

-- the bytes that were read are those of a name
pub read_name : {old new : Script} {count : ℕ} {text : List ℕ} → count ≢ 0 → count < 2 ^ 64 → ReadsValue (IsText IsNameByte count) old text new → IsName text
read_name some fits read = record { some = omega (arith, read.spelled.len); fits = omega (arith, read.spelled.len); class = text_of read.spelled }

-- ---- a-strings

abbrev label_parts : ℕ × List ℕ → List ℕ → Type 0
label_parts = IsPair IsUnsigned (λ count. IsText IsLabelByte count)

-- the length of a label fails
pub label_length_fails : {old new : Script} {why : Why} → FailsPiece IsUnsigned IntegerMay old why new → FailsPiece SpellsLabel LabelTook old why new
label_length_fails {old = old} {new = new} {why = why} f =
    let g : FailsPiece label_parts LabelTook old why new = first_fails f in
    keyed_fails length g

-- the bytes of a label fail
pub label_text_fails : {old mid new : Script} {count : ℕ} {why : Why} → ReadsValue IsUnsigned old count mid
    → FailsPiece (IsText IsLabelByte count) (TextTook IsLabelByte count) mid why new → FailsPiece SpellsLabel LabelTook old why new
label_text_fails {old = old} {new = new} {why = why} read f =
    let g : FailsPiece label_parts LabelTook old why new = second_fails PrefixFree-IsUnsigned read f in
    keyed_fails length g

-- the length of a label was read
pub with_label_length : {old new : Script} {count : ℕ} → ReadsValue IsUnsigned old count new → Midway SpellsLabel (IsText IsLabelByte count) (λ text. text) old new
with_label_length {old = old} {new = new} {count = count} read =
    key_read SpellsLabel length IsUnsigned (λ count. IsText IsLabelByte count) (λ v. v) old old new count PrefixFree-IsUnsigned (λ v q h. h.len)
    (HasSome-text classes.Label count) (begins SpellsLabel (HasSome-label Any) old) read

-- the bytes that were read are those of a label
pub read_label : {old new : Script} {count : ℕ} {text : List ℕ} → count < 2 ^ 64 → ReadsValue (IsText IsLabelByte count) old text new → IsLabel text
read_label fits read = record { fits = omega (arith, read.spelled.len); class = text_of read.spelled }

-- ---- skipped bytes

-- this many bytes were skipped
pub record Passed (old now : Script) (count : ℕ) : Type 0 where
  pub text : List ℕ
  pub listed : Listed IsByte old now text
  pub len : length text ≡ count

pub passed_none : (s : Script) → Passed s s 0
passed_none s = record { text = []; listed = listed_none IsByte s; len = refl }

pub passed_more : {old mid new : Script} {count byte : ℕ} → Passed old mid count → ReadsValue IsByte mid byte new → Passed old new (count + 1)
passed_more {old = old} {mid = mid} {new = new} {byte = byte} p read = record {
  text = p.text ++ byte ∷ [];
  listed = listed_more IsByte old mid new p.text byte p.listed read;
  len = length_push _ _ ∙ ap (λ n. n + 1) p.len;
}

pub passed_fails : {old mid new : Script} {at count : ℕ} {why : Why} → at < count → Passed old mid at → FailsPiece IsByte ByteMay mid why new
    → FailsPiece (IsSkipped count) (CountTook IsByte count ByteMay) old why new
passed_fails lt p f = image_fails padding_of (item_fails PrefixFree-byte (λ _ h. h) (omega (arith, lt, p.len)) p.listed f)

pub passed_all : {old new : Script} {at count : ℕ} → at ≡ count → Passed old new at → ReadsValue (IsSkipped count) old (record { length = count }) new
passed_all {old = old} {new = new} {count = count} is p = record {
  bytes = p.listed.bytes;
  spelled = record { from = p.text; is = ap (λ (n : ℕ). let padding : Padding = record { length = n } in padding) (p.len ∙ is); spelled = record { len = p.len ∙ is; each = p.listed.each } };
  takes = p.listed.takes;
}

abbrev padding_parts : ℕ × Padding → List ℕ → Type 0
padding_parts = IsPair IsUnsigned IsSkipped

pub padding_length_fails : {old new : Script} {why : Why} → FailsPiece IsUnsigned IntegerMay old why new → FailsPiece SpellsPadding PaddingTook old why new
padding_length_fails {old = old} {new = new} {why = why} f =
    let g : FailsPiece padding_parts PaddingTook old why new = first_fails f in
    keyed_fails padding_length g

pub with_padding_length : {old new : Script} {count : ℕ} → ReadsValue IsUnsigned old count new → Midway SpellsPadding (IsSkipped count) (λ padding. padding) old new
with_padding_length {old = old} {new = new} {count = count} read =
    key_read SpellsPadding padding_length IsUnsigned IsSkipped (λ v. v) old old new count PrefixFree-IsUnsigned
    (λ v q h. sym (ap padding_length h.is) ∙ h.spelled.len) (HasSome-passed count) (begins SpellsPadding HasSome-padding old) read

pub padding_done : (old mid new : Script) (count : ℕ) (r : Result Padding Why) → ReadsValue IsUnsigned old count mid
    → ReadsPiece (IsSkipped count) (CountTook IsByte count ByteMay) mid r new → ReadsPiece SpellsPadding PaddingTook old r new
padding_done old mid new count (Ok padding) read passed = is_read (with_padding_length read) passed
padding_done old mid new count (Err why) read passed =
    let g : FailsPiece padding_parts PaddingTook old why new = second_fails PrefixFree-IsUnsigned read passed in
    keyed_fails padding_length g
