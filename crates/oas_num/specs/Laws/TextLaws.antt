-- The laws of strings in any style.
use Rattle.std.proofs.Common.{ℕ, ◌<◌, List, [], ◌∷◌, ◌++◌, length, refl, arith}
use Rattle.oas_num.specs.declared.texts.TextClass.{TextClass}
use Rattle.oas_num.specs.declared.texts.TextClass.TheVariants as classes
use Rattle.oas_num.specs.Begun.{HasSome}
use Rattle.oas_num.specs.Grammar.{PrefixFree, IsSuch, IsEach, IsCount, IsByte}
use Rattle.oas_num.specs.Laws.GrammarLaws.{PrefixFree-such, PrefixFree-count, PrefixFree-image, PrefixFree-byte}
use Rattle.oas_num.specs.Combinators.{OneSpelling, IsWithin}
use Rattle.oas_num.specs.Laws.CombinatorLaws.{PrefixFree-keyed, OneSpelling-keyed, OneSpelling-such, OneSpelling-count, OneSpelling-byte, IsWithin-keyed, IsWithin-such, IsWithin-itself}
use Rattle.oas_num.specs.Style.{Style, Any, Shortest, unsigned_in}
use Rattle.oas_num.specs.Laws.StyleLaws.{PrefixFree-unsigned, OneSpelling-unsigned, IsWithin-unsigned, shortest-IsShortest, unsigned_spelled}
use Rattle.oas_num.specs.Laws.BegunLaws.{HasSome-byte, HasSome-count, HasSome-image, HasSome-keyed, HasSome-within}
use Rattle.oas_num.specs.Writing.{shortest}
use Rattle.oas_num.specs.Texts.{IsNameByte, IsLabelByte, IsIn, IsOf, IsName, IsLabel, IsText, IsPositive, IsSkipped, SpellsPadding, padding_of, padding_length, name_in, label_in}

-- the bytes of a text
pub PrefixFree-class : (class : ℕ → Type 0) → PrefixFree (IsSuch class IsByte)
PrefixFree-class class = PrefixFree-such class IsByte PrefixFree-byte

pub PrefixFree-text : (class : ℕ → Type 0) (count : ℕ) → PrefixFree (IsText class count)
PrefixFree-text class count = PrefixFree-count (IsSuch class IsByte) count (PrefixFree-class class)

pub OneSpelling-text : (class : ℕ → Type 0) (count : ℕ) → OneSpelling (IsText class count)
OneSpelling-text class count = OneSpelling-count (IsSuch class IsByte) count (OneSpelling-such class IsByte OneSpelling-byte)

-- bytes of a class spell themselves
each_itself : (class : ℕ → Type 0) → ((b : ℕ) → class b → b < 256) → (bytes : List ℕ) → IsOf class bytes → IsEach (IsSuch class IsByte) bytes bytes
each_itself class small [] h = refl
each_itself class small (b ∷ bytes) h = (b ∷ [], bytes, record { holds = h.0; spelled = record { only = refl; small = small b h.0 } }, each_itself class small bytes h.1, refl)

pub text_itself : (class : ℕ → Type 0) → ((b : ℕ) → class b → b < 256) → (bytes : List ℕ) → IsOf class bytes → IsText class (length bytes) bytes bytes
text_itself class small bytes h = record { len = refl; each = each_itself class small bytes h }

-- and what is spelled as a text of a class is of that class
each_of : (class : ℕ → Type 0) (text bytes : List ℕ) → IsEach (IsSuch class IsByte) text bytes → IsOf class text
each_of class [] bytes h = tt
each_of class (b ∷ text) bytes h = (h.2.holds, each_of class text h.1 h.3)

pub text_of : {class : ℕ → Type 0} {count : ℕ} {text bytes : List ℕ} → IsText class count text bytes → IsOf class text
text_of {class = class} {text = text} {bytes = bytes} h = each_of class text bytes h.each

-- n-strings
pub PrefixFree-positive : (style : Style) → PrefixFree (IsSuch IsPositive (unsigned_in style))
PrefixFree-positive style = PrefixFree-such IsPositive (unsigned_in style) (PrefixFree-unsigned style)

pub PrefixFree-name : (style : Style) → PrefixFree (name_in style)
PrefixFree-name style = PrefixFree-keyed length (IsSuch IsPositive (unsigned_in style)) (λ count. IsText IsNameByte count) (PrefixFree-positive style) (PrefixFree-text IsNameByte)

pub OneSpelling-name : OneSpelling (name_in Shortest)
OneSpelling-name = OneSpelling-keyed length (IsSuch IsPositive (unsigned_in Shortest)) (λ count. IsText IsNameByte count)
    (OneSpelling-such IsPositive (unsigned_in Shortest) OneSpelling-unsigned) (OneSpelling-text IsNameByte)

pub IsWithin-name : IsWithin (name_in Shortest) (name_in Any)
IsWithin-name = IsWithin-keyed length (IsSuch IsPositive (unsigned_in Shortest)) (IsSuch IsPositive (unsigned_in Any))
    (λ count. IsText IsNameByte count) (λ count. IsText IsNameByte count)
    (IsWithin-such IsPositive (unsigned_in Shortest) (unsigned_in Any) IsWithin-unsigned) (λ count. IsWithin-itself (IsText IsNameByte count))

-- a-strings
pub PrefixFree-label : (style : Style) → PrefixFree (label_in style)
PrefixFree-label style = PrefixFree-keyed length (unsigned_in style) (λ count. IsText IsLabelByte count) (PrefixFree-unsigned style) (PrefixFree-text IsLabelByte)

pub OneSpelling-label : OneSpelling (label_in Shortest)
OneSpelling-label = OneSpelling-keyed length (unsigned_in Shortest) (λ count. IsText IsLabelByte count) OneSpelling-unsigned (OneSpelling-text IsLabelByte)

pub IsWithin-label : IsWithin (label_in Shortest) (label_in Any)
IsWithin-label = IsWithin-keyed length (unsigned_in Shortest) (unsigned_in Any) (λ count. IsText IsLabelByte count)
    (λ count. IsText IsLabelByte count) IsWithin-unsigned (λ count. IsWithin-itself (IsText IsLabelByte count))

-- the canonical spelling of a name, and of a label
pub name_spelled : (name : List ℕ) → IsName name → name_in Shortest name (shortest (length name) ++ name)
name_spelled name h = record {
  front = shortest (length name);
  back = name;
  first = record { holds = h.some; spelled = shortest-IsShortest (length name) h.fits };
  second = text_itself IsNameByte (λ b c. omega (arith, c.1)) name h.class;
  joined = refl;
}

pub label_spelled : (label : List ℕ) → IsLabel label → label_in Shortest label (shortest (length label) ++ label)
label_spelled label h = record {
  front = shortest (length label);
  back = label;
  first = shortest-IsShortest (length label) h.fits;
  second = text_itself IsLabelByte (λ b c. omega (arith, c.1)) label h.class;
  joined = refl;
}

-- skipped bytes
pub PrefixFree-passed : (count : ℕ) → PrefixFree (IsSkipped count)
PrefixFree-passed count = PrefixFree-image padding_of (IsCount IsByte count) (PrefixFree-count IsByte count PrefixFree-byte)

pub PrefixFree-padding : PrefixFree SpellsPadding
PrefixFree-padding = PrefixFree-keyed padding_length (unsigned_in Any) IsSkipped (PrefixFree-unsigned Any) PrefixFree-passed

-- ---- some are spelled

-- an exclamation mark is in both classes
mark : (class : TextClass) → IsIn class 33
mark classes.Name = (omega arith, omega arith)
mark classes.Label = (omega arith, omega arith)

pub HasSome-class : (class : TextClass) → HasSome (IsSuch (IsIn class) IsByte)
HasSome-class class = record { value = 33; bytes = 33 ∷ []; spelled = record { holds = mark class; spelled = record { only = refl; small = omega arith } } }

pub HasSome-text : (class : TextClass) (count : ℕ) → HasSome (IsText (IsIn class) count)
HasSome-text class count = HasSome-count (IsSuch (IsIn class) IsByte) count (HasSome-class class)

pub HasSome-positive : (style : Style) → HasSome (IsSuch IsPositive (unsigned_in style))
HasSome-positive style = record { value = 1; bytes = shortest 1; spelled = record { holds = omega arith; spelled = unsigned_spelled style 1 (omega arith) } }

short_name : HasSome (name_in Shortest)
short_name = record {
  value = 33 ∷ [];
  bytes = shortest 1 ++ 33 ∷ [];
  spelled = name_spelled (33 ∷ []) (record { some = omega arith; fits = omega arith; class = ((omega arith, omega arith), tt) });
}

pub HasSome-name : (style : Style) → HasSome (name_in style)
HasSome-name Any = HasSome-within (name_in Shortest) (name_in Any) IsWithin-name short_name
HasSome-name Shortest = short_name

no_label : HasSome (label_in Shortest)
no_label = record { value = []; bytes = shortest 0 ++ []; spelled = label_spelled [] (record { fits = omega arith; class = tt }) }

pub HasSome-label : (style : Style) → HasSome (label_in style)
HasSome-label Any = HasSome-within (label_in Shortest) (label_in Any) IsWithin-label no_label
HasSome-label Shortest = no_label

pub HasSome-passed : (count : ℕ) → HasSome (IsSkipped count)
HasSome-passed count = HasSome-image padding_of (IsCount IsByte count) (HasSome-count IsByte count HasSome-byte)

pub HasSome-padding : HasSome SpellsPadding
HasSome-padding = HasSome-keyed padding_length (unsigned_in Any) IsSkipped (record { length = 0 }) (shortest 0) []
    (unsigned_spelled Any 0 (omega arith)) (record { from = []; is = refl; spelled = record { len = refl; each = refl } })
