-- How strings are spelled.
use Rattle.std.specs.Prelude.{ℕ, ◌<◌, ◌≤◌, ◌^◌, List, [], ◌∷◌, length}
use Rattle.oas_num.specs.declared.padding.Padding.{Padding}
use Rattle.oas_num.specs.declared.texts.TextClass.{TextClass}
use Rattle.oas_num.specs.declared.texts.TextClass.TheVariants as classes
use Rattle.oas_num.specs.Grammar.{IsSuch, IsImage, IsCount, IsByte}
use Rattle.oas_num.specs.Combinators.{IsKeyed}
use Rattle.oas_num.specs.Style.{Style, Any, unsigned_in}

-- from one byte to another
abbrev pub IsBetween : ℕ → ℕ → ℕ → Type 0
IsBetween low high byte = (low ≤ byte) × (byte ≤ high)

-- a byte of an n-string: printable, without the space
abbrev pub IsNameByte : ℕ → Type 0
IsNameByte byte = IsBetween 33 126 byte

-- a byte of an a-string: printable, or a space
abbrev pub IsLabelByte : ℕ → Type 0
IsLabelByte byte = IsBetween 32 126 byte

-- the bytes of a class
abbrev pub IsIn : TextClass → ℕ → Type 0
IsIn classes.Name = IsNameByte
IsIn classes.Label = IsLabelByte

-- each byte is of the class
abbrev pub IsOf : (ℕ → Type 0) → List ℕ → Type 0
IsOf class [] = Unit {0}
IsOf class (b ∷ bs) = class b × IsOf class bs

-- what the bytes of a name are
pub record IsName (bytes : List ℕ) : Type 0 where
  pub some : 0 < length bytes
  pub fits : length bytes < 2 ^ 64
  pub class : IsOf IsNameByte bytes

-- what the bytes of a label are
pub record IsLabel (bytes : List ℕ) : Type 0 where
  pub fits : length bytes < 2 ^ 64
  pub class : IsOf IsLabelByte bytes

-- this many bytes of a class
abbrev pub IsText : (ℕ → Type 0) → ℕ → List ℕ → List ℕ → Type 0
IsText class count = IsCount (IsSuch class IsByte) count

abbrev pub IsPositive : ℕ → Type 0
IsPositive n = 0 < n

-- a length that isn't 0, and that many bytes of an n-string
abbrev pub name_in : Style → List ℕ → List ℕ → Type 0
name_in style = IsKeyed length (IsSuch IsPositive (unsigned_in style)) (λ count. IsText IsNameByte count)

-- a length, and that many bytes of an a-string
abbrev pub label_in : Style → List ℕ → List ℕ → Type 0
label_in style = IsKeyed length (unsigned_in style) (λ count. IsText IsLabelByte count)

abbrev pub SpellsName : List ℕ → List ℕ → Type 0
SpellsName = name_in Any

abbrev pub SpellsLabel : List ℕ → List ℕ → Type 0
SpellsLabel = label_in Any

-- of skipped bytes only their number is kept
abbrev pub padding_of : List ℕ → Padding
padding_of bytes = record { length = length bytes }

abbrev pub padding_length : Padding → ℕ
padding_length padding = padding.length

-- this many bytes of any kind
abbrev pub IsSkipped : ℕ → Padding → List ℕ → Type 0
IsSkipped count = IsImage padding_of (IsCount IsByte count)

-- a length, and that many bytes of any kind
abbrev pub SpellsPadding : Padding → List ℕ → Type 0
SpellsPadding = IsKeyed padding_length (unsigned_in Any) IsSkipped
