-- What a read of a value does.
use Rattle.std.specs.Prelude.{◌≡◌, ◌≢◌, ℕ, ◌<◌, Bool, true, false, List, [], ◌∷◌, ◌++◌, length, Result, Ok, Err, IsTrue}
use Rattle.oas_num.specs.declared.refusals.Why.{Why}
use Rattle.oas_num.specs.declared.refusals.Why.TheVariants.{Truncated, IntegerRange, StringByte, EmptyName, Read, InputTooLong, Memory}
use Rattle.oas_num.specs.Script.{Script, Consumed, IsAtEnd, HasFailed, IsTooLong}
use Rattle.oas_num.specs.Integers.{IsOpen, IsUnsigned}
use Rattle.oas_num.specs.Grammar.{IsSuch, IsByte}
use Rattle.oas_num.specs.Texts.{IsNameByte, IsLabelByte, IsPositive}
use Rattle.oas_num.specs.Begun.{Decides}
use Rattle.oas_num.specs.Pieces.{PairTook, CountTook}

-- The bytes that were read decided, and not the source or the memory.
abbrev pub is_format : Why → Bool
is_format Truncated = false
is_format Read = false
is_format InputTooLong = false
is_format Memory = false
is_format _ = true

-- The input ended, or stopped, before the bytes decided.
abbrev pub is_cut : Why → Bool
is_cut Truncated = true
is_cut Read = true
is_cut InputTooLong = true
is_cut _ = false

-- The tables below say for each reason what all the bytes are that were read.

-- the first bytes of an integer with more to follow, or none
pub record IsUnended (last : List ℕ) : Type 0 where
  pub open_prefix : IsOpen last
  pub few : length last < 10

-- where a read of a byte may fail
abbrev pub ByteMay : Why → List ℕ → Type 0
ByteMay Truncated last = last ≡ []
ByteMay Read last = last ≡ []
ByteMay InputTooLong last = last ≡ []
ByteMay _ last = ⊥

-- the first nine bytes of an integer, and a tenth above 1
pub record IsOutOfRange (bytes : List ℕ) : Type 0 where
  pub front : List ℕ
  pub tenth : ℕ
  pub joined : bytes ≡ front ++ tenth ∷ []
  pub nine : length front ≡ 9
  pub open_prefix : IsOpen front
  pub above : 1 < tenth

-- where a read of an integer may fail
abbrev pub IntegerMay : Why → List ℕ → Type 0
IntegerMay Truncated last = IsUnended last
IntegerMay Read last = IsUnended last
IntegerMay InputTooLong last = IsUnended last
IntegerMay IntegerRange last = IsOutOfRange last
IntegerMay _ last = ⊥

-- a byte outside a class
abbrev pub IsOutside : (ℕ → Type 0) → List ℕ → Type 0
IsOutside class last = (byte : ℕ) × (last ≡ byte ∷ []) × ¬ class byte

-- a byte of a class, for which there is no memory
abbrev pub IsInside : (ℕ → Type 0) → List ℕ → Type 0
IsInside class last = (byte : ℕ) × (last ≡ byte ∷ []) × class byte

-- where a read of a byte of a class may fail
abbrev pub ClassMay : (ℕ → Type 0) → Why → List ℕ → Type 0
ClassMay class Truncated last = last ≡ []
ClassMay class Read last = last ≡ []
ClassMay class InputTooLong last = last ≡ []
ClassMay class StringByte last = IsOutside class last
ClassMay class _ last = ⊥

-- where a read of the bytes of a string may fail
abbrev pub TextMay : (ℕ → Type 0) → Why → List ℕ → Type 0
TextMay class Truncated last = last ≡ []
TextMay class Read last = last ≡ []
TextMay class InputTooLong last = last ≡ []
TextMay class Memory last = IsInside class last
TextMay class StringByte last = IsOutside class last
TextMay class _ last = ⊥

-- where a read of the length of an n-string may fail
abbrev pub NameLengthMay : Why → List ℕ → Type 0
NameLengthMay EmptyName bytes = IsUnsigned 0 bytes
NameLengthMay why bytes = IntegerMay why bytes

-- where a read of this many bytes of a string may fail
abbrev pub TextTook : (ℕ → Type 0) → ℕ → Why → List ℕ → Type 0
TextTook class count = CountTook (IsSuch class IsByte) count (TextMay class)

-- where a read of an n-string may fail
abbrev pub NameTook : Why → List ℕ → Type 0
NameTook = PairTook (IsSuch IsPositive IsUnsigned) NameLengthMay (TextTook IsNameByte)

-- where a read of an a-string may fail
abbrev pub LabelTook : Why → List ℕ → Type 0
LabelTook = PairTook IsUnsigned IntegerMay (TextTook IsLabelByte)

-- where a read of a skipped string may fail
abbrev pub PaddingTook : Why → List ℕ → Type 0
PaddingTook = PairTook IsUnsigned IntegerMay (λ count. CountTook IsByte count ByteMay)

-- No spelling is a prefix of the bytes, whatever follows.
pub record NoneFits {V : Type 0} (spells : V → List ℕ → Type 0) (bytes : List ℕ) : Type 0 where
  pub none : (v : V) (front rest more : List ℕ) → spells v front → front ++ rest ≢ bytes ++ more

-- No spelling is a prefix of the bytes.
pub record NoneWithin {V : Type 0} (spells : V → List ℕ → Type 0) (bytes : List ℕ) : Type 0 where
  pub none : (v : V) (front rest : List ℕ) → spells v front → front ++ rest ≢ bytes

-- A value was read: exactly a spelling of it was taken.
pub record ReadsValue {V : Type 0} (spells : V → List ℕ → Type 0) (old : Script) (v : V) (new : Script) : Type 0 where
  pub bytes : List ℕ
  pub spelled : spells v bytes
  pub takes : Consumed old bytes new

-- A read failed, for a reason that it may have.
pub record FailsBy {V : Type 0} (piece : Bool) (spells : V → List ℕ → Type 0) (may : Why → List ℕ → Type 0) (old : Script) (why : Why) (new : Script) : Type 0 where
  pub bytes : List ℕ
  pub takes : Consumed old bytes new
  pub reason : Decides piece spells (may why) bytes
  pub format : IsTrue (is_format why) → NoneFits spells bytes
  pub cut : IsTrue (is_cut why) → NoneWithin spells bytes
  pub truncated : why ≡ Truncated → IsAtEnd new
  pub device : why ≡ Read → HasFailed new
  pub too_long : why ≡ InputTooLong → IsTooLong new

-- What was read before the bytes that decided is a prefix of a spelling.
abbrev pub Fails : {V : Type 0} → (V → List ℕ → Type 0) → (Why → List ℕ → Type 0) → Script → Why → Script → Type 0
Fails spells may old why new = FailsBy false spells may old why new

-- All that was read decided: the read is of one piece.
abbrev pub FailsPiece : {V : Type 0} → (V → List ℕ → Type 0) → (Why → List ℕ → Type 0) → Script → Why → Script → Type 0
FailsPiece spells may old why new = FailsBy true spells may old why new

-- What a read does: exactly a spelling of the value is taken, or it fails.
abbrev pub Reads : {V : Type 0} → (V → List ℕ → Type 0) → (Why → List ℕ → Type 0) → Script → Result V Why → Script → Type 0
Reads spells may old (Ok v) new = ReadsValue spells old v new
Reads spells may old (Err why) new = Fails spells may old why new

-- The same, for one piece.
abbrev pub ReadsPiece : {V : Type 0} → (V → List ℕ → Type 0) → (Why → List ℕ → Type 0) → Script → Result V Why → Script → Type 0
ReadsPiece spells may old (Ok v) new = ReadsValue spells old v new
ReadsPiece spells may old (Err why) new = FailsPiece spells may old why new

-- The same, for one piece.
abbrev pub ReadsPieceAs : {X V : Type 0} → (X → V) → (V → List ℕ → Type 0) → (Why → List ℕ → Type 0) → Script → Result X Why → Script → Type 0
ReadsPieceAs view spells may old (Ok x) new = ReadsValue spells old (view x) new
ReadsPieceAs view spells may old (Err why) new = FailsPiece spells may old why new
