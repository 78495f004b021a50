-- How the head of a file is spelled: the magic and START (SEMI P39, START record).
use Rattle.std.specs.Prelude.{◌≡◌, ◌≢◌, ℕ, ◌<◌, ◌==◌, Bool, false, List, [], ◌∷◌, ◌++◌, Result, Ok, Err, ◌⊎◌}
use Rattle.oas_num.specs.declared.refusals.Why.{Why}
use Rattle.oas_num.specs.declared.refusals.Why.TheVariants.{Magic, Truncated, Unit as UnitIsRefused, Version, OffsetFlag, OutOfPlace, InputTooLong, Read}
use Rattle.oas_num.specs.declared.refusals.Refusal.{Refusal}
use Rattle.oas_num.specs.declared.reals.Real.{Real}
use Rattle.oas_num.specs.Ratio.{Ratio, IsLowest, Reduces}
use Rattle.oas_num.specs.Grammar.{IsPair, IsSuch, IsImage, IsByte}
use Rattle.oas_num.specs.Combinators.{IsExactly}
use Rattle.oas_num.specs.Integers.{IsUnsigned}
use Rattle.oas_num.specs.Style.{Style, Any, Shortest, unsigned_in}
use Rattle.oas_num.specs.Texts.{IsLabelByte, IsText, label_in}
use Rattle.oas_num.specs.Reals.{real_in, RealTook}
use Rattle.oas_num.specs.Pieces.{PairTook, CountTook, SuchTook, Unless}
use Rattle.oas_num.specs.Reading.{IntegerMay, ClassMay, ReadsValue, Fails, FailsPiece}
use Rattle.oas_num.specs.Script.{Script, Consumed}
use Rattle.oas_record.specs.declared.heads.Head.{Head}
use Rattle.oas_record.specs.Ends.{nothing, IsNumber, offsets_if, OffsetsIfTook}

-- %SEMI-OASIS, CR, LF
abbrev pub magic : List ℕ
magic = 0x25 ∷ 0x53 ∷ 0x45 ∷ 0x4D ∷ 0x49 ∷ 0x2D ∷ 0x4F ∷ 0x41 ∷ 0x53 ∷ 0x49 ∷ 0x53 ∷ 0x0D ∷ 0x0A ∷ []

abbrev pub IsMagic : Unit {0} → List ℕ → Type 0
IsMagic = IsExactly magic

-- this many bytes of an a-string, not kept
abbrev pub IsPassedLabel : ℕ → Unit {0} → List ℕ → Type 0
IsPassedLabel count = IsImage nothing (IsText IsLabelByte count)

-- 1.0
abbrev pub version : List ℕ
version = 0x31 ∷ 0x2E ∷ 0x30 ∷ []

-- the version as an a-string
abbrev pub version_in : Style → Unit {0} → List ℕ → Type 0
version_in style done bytes = label_in style version bytes

-- a real that is positive
abbrev pub IsPositiveReal : Real → Type 0
IsPositiveReal r = (r.negative ≡ false) × ((0 < r.num) × (0 < r.den))

-- a positive real and the same in lowest terms
pub record IsUnit (r : Real) (unit : Ratio) : Type 0 where
  pub positive : r.negative ≡ false
  pub reduces : Reduces r.num r.den unit

-- a unit: any real with that value; in the shortest style the one in lowest terms
pub record SpellsUnit (unit : Ratio) (bytes : List ℕ) : Type 0 where
  pub real : Real
  pub is_unit : IsUnit real unit
  pub spelled : real_in Any real bytes

pub record ShortestUnit (unit : Ratio) (bytes : List ℕ) : Type 0 where
  pub lowest : IsLowest unit
  pub spelled : real_in Shortest (record { negative = false; num = unit.num; den = unit.den }) bytes

abbrev pub unit_in : Style → Ratio → List ℕ → Type 0
unit_in Any = SpellsUnit
unit_in Shortest = ShortestUnit

-- the offset-flag: 0 or 1, and 0 in a canonical file
abbrev pub IsFlag : ℕ → Type 0
IsFlag flag = flag < 2

abbrev pub flag_in : Style → ℕ → List ℕ → Type 0
flag_in Any = IsSuch IsFlag (unsigned_in Any)
flag_in Shortest = IsSuch (IsNumber 0) (unsigned_in Shortest)

-- table-offsets: in a canonical file twelve zeros
abbrev pub twelve_zeros : List ℕ
twelve_zeros = 0 ∷ 0 ∷ 0 ∷ 0 ∷ 0 ∷ 0 ∷ 0 ∷ 0 ∷ 0 ∷ 0 ∷ 0 ∷ 0 ∷ []

abbrev pub offsets_in : Style → Bool → Unit {0} → List ℕ → Type 0
offsets_in Any there = offsets_if there
offsets_in Shortest there = IsExactly twelve_zeros

-- version, unit, flag and table-offsets where the flag is 0
abbrev pub StartParts : Type 0
StartParts = ℕ × (Unit {0} × (Ratio × (ℕ × Unit {0})))

abbrev pub start_parts : Style → StartParts → List ℕ → Type 0
start_parts style =
    IsPair (IsSuch (IsNumber 1) (unsigned_in style)) (λ _.
    IsPair (version_in style) (λ _.
    IsPair (unit_in style) (λ _.
    IsPair (flag_in style) (λ flag.
    offsets_in style (flag == 0)))))

abbrev pub head_of : StartParts → Head
head_of p = record { unit = p.1.1.0; flag_in_end = p.1.1.1.0 == 1 }

-- START
abbrev pub start_in : Style → Head → List ℕ → Type 0
start_in style = IsImage head_of (start_parts style)

abbrev pub head_after : Unit {0} × Head → Head
head_after p = p.1

-- the magic and START
abbrev pub head_in : Style → Head → List ℕ → Type 0
head_in style = IsImage head_after (IsPair IsMagic (λ _. start_in style))

-- a prefix of the magic, and then another byte
pub record IsOffMagic (bytes : List ℕ) : Type 0 where
  pub front : List ℕ
  pub wanted : ℕ
  pub rest : List ℕ
  pub byte : ℕ
  pub is_magic : magic ≡ front ++ wanted ∷ rest
  pub joined : bytes ≡ front ++ byte ∷ []
  pub other : byte ≢ wanted

-- For the magic the table says for each reason what the bytes are that decided: those at the end of what was read. What was
-- read before them is a prefix of the magic.

-- where a read of the magic may fail
abbrev pub MagicMay : Why → List ℕ → Type 0
MagicMay Magic last = IsOffMagic last
MagicMay Truncated last = last ≡ []
MagicMay Read last = last ≡ []
MagicMay InputTooLong last = last ≡ []
MagicMay _ last = ⊥

-- The tables below say for each reason what all the bytes are that were taken.

-- where a read of this many bytes of an a-string that aren't kept may fail
abbrev pub SkippedTook : ℕ → Why → List ℕ → Type 0
SkippedTook count = CountTook (IsSuch IsLabelByte IsByte) count (ClassMay IsLabelByte)

-- where a read of the version may fail: in its a-string, or that is another
abbrev pub IsVersion : List ℕ → Type 0
IsVersion text = text ≡ version

abbrev pub VersionTook : Why → List ℕ → Type 0
VersionTook = SuchTook (label_in Any) (PairTook IsUnsigned IntegerMay SkippedTook) (Unless IsVersion Version)

-- where a read of the unit may fail: in the real, or that isn't positive
abbrev pub UnitTook : Why → List ℕ → Type 0
UnitTook = SuchTook (real_in Any) RealTook (Unless IsPositiveReal UnitIsRefused)

-- where a read of START may fail, part by part: its id, the version, the unit, the flag, the table-offsets
abbrev pub IsOtherId : ℕ → Why → Type 0
IsOtherId id why = (why ≡ OutOfPlace id) × (id ≢ 1)

abbrev pub StartRestTook : Why → List ℕ → Type 0
StartRestTook =
    PairTook (version_in Any) VersionTook (λ _.
    PairTook (unit_in Any) UnitTook (λ _.
    PairTook (flag_in Any) (SuchTook IsUnsigned IntegerMay (Unless IsFlag OffsetFlag)) (λ flag.
    OffsetsIfTook (flag == 0))))

abbrev pub StartTook : Why → List ℕ → Type 0
StartTook = PairTook (IsSuch (IsNumber 1) IsUnsigned) (SuchTook IsUnsigned IntegerMay IsOtherId) (λ _. StartRestTook)

-- the magic is refused, at 0
pub record RefusesMagic (old : Script) (refusal : Refusal) (new : Script) : Type 0 where
  pub at : refusal.at ≡ 0
  pub fails : Fails IsMagic MagicMay old refusal.why new

-- the magic is there, and START is refused, at 13
pub record RefusesStart (old : Script) (refusal : Refusal) (new : Script) : Type 0 where
  pub at : refusal.at ≡ 13
  pub mid : Script
  pub takes : Consumed old magic mid
  pub fails : FailsPiece (start_in Any) StartTook mid refusal.why new

-- What a read of the head of a file does.
abbrev pub ReadsHead : Script → Result Head Refusal → Script → Type 0
ReadsHead old (Ok head) new = ReadsValue (head_in Any) old head new
ReadsHead old (Err refusal) new = RefusesMagic old refusal new ⊎ RefusesStart old refusal new
