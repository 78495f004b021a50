-- How the version is spelled, with a length in any number of bytes (SEMI P39, START record).
use Rattle.std.proofs.Common.{◌≡◌, ℕ, List, [], ◌∷◌, ◌++◌, length, inl, inr, refl, arith}
use Rattle.oas_num.specs.declared.refusals.Why.{Why}
use Rattle.oas_num.specs.declared.refusals.Why.TheVariants.{Write, Version}
use Rattle.oas_num.specs.Begun.{HasSome}
use Rattle.oas_num.specs.Combinators.{IsNever}
use Rattle.oas_num.specs.Grammar.{IsSuch, IsByte}
use Rattle.oas_num.specs.Laws.BegunLaws.{HasSome-such}
use Rattle.oas_num.specs.Laws.CombinatorLaws.{OneSpelling-never}
use Rattle.oas_num.specs.Laws.TextLaws.{label_spelled, IsWithin-label}
use Rattle.oas_num.specs.Pieces.{Unless}
use Rattle.oas_num.specs.Reading.{ClassMay}
use Rattle.oas_num.specs.Style.{Any}
use Rattle.oas_num.specs.Texts.{IsLabelByte, label_in}
use Rattle.oas_num.specs.Writing.{shortest}
use Rattle.oas_record.specs.Ends.{nothing}
use Rattle.oas_record.specs.Found.{Settled, settled_number, settled_both, found_such}
use Rattle.oas_record.specs.FoundParts.{settled_upto, found_byte}
use Rattle.oas_record.specs.Heads.{IsVersion, version}
use Rattle.oas_record.specs.Kinds.{Kind}
use Rattle.oas_record.specs.Trees.{IsTest, pair, items, such, image_any}
use Rattle.oas_standard.specs.Long.{long_number, long_unsigned}

-- ---- a-strings

pub settled_label : (byte : ℕ) → Settled (IsLabelByte byte)
settled_label byte = settled_both (settled_upto 32 byte) (settled_upto byte 126)

pub some_label_byte : HasSome (IsSuch IsLabelByte IsByte)
some_label_byte = HasSome-such IsLabelByte IsByte 32 (32 ∷ []) (record { only = refl; small = omega arith }) (omega arith, omega arith)

-- a byte of an a-string
abbrev pub label_byte : Kind ℕ
label_byte = record {
  any = IsSuch IsLabelByte IsByte;
  shortest = IsNever;
  took = ClassMay IsLabelByte;
  found = found_such IsLabelByte settled_label found_byte;
  one = OneSpelling-never;
  within = record { within = λ v bytes p. absurd p };
  some = some_label_byte;
  never = record { none = λ bytes h. h };
}

-- this many of them
abbrev pub label_text : ℕ → Kind (List ℕ)
label_text count = items count label_byte

-- the same, not kept
abbrev pub passed_label : ℕ → Kind (Unit {0})
passed_label count = image_any nothing (label_text count)

abbrev pub without_length : ℕ × List ℕ → List ℕ
without_length p = p.1

-- a length in any number of bytes, and that many bytes of an a-string
abbrev pub long_label : Kind (List ℕ)
long_label = image_any without_length (pair long_number label_text)

-- an a-string of the profile is one
pub label_long : (text bytes : List ℕ) → label_in Any text bytes → long_label.any text bytes
label_long text bytes p = record {
  from = (length text, text);
  is = refl;
  spelled = record { front = p.front; back = p.back; first = long_unsigned (length text) p.front p.first; second = p.second; joined = p.joined };
}

-- ---- the version

settled_list : (xs ys : List ℕ) → Settled (xs ≡ ys)
settled_list [] [] = inl refl
settled_list [] (y ∷ ys) = inr (λ e. cc)
settled_list (x ∷ xs) [] = inr (λ e. cc)
settled_list (x ∷ xs) (y ∷ ys) = elim (settled_both (settled_number x y) (settled_list xs ys)) [
  | inl both ↦ inl (λ i. both.0 i ∷ both.1 i)
  | inr not ↦ inr (λ e. let head : x ≡ y = cc in let tail : xs ≡ ys = cc in not (head, tail))
]

some_version : label_in Any version (shortest 3 ++ version)
some_version = IsWithin-label.within version (shortest 3 ++ version)
    (label_spelled version (record { fits = omega arith; class = ((omega arith, omega arith), ((omega arith, omega arith), ((omega arith, omega arith), tt))) }))

pub version_test : IsTest long_label.any IsVersion (Unless IsVersion Version)
version_test = record {
  settled = λ text. settled_list text version;
  some = HasSome-such IsVersion long_label.any version (shortest 3 ++ version) (label_long version (shortest 3 ++ version) some_version) refl;
  never = λ text h. let e : Write ≡ Version = h.0 in cc;
}

-- the a-string that is the version, 1.0
abbrev pub version_text : Kind (List ℕ)
version_text = such long_label IsVersion (Unless IsVersion Version) version_test

-- the version, 1.0
abbrev pub long_version : Kind (Unit {0})
long_version = image_any nothing version_text

abbrev pub SpellsVersion : Unit {0} → List ℕ → Type 0
SpellsVersion = long_version.any

-- where a read may fail
abbrev pub LongVersionTook : Why → List ℕ → Type 0
LongVersionTook = long_version.took
