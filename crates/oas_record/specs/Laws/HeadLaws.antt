-- The laws of the head of a file.
use Rattle.std.proofs.Common.{◌≡◌, ℕ, Bool, false, List, [], ◌∷◌, ◌++◌, inl, refl, sym, subst, arith}
use Rattle.std.specs.Prelude.{◌==◌}
use Rattle.oas_num.specs.declared.reals.Real.{Real}
use Rattle.oas_num.specs.Ratio.{Ratio, IsLowest, Reduces}
use Rattle.oas_num.specs.Laws.RatioLaws.{one_lowest}
use Rattle.oas_num.specs.Grammar.{PrefixFree, IsPair, IsSuch, IsEach}
use Rattle.oas_num.specs.Laws.GrammarLaws.{PrefixFree-pair, PrefixFree-such, PrefixFree-image}
use Rattle.oas_num.specs.Combinators.{OneSpelling, IsWithin}
use Rattle.oas_num.specs.Laws.CombinatorLaws.{PrefixFree-exactly, PrefixFree-within, OneSpelling-pair, OneSpelling-such, OneSpelling-exactly, IsWithin-pair, IsWithin-such, IsWithin-image, IsWithin-itself}
use Rattle.oas_num.specs.Integers.{IsUnsigned}
use Rattle.oas_num.specs.Style.{Style, Any, Shortest, unsigned_in}
use Rattle.oas_num.specs.Laws.StyleLaws.{PrefixFree-unsigned, OneSpelling-unsigned, IsWithin-unsigned}
use Rattle.oas_num.specs.Laws.TextLaws.{PrefixFree-label, OneSpelling-label, IsWithin-label}
use Rattle.oas_num.specs.Laws.RealLaws.{PrefixFree-real, OneSpelling-real, IsWithin-real}
use Rattle.oas_record.specs.declared.heads.Head.{Head}
use Rattle.oas_record.specs.Ends.{IsNumber, IsOffsets, offsets_if, offsets_part}
use Rattle.oas_record.specs.Trees.{OneSpelling-image_by}
use Rattle.oas_record.specs.Heads.{magic, IsMagic, version, version_in, SpellsUnit, unit_in, IsFlag, flag_in, twelve_zeros, offsets_in, StartParts, start_parts, head_of, start_in, head_after, head_in}

-- ---- the version

pub PrefixFree-version : (style : Style) → PrefixFree (version_in style)
PrefixFree-version style = record { one = λ v w a b x y p q e. let one = (PrefixFree-label style).one version version a b x y p q e in (one.0, refl) }

pub OneSpelling-version : OneSpelling (version_in Shortest)
OneSpelling-version = record { same = λ v a b p q. OneSpelling-label.same version a b p q }

pub IsWithin-version : IsWithin (version_in Shortest) (version_in Any)
IsWithin-version = record { within = λ v a p. IsWithin-label.within version a p }

-- ---- the unit

unit_one : (v w : Ratio) (a b x y : List ℕ) → SpellsUnit v a → SpellsUnit w b → a ++ x ≡ b ++ y → (a ≡ b) × (v ≡ w)
unit_one v w a b x y p q e =
    let one = (PrefixFree-real Any).one p.real q.real a b x y p.spelled q.spelled e in
    let reduces : Reduces q.real.num q.real.den v = subst (λ (r : Real). Reduces r.num r.den v) one.1 p.is_unit.reduces in
    (one.0, one_lowest q.real.num q.real.den v w reduces q.is_unit.reduces)

pub PrefixFree-SpellsUnit : PrefixFree SpellsUnit
PrefixFree-SpellsUnit = record { one = unit_one }

pub OneSpelling-unit : OneSpelling (unit_in Shortest)
OneSpelling-unit = record { same = λ v a b p q. OneSpelling-real.same (record { negative = false; num = v.num; den = v.den }) a b p.spelled q.spelled }

pub itself : (v : Ratio) → IsLowest v → Reduces v.num v.den v
itself v lowest = record { lowest = lowest; same_value = refl; divisor = 1; some = omega arith; greatest = lowest.coprime; num_is = omega arith; den_is = omega arith }

pub IsWithin-unit : IsWithin (unit_in Shortest) (unit_in Any)
IsWithin-unit = record {
  within = λ v a p. record {
    real = record { negative = false; num = v.num; den = v.den };
    is_unit = record { positive = refl; reduces = itself v p.lowest };
    spelled = IsWithin-real.within (record { negative = false; num = v.num; den = v.den }) a p.spelled;
  };
}

pub PrefixFree-unit : (style : Style) → PrefixFree (unit_in style)
PrefixFree-unit Any = PrefixFree-SpellsUnit
PrefixFree-unit Shortest = PrefixFree-within _ _ IsWithin-unit PrefixFree-SpellsUnit

-- ---- flag and table-offsets

pub PrefixFree-flag : (style : Style) → PrefixFree (flag_in style)
PrefixFree-flag Any = PrefixFree-such IsFlag (unsigned_in Any) (PrefixFree-unsigned Any)
PrefixFree-flag Shortest = PrefixFree-such (IsNumber 0) (unsigned_in Shortest) (PrefixFree-unsigned Shortest)

flag_within : (n : ℕ) (a : List ℕ) → flag_in Shortest n a → flag_in Any n a
flag_within n a p = record { holds = omega (arith, p.holds); spelled = p.spelled.spelled }

one_zero : IsUnsigned 0 (0 ∷ [])
one_zero = record { closed = inl (omega arith, refl); short = omega arith; value = omega arith; fits = omega arith }

each_zero : (bytes : List ℕ) → IsEach (unsigned_in Any) bytes bytes → IsEach (unsigned_in Any) (0 ∷ bytes) (0 ∷ bytes)
each_zero bytes h = (0 ∷ [], bytes, one_zero, h, refl)

twelve : IsEach (unsigned_in Any) twelve_zeros twelve_zeros
twelve = each_zero _ (each_zero _ (each_zero _ (each_zero _ (each_zero _ (each_zero _ (each_zero _ (each_zero _ (each_zero _ (each_zero _ (each_zero _ (each_zero [] refl)))))))))))

pub offsets_within : (v : Unit {0}) (a : List ℕ) → a ≡ twelve_zeros → IsOffsets v a
offsets_within v a p = record { from = twelve_zeros; is = refl; spelled = record { len = refl; each = subst (λ (c : List ℕ). IsEach (unsigned_in Any) twelve_zeros c) (sym p) twelve } }

-- ---- START

abbrev with_flag : Style → ℕ × Unit {0} → List ℕ → Type 0
with_flag style = IsPair (flag_in style) (λ flag. offsets_in style (flag == 0))

PrefixFree-offsets_in : (style : Style) (there : Bool) → PrefixFree (offsets_in style there)
PrefixFree-offsets_in Any there = (offsets_part there).found.one
PrefixFree-offsets_in Shortest there = PrefixFree-exactly twelve_zeros

flags_within : (v : ℕ × Unit {0}) (a : List ℕ) → with_flag Shortest v a → with_flag Any v a
flags_within v a p =
    let zero_flag : v.0 ≡ 0 = p.first.holds in
    record {
      front = p.front;
      back = p.back;
      joined = p.joined;
      first = flag_within v.0 p.front p.first;
      second = subst (λ n. offsets_if (n == 0) v.1 p.back) (sym zero_flag) (offsets_within v.1 p.back p.second);
    }

abbrev with_unit : Style → Ratio × (ℕ × Unit {0}) → List ℕ → Type 0
with_unit style = IsPair (unit_in style) (λ _. with_flag style)

abbrev with_version : Style → Unit {0} × (Ratio × (ℕ × Unit {0})) → List ℕ → Type 0
with_version style = IsPair (version_in style) (λ _. with_unit style)

pub PrefixFree-start_id : (style : Style) → PrefixFree (IsSuch (IsNumber 1) (unsigned_in style))
PrefixFree-start_id style = PrefixFree-such (IsNumber 1) (unsigned_in style) (PrefixFree-unsigned style)

PrefixFree-start_parts : (style : Style) → PrefixFree (start_parts style)
PrefixFree-start_parts style =
    PrefixFree-pair (IsSuch (IsNumber 1) (unsigned_in style)) (λ _. with_version style) (PrefixFree-start_id style) (λ _.
    PrefixFree-pair (version_in style) (λ _. with_unit style) (PrefixFree-version style) (λ _.
    PrefixFree-pair (unit_in style) (λ _. with_flag style) (PrefixFree-unit style) (λ _.
    PrefixFree-pair (flag_in style) (λ flag. offsets_in style (flag == 0)) (PrefixFree-flag style) (λ flag. PrefixFree-offsets_in style (flag == 0)))))

pub PrefixFree-start : (style : Style) → PrefixFree (start_in style)
PrefixFree-start style = PrefixFree-image head_of (start_parts style) (PrefixFree-start_parts style)

OneSpelling-start_parts : OneSpelling (start_parts Shortest)
OneSpelling-start_parts =
    OneSpelling-pair (IsSuch (IsNumber 1) (unsigned_in Shortest)) (λ _. with_version Shortest) (OneSpelling-such (IsNumber 1) (unsigned_in Shortest) OneSpelling-unsigned) (λ _.
    OneSpelling-pair (version_in Shortest) (λ _. with_unit Shortest) OneSpelling-version (λ _.
    OneSpelling-pair (unit_in Shortest) (λ _. with_flag Shortest) OneSpelling-unit (λ _.
    OneSpelling-pair (flag_in Shortest) (λ flag. offsets_in Shortest (flag == 0))
    (OneSpelling-such (IsNumber 0) (unsigned_in Shortest) OneSpelling-unsigned) (λ flag. OneSpelling-exactly twelve_zeros))))

abbrev parts_back : Head → StartParts
parts_back head = (1, (tt, (head.unit, (0, tt))))

parts_same : (id flag : ℕ) (unit : Ratio) → id ≡ 1 → flag ≡ 0 → ◌≡◌ {A = StartParts} (1, (tt, (unit, (0, tt)))) (id, (tt, (unit, (flag, tt))))
parts_same id flag unit e f = λ i. (sym e i, (tt, (unit, (sym f i, tt))))

pub OneSpelling-start : OneSpelling (start_in Shortest)
OneSpelling-start = OneSpelling-image_by head_of parts_back (start_parts Shortest) (λ u a p. parts_same u.0 u.1.1.1.0 u.1.1.0 p.first.holds p.second.second.second.first.holds) OneSpelling-start_parts

pub IsWithin-start : IsWithin (start_in Shortest) (start_in Any)
IsWithin-start =
    IsWithin-image head_of (start_parts Shortest) (start_parts Any)
    (IsWithin-pair (IsSuch (IsNumber 1) (unsigned_in Shortest)) (IsSuch (IsNumber 1) (unsigned_in Any)) (λ _. with_version Shortest)
    (λ _. with_version Any) (IsWithin-such (IsNumber 1) (unsigned_in Shortest) (unsigned_in Any) IsWithin-unsigned) (λ _.
    IsWithin-pair (version_in Shortest) (version_in Any) (λ _. with_unit Shortest) (λ _. with_unit Any) IsWithin-version (λ _.
    IsWithin-pair (unit_in Shortest) (unit_in Any) (λ _. with_flag Shortest) (λ _. with_flag Any) IsWithin-unit (λ _. record { within = flags_within }))))

-- ---- the head

pub PrefixFree-head : (style : Style) → PrefixFree (head_in style)
PrefixFree-head style = PrefixFree-image head_after (IsPair IsMagic (λ _. start_in style)) (PrefixFree-pair IsMagic (λ _. start_in style) (PrefixFree-exactly magic) (λ _. PrefixFree-start style))

abbrev head_back : Head → Unit {0} × Head
head_back head = (tt, head)

pub OneSpelling-head : OneSpelling (head_in Shortest)
OneSpelling-head = OneSpelling-image_by head_after head_back (IsPair IsMagic (λ _. start_in Shortest)) (λ u a p. refl)
    (OneSpelling-pair IsMagic (λ _. start_in Shortest) (OneSpelling-exactly magic) (λ _. OneSpelling-start))

pub IsWithin-head : IsWithin (head_in Shortest) (head_in Any)
IsWithin-head = IsWithin-image head_after (IsPair IsMagic (λ _. start_in Shortest)) (IsPair IsMagic (λ _. start_in Any))
    (IsWithin-pair IsMagic IsMagic (λ _. start_in Shortest) (λ _. start_in Any) (IsWithin-itself IsMagic) (λ _. IsWithin-start))
