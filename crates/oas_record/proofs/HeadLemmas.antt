-- Reading the version, the unit, START, and with the magic the head of a file.
use Rattle.std.proofs.Common.{◌≡◌, ◌≢◌, ℕ, ◌*◌, ◌<◌, ◌≤◌, false, List, [], ◌∷◌, ◌++◌, length, Err, IsTrue, inl, inr, refl, sym, ap, subst, ◌∙◌, arith}
use Rattle.std.specs.Prelude.{◌⊎◌}
use Rattle.std.proofs.lemmas.Nat.{mul-le}
use Rattle.oas_num.specs.declared.refusals.Why.{Why}
use Rattle.oas_num.specs.declared.refusals.Why.TheVariants.{Version, Unit as UnitIsRefused}
use Rattle.oas_num.specs.declared.reals.Real.{Real}
use Rattle.oas_num.specs.Script.{Script}
use Rattle.oas_num.specs.Ratio.{Ratio}
use Rattle.oas_num.specs.Grammar.{PrefixFree, IsPair, IsSuch, IsByte}
use Rattle.oas_num.specs.Integers.{IsUnsigned}
use Rattle.oas_num.specs.Style.{Any}
use Rattle.oas_num.specs.Texts.{IsLabelByte, IsText, label_in, SpellsLabel}
use Rattle.oas_num.specs.Laws.IntegerLaws.{PrefixFree-IsUnsigned}
use Rattle.oas_num.specs.Pieces.{PairTook}
use Rattle.oas_num.specs.Laws.TextLaws.{PrefixFree-label, PrefixFree-class}
use Rattle.oas_num.specs.Reals.{real_in, RealTook}
use Rattle.oas_num.specs.Laws.RealLaws.{PrefixFree-real}
use Rattle.oas_num.specs.Reading.{ReadsValue, Fails, FailsPiece, IntegerMay, ClassMay}
use Rattle.oas_num.proofs.ReadLemmas.{Consumed-none, Consumed-then}
use Rattle.oas_num.proofs.PieceLemmas.{fails_behind, first_fails, second_fails, keyed_fails, item_fails}
use Rattle.oas_num.proofs.GrammarLemmas.{such_read, Listed, listed_none, listed_more, listed_all}
use Rattle.oas_record.specs.declared.heads.Head.{Head}
use Rattle.oas_record.specs.Ends.{IsNumber}
use Rattle.oas_record.specs.Heads.{magic, IsMagic, MagicMay, IsPassedLabel, SkippedTook, version, version_in, VersionTook, IsPositiveReal, IsUnit, SpellsUnit, UnitTook, IsFlag}
use Rattle.oas_record.specs.Heads.{flag_in, start_in, StartTook, head_in, ReadsHead}
use Rattle.oas_record.specs.Laws.HeadLaws.{PrefixFree-start_id, PrefixFree-flag}

-- ---- the version

abbrev label_parts : ℕ × List ℕ → List ℕ → Type 0
label_parts = IsPair IsUnsigned (λ count. IsText IsLabelByte count)

-- the a-string fails
label_fails : {old new : Script} {why : Why} → FailsPiece SpellsLabel (PairTook IsUnsigned IntegerMay SkippedTook) old why new → FailsPiece (version_in Any) VersionTook old why new
label_fails {old = old} f = fails_behind (version_in Any) SpellsLabel [] (λ _ h. inl h) (Consumed-none old) (record { wants = λ v p r rest s e. (version, p, r, s, e) }) f

-- its length fails
pub version_length_fails : {old new : Script} {why : Why} → FailsPiece IsUnsigned IntegerMay old why new → FailsPiece (version_in Any) VersionTook old why new
version_length_fails {old = old} {new = new} {why = why} f =
    let g : FailsPiece label_parts (PairTook IsUnsigned IntegerMay SkippedTook) old why new = first_fails f in
    label_fails (keyed_fails length g)

-- its bytes fail
label_text_fails : {old mid new : Script} {n : ℕ} {why : Why} → ReadsValue IsUnsigned old n mid
    → FailsPiece (IsText IsLabelByte n) (SkippedTook n) mid why new → FailsPiece (version_in Any) VersionTook old why new
label_text_fails {old = old} {new = new} {why = why} read f =
    let g : FailsPiece label_parts (PairTook IsUnsigned IntegerMay SkippedTook) old why new = second_fails PrefixFree-IsUnsigned read f in
    label_fails (keyed_fails length g)

-- the bytes of a text of another length fail
pub version_pass_fails : {old mid new : Script} {n : ℕ} {why : Why} → ReadsValue IsUnsigned old n mid
    → FailsPiece (IsPassedLabel n) (SkippedTook n) mid why new → FailsPiece (version_in Any) VersionTook old why new
version_pass_fails {mid = mid} {n = n} read f =
    label_text_fails read (fails_behind (IsText IsLabelByte n) (IsPassedLabel n) [] (λ _ h. h) (Consumed-none mid)
    (record { wants = λ v p r rest s e. (tt, p, r, record { from = v; is = refl; spelled = s }, e) }) f)

-- a byte of a text of three bytes fails
pub version_byte_fails : {old mid now new : Script} {n : ℕ} {why : Why} (text : List ℕ) → n ≡ 3 → ReadsValue IsUnsigned old n mid
    → Listed (IsSuch IsLabelByte IsByte) mid now text → length text < 3 → FailsPiece (IsSuch IsLabelByte IsByte) (ClassMay IsLabelByte) now why new
    → FailsPiece (version_in Any) VersionTook old why new
version_byte_fails text three read listed lt f = label_text_fails read (item_fails (PrefixFree-class IsLabelByte) (λ _ h. h) (omega (arith, lt, three)) listed f)

-- the text as a label
as_label : {old mid new : Script} {n : ℕ} (text : List ℕ) → ReadsValue IsUnsigned old n mid → ReadsValue (IsText IsLabelByte n) mid text new → ReadsValue (label_in Any) old text new
as_label {old = old} {mid = mid} {new = new} {n = n} text read bytes =
    let same : length text ≡ n = bytes.spelled.len in
    record {
      bytes = read.bytes ++ bytes.bytes;
      takes = Consumed-then old mid new read.bytes bytes.bytes read.takes bytes.takes;
      spelled = record { front = read.bytes; back = bytes.bytes; first = rw (← same) at read.spelled; second = record { len = refl; each = bytes.spelled.each }; joined = refl };
    }

-- another text was read
pub version_wrong : {old mid new : Script} {n : ℕ} (text : List ℕ) → text ≢ version → ReadsValue IsUnsigned old n mid
    → ReadsValue (IsText IsLabelByte n) mid text new → FailsPiece (version_in Any) VersionTook old Version new
version_wrong {old = old} {new = new} text isnt read bytes =
    let label = as_label text read bytes in
    record {
      bytes = label.bytes;
      takes = label.takes;
      reason = record { front = []; last = label.bytes; joined = refl; begun = refl; holds = inr (text, label.spelled, (refl, isnt)) };
      format = λ _. record { none = λ v p r more s e. let one = (PrefixFree-label Any).one version text p label.bytes r more s label.spelled e in isnt (sym one.1) };
      cut = λ is. absurd cc;
      truncated = λ is. absurd cc;
      device = λ is. absurd cc;
      too_long = λ is. absurd cc;
    }

pub version_passed : {old mid new : Script} {n : ℕ} {v : Unit {0}} → n ≢ 3 → ReadsValue IsUnsigned old n mid → ReadsValue (IsPassedLabel n) mid v new
    → FailsPiece (version_in Any) VersionTook old Version new
version_passed {n = n} isnt read passed =
    let text = passed.spelled.from in
    version_wrong text (λ e. isnt (sym passed.spelled.spelled.len ∙ ap length e)) read (record { bytes = passed.bytes; spelled = passed.spelled.spelled; takes = passed.takes })

-- three bytes were read
pub three : {old mid1 mid2 new : Script} {a b c : ℕ} → ReadsValue (IsSuch IsLabelByte IsByte) old a mid1
    → ReadsValue (IsSuch IsLabelByte IsByte) mid1 b mid2 → ReadsValue (IsSuch IsLabelByte IsByte) mid2 c new
    → Listed (IsSuch IsLabelByte IsByte) old new (a ∷ b ∷ c ∷ [])
three {old = old} {mid1 = mid1} {mid2 = mid2} {new = new} {a = a} {b = b} {c = c} p q r =
    listed_more _ old mid2 new (a ∷ b ∷ []) c (listed_more _ old mid1 mid2 (a ∷ []) b (listed_more _ old old mid1 [] a (listed_none _ old) p) q) r

pub two : {old mid1 new : Script} {a b : ℕ} → ReadsValue (IsSuch IsLabelByte IsByte) old a mid1 → ReadsValue (IsSuch IsLabelByte IsByte) mid1 b new
    → Listed (IsSuch IsLabelByte IsByte) old new (a ∷ b ∷ [])
two {old = old} {mid1 = mid1} {new = new} {a = a} {b = b} p q = listed_more _ old mid1 new (a ∷ []) b (listed_more _ old old mid1 [] a (listed_none _ old) p) q

pub one : {old new : Script} {a : ℕ} → ReadsValue (IsSuch IsLabelByte IsByte) old a new → Listed (IsSuch IsLabelByte IsByte) old new (a ∷ [])
one {old = old} {new = new} {a = a} p = listed_more _ old old new [] a (listed_none _ old) p

pub version_other : {old mid new : Script} {n a b c : ℕ} → n ≡ 3
    → ((a ≡ 0x31) → ⊥) ⊎ (((a ≡ 0x31) × ((b ≡ 0x2E) → ⊥)) ⊎ ((a ≡ 0x31) × (b ≡ 0x2E) × ((c ≡ 0x30) → ⊥))) → ReadsValue IsUnsigned old n mid
    → Listed (IsSuch IsLabelByte IsByte) mid new (a ∷ b ∷ c ∷ []) → FailsPiece (version_in Any) VersionTook old Version new
version_other {mid = mid} {new = new} {n = n} {a = a} {b = b} {c = c} is isnt read listed =
    version_wrong (a ∷ b ∷ c ∷ []) (λ e. let f : a ≡ 0x31 = cc in let g : b ≡ 0x2E = cc in let h : c ≡ 0x30 = cc in
    elim isnt [ inl m ↦ m f | inr m ↦ elim m [ inl k ↦ k.1 g | inr k ↦ k.2 h ] ]) read
    (listed_all (IsSuch IsLabelByte IsByte) n mid new (a ∷ b ∷ c ∷ []) (sym is) listed)

pub version_done : {old mid new : Script} {n a b c : ℕ} (v : Unit {0}) → n ≡ 3 → (a ≡ 0x31) × ((b ≡ 0x2E) × (c ≡ 0x30))
    → ReadsValue IsUnsigned old n mid → Listed (IsSuch IsLabelByte IsByte) mid new (a ∷ b ∷ c ∷ []) → ReadsValue (version_in Any) old v new
version_done {old = old} {mid = mid} {new = new} {n = n} {a = a} {b = b} {c = c} v is same read listed =
    let label = as_label (a ∷ b ∷ c ∷ []) read (listed_all (IsSuch IsLabelByte IsByte) n mid new (a ∷ b ∷ c ∷ []) (sym is) listed) in
    let f = same.0 in let g = same.1.0 in let h = same.1.1 in
    let text : a ∷ b ∷ c ∷ [] ≡ version = cc in
    record { bytes = label.bytes; spelled = subst (λ (t : List ℕ). label_in Any t label.bytes) text label.spelled; takes = label.takes }

-- ---- the unit

product_some : (a b n : ℕ) → 0 < a → 0 < b → a * b ≡ n → 0 < n
product_some a b n p q e = let m : 1 * 1 ≤ a * b = mul-le 1 1 a b p q in omega (arith, m, e)

positive_unit : (r : Real) (unit : Ratio) → IsUnit r unit → IsPositiveReal r
positive_unit r unit h = (
  h.positive,
  (
    product_some unit.num h.reduces.divisor r.num h.reduces.lowest.num_some h.reduces.some h.reduces.num_is,
    product_some unit.den h.reduces.divisor r.den h.reduces.lowest.den_some h.reduces.some h.reduces.den_is,
  ),
)

pub unit_fails : {old new : Script} {why : Why} → FailsPiece (real_in Any) RealTook old why new → FailsPiece SpellsUnit UnitTook old why new
unit_fails {old = old} f = fails_behind SpellsUnit (real_in Any) [] (λ _ h. inl h) (Consumed-none old) (record { wants = λ v p r rest s e. (s.real, p, r, s.spelled, e) }) f

pub unit_refused : {old new : Script} (r : Real) → ¬ IsPositiveReal r → ReadsValue (real_in Any) old r new → FailsPiece SpellsUnit UnitTook old UnitIsRefused new
unit_refused r isnt read = record {
  bytes = read.bytes;
  takes = read.takes;
  reason = record { front = []; last = read.bytes; joined = refl; begun = refl; holds = inr (r, read.spelled, (refl, isnt)) };
  format = λ _. record {
    none = λ u p rest more s e. let one = (PrefixFree-real Any).one s.real r p read.bytes rest more s.spelled read.spelled e in
        isnt (subst IsPositiveReal one.1 (positive_unit s.real u s.is_unit));
  };
  cut = λ is. absurd cc;
  truncated = λ is. absurd cc;
  device = λ is. absurd cc;
  too_long = λ is. absurd cc;
}

pub negative_isnt : (r : Real) → IsTrue r.negative → ¬ IsPositiveReal r
negative_isnt r is h = let e : r.negative ≡ false = h.0 in absurd cc

pub zero_isnt : (r : Real) → (r.num ≡ 0) ⊎ (r.den ≡ 0) → ¬ IsPositiveReal r
zero_isnt r is h = elim is [ inl e ↦ omega (arith, e, h.1.0) | inr e ↦ omega (arith, e, h.1.1) ]

-- ---- START

pub id_field : {old new : Script} {id : ℕ} → id ≡ 1 → ReadsValue IsUnsigned old id new → PrefixFree (IsSuch (IsNumber 1) IsUnsigned) × ReadsValue (IsSuch (IsNumber 1) IsUnsigned) old id new
id_field {old = old} {new = new} {id = id} is read = (PrefixFree-start_id Any, such_read (IsNumber 1) IsUnsigned old new id is read)

pub flag_field : {old new : Script} {flag : ℕ} → flag ≤ 1 → ReadsValue IsUnsigned old flag new → PrefixFree (flag_in Any) × ReadsValue (flag_in Any) old flag new
flag_field {old = old} {new = new} {flag = flag} le read = (PrefixFree-flag Any, such_read IsFlag IsUnsigned old new flag (omega (arith, le)) read)

pub other_flag : {flag : ℕ} → 1 < flag → ¬ IsFlag flag
other_flag large lt = omega (arith, lt, large)

-- ---- the head

pub magic_refused : {old new : Script} {why : Why} → Fails IsMagic MagicMay old why new → ReadsHead old (Err (record { at = 0; why = why })) new
magic_refused f = inl (record { at = refl; fails = f })

pub start_refused : {old mid new : Script} {why : Why} {v : Unit {0}} → ReadsValue IsMagic old v mid → FailsPiece (start_in Any) StartTook mid why new
    → ReadsHead old (Err (record { at = 13; why = why })) new
start_refused {old = old} {mid = mid} {new = new} read f = inr (record { at = refl; mid = mid; takes = let e : read.bytes ≡ magic = read.spelled in rw e at read.takes; fails = f })

pub front_read : {old mid new : Script} {head : Head} {v : Unit {0}} → ReadsValue IsMagic old v mid → ReadsValue (start_in Any) mid head new → ReadsValue (head_in Any) old head new
front_read {old = old} {mid = mid} {new = new} {head = head} {v = v} read rest = record {
  bytes = read.bytes ++ rest.bytes;
  takes = Consumed-then old mid new read.bytes rest.bytes read.takes rest.takes;
  spelled = record { from = (tt, head); is = refl; spelled = record { front = read.bytes; back = rest.bytes; first = read.spelled; second = rest.spelled; joined = refl } };
}
