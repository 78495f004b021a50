-- The laws of records, and of lists of them.
use Rattle.std.proofs.Common.{◌≡◌, ℕ, Bool, List, [], refl, ap, ◌∙◌}
use Rattle.oas_num.specs.Grammar.{PrefixFree, IsSuch, IsEach}
use Rattle.oas_num.specs.Laws.GrammarLaws.{PrefixFree-such}
use Rattle.oas_num.specs.Combinators.{IsApart, OneSpelling, IsWithin}
use Rattle.oas_num.specs.Laws.CombinatorLaws.{PrefixFree-keyed, PrefixFree-until, PrefixFree-within, OneSpelling-keyed, OneSpelling-pair, OneSpelling-each, OneSpelling-such}
use Rattle.oas_num.specs.Laws.CombinatorLaws.{IsWithin-keyed, IsWithin-pair, IsWithin-each, IsWithin-such}
use Rattle.oas_num.specs.Style.{Style, Any, Shortest, unsigned_in}
use Rattle.oas_num.specs.Laws.StyleLaws.{PrefixFree-unsigned, OneSpelling-unsigned, IsWithin-unsigned}
use Rattle.oas_record.specs.declared.records.Record.{Record}
use Rattle.oas_record.specs.Records.{id_of, after, after_id, parts_in, record_in, IsInner, IsLast, records_in}

OneSpelling-after_id : (in_end : Bool) (id : ℕ) → OneSpelling (after_id Shortest in_end id)
OneSpelling-after_id in_end id = (after in_end id).one

IsWithin-after_id : (in_end : Bool) (id : ℕ) → IsWithin (after_id Shortest in_end id) (after_id Any in_end id)
IsWithin-after_id in_end id = (after in_end id).within

pub PrefixFree-after_id : (style : Style) (in_end : Bool) (id : ℕ) → PrefixFree (after_id style in_end id)
PrefixFree-after_id Any in_end id = (after in_end id).found.one
PrefixFree-after_id Shortest in_end id = PrefixFree-within (after_id Shortest in_end id) (after_id Any in_end id) (IsWithin-after_id in_end id) (after in_end id).found.one

pub PrefixFree-parts : (style : Style) (in_end : Bool) → PrefixFree (parts_in style in_end)
PrefixFree-parts style in_end = PrefixFree-keyed id_of (unsigned_in style) (after_id style in_end) (PrefixFree-unsigned style) (PrefixFree-after_id style in_end)

pub PrefixFree-record : (style : Style) (in_end : Bool) → PrefixFree (record_in style in_end)
PrefixFree-record style in_end = record { one = λ v w a b x y p q e. (PrefixFree-parts style in_end).one v w a b x y p.parts q.parts e }

pub OneSpelling-record : (in_end : Bool) → OneSpelling (record_in Shortest in_end)
OneSpelling-record in_end = record {
  same = λ v a b p q. (OneSpelling-keyed id_of (unsigned_in Shortest) (after_id Shortest in_end)
      OneSpelling-unsigned (OneSpelling-after_id in_end)).same v a b p.parts q.parts;
}

pub IsWithin-record : (in_end : Bool) → IsWithin (record_in Shortest in_end) (record_in Any in_end)
IsWithin-record in_end = record {
  within = λ v a p. record {
    whole = p.whole;
    parts = (IsWithin-keyed id_of (unsigned_in Shortest) (unsigned_in Any) (after_id Shortest in_end)
        (after_id Any in_end) IsWithin-unsigned (IsWithin-after_id in_end)).within v a p.parts;
  };
}

-- ---- lists of records

pub PrefixFree-inner : (style : Style) (in_end : Bool) → PrefixFree (IsSuch IsInner (record_in style in_end))
PrefixFree-inner style in_end = PrefixFree-such IsInner (record_in style in_end) (PrefixFree-record style in_end)

pub PrefixFree-last : (style : Style) (in_end : Bool) → PrefixFree (IsSuch IsLast (record_in style in_end))
PrefixFree-last style in_end = PrefixFree-such IsLast (record_in style in_end) (PrefixFree-record style in_end)

pub IsApart-last : (style : Style) (in_end : Bool) → IsApart (IsSuch IsInner (record_in style in_end)) (IsSuch IsLast (record_in style in_end))
IsApart-last style in_end = record {
  apart = λ v w a b x y p q e.
      let one = (PrefixFree-record style in_end).one v w a b x y p.spelled q.spelled e in
      p.holds (one.1 ∙ q.holds);
}

pub PrefixFree-records : (style : Style) (in_end : Bool) → PrefixFree (records_in style in_end)
PrefixFree-records style in_end = PrefixFree-until (IsSuch IsInner (record_in style in_end)) (IsSuch IsLast (record_in style in_end))
    (PrefixFree-inner style in_end) (PrefixFree-last style in_end) (IsApart-last style in_end)

pub OneSpelling-records : (in_end : Bool) → OneSpelling (records_in Shortest in_end)
OneSpelling-records in_end = OneSpelling-pair (IsEach (IsSuch IsInner (record_in Shortest in_end))) (λ _. IsSuch IsLast (record_in Shortest in_end))
    (OneSpelling-each (IsSuch IsInner (record_in Shortest in_end)) (OneSpelling-such IsInner (record_in Shortest in_end) (OneSpelling-record in_end)))
    (λ _. OneSpelling-such IsLast (record_in Shortest in_end) (OneSpelling-record in_end))

pub IsWithin-records : (in_end : Bool) → IsWithin (records_in Shortest in_end) (records_in Any in_end)
IsWithin-records in_end = IsWithin-pair (IsEach (IsSuch IsInner (record_in Shortest in_end))) (IsEach (IsSuch IsInner (record_in Any in_end)))
    (λ _. IsSuch IsLast (record_in Shortest in_end)) (λ _. IsSuch IsLast (record_in Any in_end))
    (IsWithin-each (IsSuch IsInner (record_in Shortest in_end)) (IsSuch IsInner (record_in Any in_end))
    (IsWithin-such IsInner (record_in Shortest in_end) (record_in Any in_end) (IsWithin-record in_end)))
    (λ _. IsWithin-such IsLast (record_in Shortest in_end) (record_in Any in_end) (IsWithin-record in_end))

-- a byte list has at most one list of records
pub one_list : (style : Style) (in_end : Bool) (rs ss : List Record) (r s : Record) (bytes : List ℕ) → records_in style in_end (rs, r) bytes
    → records_in style in_end (ss, s) bytes → (rs ≡ ss) × (r ≡ s)
one_list style in_end rs ss r s bytes p q =
    let one = (PrefixFree-records style in_end).one (rs, r) (ss, s) bytes bytes [] [] p q refl in
    (ap (λ x. x.0) one.1, ap (λ x. x.1) one.1)
