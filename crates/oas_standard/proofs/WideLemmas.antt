-- Reading records of the standard: the id, what follows it, and END's length.
use Rattle.std.proofs.Common.{◌≡◌, ◌≢◌, ℕ, ◌+◌, ◌≤◌, Bool, true, false, IsTrue, inl, inr, List, [], ◌++◌, length, Some, refl, sym, ap, subst, ◌∙◌, append_assoc, ◌⊎◌, arith}
use Rattle.std.specs.Prelude.{◌==◌, ◌&&◌, not, if◌then◌else◌}
use Rattle.oas_num.specs.declared.refusals.Why.{Why}
use Rattle.oas_num.specs.declared.refusals.Why.TheVariants as why
use Rattle.oas_num.specs.Combinators.{IsEither}
use Rattle.oas_num.specs.Grammar.{PrefixFree, IsPair}
use Rattle.oas_num.specs.Laws.GrammarLaws.{PrefixFree-pair, after_same}
use Rattle.oas_num.specs.Reading.{is_format, ReadsValue, FailsPiece}
use Rattle.oas_num.specs.Script.{Script}
use Rattle.oas_num.proofs.HalfwayLemmas.{by_format}
use Rattle.oas_num.proofs.MidwayLemmas.{uncut, image_fails}
use Rattle.oas_num.proofs.PieceLemmas.{fails_behind}
use Rattle.oas_num.proofs.ReadLemmas.{Consumed-none, Consumed-then, Wants}
use Rattle.oas_long_integers.specs.AnyLength.{first_of}
use Rattle.oas_long_integers.specs.Places.{shortened}
use Rattle.std.proofs.lemmas.Bool.{and_parts}
use Rattle.oas_record.specs.Refusals.{is_known, IsKnown}
use Rattle.oas_record.proofs.IdLemmas.{either_id, id_after, known_id, known_within}
use Rattle.oas_standard.specs.declared.reasons.WideWhy.{WideWhy}
use Rattle.oas_standard.specs.declared.reasons.WideWhy.TheVariants as wide
use Rattle.oas_standard.specs.declared.records.WideRecord.{WideRecord}
use Rattle.oas_standard.specs.declared.ends.WideEnd.{WideEnd}
use Rattle.oas_standard.specs.Ends.{SpellsWideEnd, WideEndTook}
use Rattle.oas_standard.specs.Long.{IsLong, LongMay, PrefixFree-long}
use Rattle.oas_standard.proofs.ForeignLemmas.{kind_read}
use Rattle.oas_standard.specs.Reasons.{named, plain_of}
use Rattle.oas_standard.specs.WideRecords.{end, foreign, fields, fields_in, is_profile_id, wide_record_in, IsWideId, IsRefusedWideId, RefusesWideId, WideRecordTook, FailsWide}

-- ---- reasons

one_of : (test : Bool) (a b : WideWhy) (reason : Why) → plain_of a ≡ reason → plain_of b ≡ reason → plain_of (if test then a else b) ≡ reason
one_of true a b reason p q = p
one_of false a b reason p q = q

-- a reason that is named denotes what it was
plain_named : (id : ℕ) (reason : Why) → plain_of (named id reason) ≡ reason
plain_named id why.InfoByte = one_of (id == 26) _ _ _ refl (one_of (id == 11) _ _ _ refl (one_of (id == 12) _ _ _ refl refl))
plain_named id why.RealType = one_of (id == 28) _ _ _ refl refl
plain_named id _ = refl

-- ---- ids

wide_id : (id n : ℕ) → 2 ≤ n → n ≤ 34 → id ≡ n → IsWideId id
wide_id id n low high is = (λ e. omega (arith, low, is, e), omega (arith, high, is))

-- what an id is followed by, where it is the tested one or another
by_test : {C : Type 0} (id n : ℕ) (A B : WideRecord → List ℕ → Type 0) (v : WideRecord) (q : List ℕ) → (id ≡ n → C) → (B v q → C) → IsEither (id == n) A B v q → C
by_test id n A B v q here other h = elim (either_id id n A B v q h) [ inl p ↦ here p.0 | inr r ↦ other r ]

pub profile_known : (id : ℕ) → is_profile_id id ≡ true → IsKnown id
profile_known id h = (and_parts (not (id == 18)) (is_known id) (and_parts (not (id == 2)) (not (id == 18) && is_known id) h).1).1

foreign_wide : (in_end : Bool) (id : ℕ) (v : WideRecord) (q : List ℕ) → (foreign in_end id).any v q → IsWideId id
foreign_wide in_end id v q =
    by_test id 2 _ _ v q (wide_id id 2 (omega arith) (omega arith))
    (by_test id 7 _ _ v q (wide_id id 7 (omega arith) (omega arith))
    (by_test id 8 _ _ v q (wide_id id 8 (omega arith) (omega arith))
    (by_test id 9 _ _ v q (wide_id id 9 (omega arith) (omega arith))
    (by_test id 10 _ _ v q (wide_id id 10 (omega arith) (omega arith))
    (by_test id 11 _ _ v q (wide_id id 11 (omega arith) (omega arith))
    (by_test id 12 _ _ v q (wide_id id 12 (omega arith) (omega arith))
    (by_test id 18 _ _ v q (wide_id id 18 (omega arith) (omega arith))
    (by_test id 23 _ _ v q (wide_id id 23 (omega arith) (omega arith))
    (by_test id 24 _ _ v q (wide_id id 24 (omega arith) (omega arith))
    (by_test id 25 _ _ v q (wide_id id 25 (omega arith) (omega arith))
    (by_test id 26 _ _ v q (wide_id id 26 (omega arith) (omega arith))
    (by_test id 28 _ _ v q (wide_id id 28 (omega arith) (omega arith))
    (by_test id 29 _ _ v q (wide_id id 29 (omega arith) (omega arith))
    (by_test id 30 _ _ v q (wide_id id 30 (omega arith) (omega arith))
    (by_test id 31 _ _ v q (wide_id id 31 (omega arith) (omega arith))
    (by_test id 32 _ _ v q (wide_id id 32 (omega arith) (omega arith))
    (by_test id 33 _ _ v q (wide_id id 33 (omega arith) (omega arith))
    (by_test id 34 _ _ v q (wide_id id 34 (omega arith) (omega arith)) (λ r. absurd r)))))))))))))))))))

-- what one of two is
pub either_split : (test : Bool) (A B : WideRecord → List ℕ → Type 0) (v : WideRecord) (q : List ℕ) → IsEither test A B v q → A v q ⊎ B v q
either_split true A B v q h = inl h
either_split false A B v q h = inr h

-- what is spelled after an id has an id that is allowed there
fields_wide : (in_end : Bool) (id : ℕ) (v : WideRecord) (q : List ℕ) → fields_in in_end id v q → IsWideId id
fields_wide in_end id v q h = elim (either_split (is_profile_id id) _ _ v q h) [
  | inl p ↦ known_within id (subst IsKnown (id_after in_end id p.from (shortened (first_of id) q) p.spelled.spelled) (known_id p.from))
  | inr p ↦ foreign_wide in_end id v q p
]

-- ---- the id

id_joined : (in_end : Bool) (n : ℕ) (v : WideRecord) (p r rest : List ℕ) (b : IsPair IsLong (fields_in in_end) (n, v) p) → p ++ r ≡ rest → b.front ++ (b.back ++ r) ≡ rest
id_joined in_end n v p r rest b e = sym (append_assoc b.front b.back r) ∙ ap (λ (c : List ℕ). c ++ r) (sym b.joined) ∙ e

-- a record begins with its id
record_wants : (in_end : Bool) → Wants (wide_record_in in_end) [] IsLong
record_wants in_end = record { wants = λ v p r rest s e. let b = s.parts in (s.id, b.front, b.back ++ r, b.first, id_joined in_end s.id v p r rest b e) }

pub id_fails : {old new : Script} {reason : Why} (in_end : Bool) → FailsPiece IsLong LongMay old reason new → FailsWide in_end old (wide.Profile reason) new
id_fails {old = old} {reason = reason} in_end f =
    fails_behind (wide_record_in in_end) IsLong {took = λ _. WideRecordTook in_end (wide.Profile reason)} [] (λ bytes h. inl (reason, refl, inl h)) (Consumed-none old) (record_wants in_end) f

-- no record has an id that is refused
refused_unknown : (id : ℕ) (reason : Why) → IsRefusedWideId id reason → (¬ IsWideId id) × IsTrue (is_format reason)
refused_unknown id (why.OutOfPlace n) h = (λ known. known.0 h.1, refl)
refused_unknown id (why.UnknownRecord n) h = (λ known. omega (arith, known.1, h.1), refl)
refused_unknown id _ h = absurd h

pub refused_by_id : {old new : Script} {id : ℕ} {reason : Why} (in_end : Bool) → RefusesWideId id (Some reason) → ReadsValue IsLong old id new
    → FailsWide in_end old (wide.Profile reason) new
refused_by_id {id = id} {reason = reason} in_end h read =
    let isnt = refused_unknown id reason h in
    record {
      bytes = read.bytes;
      takes = read.takes;
      reason = record { front = []; last = read.bytes; joined = refl; begun = refl; holds = inl (reason, refl, inr (id, read.spelled, h)) };
      format = λ _. record {
        none = λ v p r more s e.
            let b = s.parts in
            let one = PrefixFree-long.one s.id id b.front read.bytes (b.back ++ r) more b.first read.spelled (id_joined in_end s.id v p r (read.bytes ++ more) b e) in
            isnt.0 (subst IsWideId one.1 (fields_wide in_end s.id v b.back b.second));
      };
      cut = λ is. absurd (uncut reason (by_format why.Truncated isnt.1 (λ g. cc)) (by_format why.Read isnt.1 (λ g. cc)) (by_format why.InputTooLong isnt.1 (λ g. cc)) is);
      truncated = λ is. absurd (by_format why.Truncated isnt.1 (λ g. cc) is);
      device = λ is. absurd (by_format why.Read isnt.1 (λ g. cc) is);
      too_long = λ is. absurd (by_format why.InputTooLong isnt.1 (λ g. cc) is);
    }

-- ---- what follows the id

fields_wants : {old mid : Script} {id : ℕ} (in_end : Bool) → (read : ReadsValue IsLong old id mid) → Wants (wide_record_in in_end) read.bytes (fields_in in_end id)
fields_wants {id = id} in_end read = record {
  wants = λ v p r rest s e.
      let b = s.parts in
      let joined = id_joined in_end s.id v p r (read.bytes ++ rest) b e in
      let one = PrefixFree-long.one s.id id b.front read.bytes (b.back ++ r) rest b.first read.spelled joined in
      (v, b.back, r, subst (λ k. fields_in in_end k v b.back) one.1 b.second, after_same b.front read.bytes (b.back ++ r) rest one.0 joined);
}

-- it goes wrong
pub fields_fail : {old mid new : Script} {id : ℕ} {reason : Why} (in_end : Bool) → ReadsValue IsLong old id mid
    → FailsPiece (fields_in in_end id) (fields in_end id).took mid reason new → FailsWide in_end old (named id reason) new
fields_fail {old = old} {new = new} {id = id} {reason = reason} in_end read f =
    subst (λ (k : Why). FailsPiece (wide_record_in in_end) (λ _. WideRecordTook in_end (named id reason)) old k new) (sym (plain_named id reason))
    (fails_behind (wide_record_in in_end) (fields_in in_end id) {took = λ _. WideRecordTook in_end (named id reason)} read.bytes
    (λ bytes h. inr (inl (record { value = id; front = read.bytes; last = bytes; spelled = read.spelled; holds = (reason, h, refl); joined = refl })))
    read.takes (fields_wants in_end read) f)

-- it is read
parts_read : {old mid new : Script} {id : ℕ} {v : WideRecord} (in_end : Bool) → ReadsValue IsLong old id mid → ReadsValue (fields_in in_end id) mid v new
    → ReadsValue (IsPair IsLong (fields_in in_end)) old (id, v) new
parts_read {old = old} {mid = mid} {new = new} in_end read rest = record {
  bytes = read.bytes ++ rest.bytes;
  spelled = record { front = read.bytes; back = rest.bytes; first = read.spelled; second = rest.spelled; joined = refl };
  takes = Consumed-then old mid new read.bytes rest.bytes read.takes rest.takes;
}

record_read : {old mid new : Script} {id : ℕ} {v : WideRecord} (in_end : Bool) → (id ≡ 2 → new.given ≡ old.given + 256) → ReadsValue IsLong old id mid
    → ReadsValue (fields_in in_end id) mid v new → ReadsValue (wide_record_in in_end) old v new
record_read {id = id} in_end right read rest =
    let p = parts_read in_end read rest in
    record { bytes = p.bytes; spelled = record { id = id; whole = λ e. omega (arith, right e, p.takes.given); parts = p.spelled }; takes = p.takes }

pub inner_read : {old mid new : Script} {id : ℕ} {v : WideRecord} (in_end : Bool) → id ≢ 2 → ReadsValue IsLong old id mid
    → ReadsValue (fields_in in_end id) mid v new → ReadsValue (wide_record_in in_end) old v new
inner_read in_end isnt read rest = record_read in_end (λ e. absurd (isnt e)) read rest

-- ---- END

PrefixFree-parts : (in_end : Bool) → PrefixFree (IsPair IsLong (fields_in in_end))
PrefixFree-parts in_end = PrefixFree-pair IsLong (fields_in in_end) PrefixFree-long (λ id. (fields in_end id).found.one)

pub PrefixFree-wide_record : (in_end : Bool) → PrefixFree (wide_record_in in_end)
PrefixFree-wide_record in_end = record {
  one = λ v w a b x y p q e.
      let one = (PrefixFree-parts in_end).one (p.id, v) (q.id, w) a b x y p.parts q.parts e in
      (one.0, ap (λ (u : ℕ × WideRecord). u.1) one.1);
}

-- what follows its id
end_fields : {mid new : Script} {id : ℕ} {v : WideEnd} (in_end : Bool) → id ≡ 2 → ReadsValue (SpellsWideEnd in_end) mid v new → ReadsValue (fields_in in_end id) mid (end v) new
end_fields {mid = mid} {new = new} {v = v} in_end is rest = subst (λ (k : ℕ). ReadsValue (fields_in in_end k) mid (end v) new) (sym is) (kind_read end rest)

-- no reason of END has another name
named_end : (reason : Why) → named 2 reason ≡ wide.Profile reason
named_end why.InfoByte = refl
named_end why.RealType = refl
named_end _ = refl

pub end_fails : {old mid new : Script} {id : ℕ} {reason : Why} (in_end : Bool) → id ≡ 2 → ReadsValue IsLong old id mid
    → FailsPiece (SpellsWideEnd in_end) (WideEndTook in_end) mid reason new → FailsWide in_end old (wide.Profile reason) new
end_fails {old = old} {mid = mid} {new = new} {reason = reason} in_end is read f =
    subst (λ (w : WideWhy). FailsWide in_end old w new) (ap (λ (k : ℕ). named k reason) is ∙ named_end reason)
    (fields_fail in_end read (subst (λ (k : ℕ). FailsPiece (fields_in in_end k) (fields in_end k).took mid reason new) (sym is) (image_fails end f)))

pub end_read : {old mid new : Script} {id : ℕ} {v : WideEnd} (in_end : Bool) → new.given ≡ old.given + 256 → id ≡ 2 → ReadsValue IsLong old id mid
    → ReadsValue (SpellsWideEnd in_end) mid v new → ReadsValue (wide_record_in in_end) old (end v) new
end_read in_end right is read rest = record_read in_end (λ _. right) read (end_fields in_end is rest)

-- END in all its parts, but not 256 bytes long
pub end_refused : {old mid new : Script} {id : ℕ} {v : WideEnd} (in_end : Bool) → new.given ≢ old.given + 256 → id ≡ 2 → ReadsValue IsLong old id mid
    → ReadsValue (SpellsWideEnd in_end) mid v new → FailsWide in_end old (wide.Profile why.EndLength) new
end_refused {old = old} {id = id} {v = v} in_end wrong is read fields_read =
    let rest = end_fields in_end is fields_read in
    let p = parts_read in_end read rest in
    let long : length p.bytes ≢ 256 = λ l. wrong (p.takes.given ∙ ap (λ n. old.given + n) l) in
    record {
      bytes = p.bytes;
      takes = p.takes;
      reason = record {
        front = [];
        last = p.bytes;
        joined = refl;
        begun = refl;
        holds = inr (inr (refl, record { value = end v; parts = subst (λ (k : ℕ). IsPair IsLong (fields_in in_end) (k, end v) p.bytes) is p.spelled; wrong = long }));
      };
      format = λ _. record {
        none = λ w q r more s same.
            let one = (PrefixFree-parts in_end).one (s.id, w) (id, end v) q p.bytes r more s.parts p.spelled same in
            long (sym (ap length one.0) ∙ s.whole (ap (λ (u : ℕ × WideRecord). u.0) one.1 ∙ is));
      };
      cut = λ e. absurd cc;
      truncated = λ e. absurd cc;
      device = λ e. absurd cc;
      too_long = λ e. absurd cc;
    }
