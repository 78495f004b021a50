-- Reading a record: its id, and what follows it.
use Rattle.std.proofs.Common.{◌≡◌, ◌≢◌, ℕ, ◌+◌, Bool, IsTrue, inl, inr, List, [], ◌++◌, length, Some, Result, Ok, Err, refl, sym, ap, subst, ◌∙◌, append_assoc, arith}
use Rattle.oas_num.specs.declared.refusals.Why.{Why}
use Rattle.oas_num.specs.declared.refusals.Why.TheVariants.{Truncated, RecordLeftOut, UnknownRecord, OutOfPlace, EndLength, Read, InputTooLong}
use Rattle.oas_num.specs.Script.{Script}
use Rattle.oas_num.specs.Laws.GrammarLaws.{after_same}
use Rattle.oas_num.specs.Integers.{IsUnsigned}
use Rattle.oas_num.specs.Laws.IntegerLaws.{PrefixFree-IsUnsigned}
use Rattle.oas_num.specs.Begun.{HasSome}
use Rattle.oas_num.specs.Laws.BegunLaws.{HasSome-image}
use Rattle.oas_num.specs.Style.{Any}
use Rattle.oas_num.specs.Reading.{is_format, ReadsPiece, ReadsValue, FailsPiece, IntegerMay}
use Rattle.oas_num.proofs.ReadLemmas.{Consumed-none, Wants}
use Rattle.oas_num.proofs.MidwayLemmas.{image_fails, Midway, begins, uncut}
use Rattle.oas_num.proofs.GrammarLemmas.{key_read, is_read}
use Rattle.oas_record.specs.declared.records.Record.{Record}
use Rattle.oas_record.specs.declared.records.Record.TheVariants as record_of
use Rattle.oas_record.specs.Ends.{end_in, EndTook, end_kind}
use Rattle.oas_record.specs.Records.{id_of, end, after_id, parts_in, record_in}
use Rattle.oas_record.specs.Laws.RecordLaws.{PrefixFree-parts}
use Rattle.oas_record.proofs.SomeLemmas.{HasSome-parts}
use Rattle.oas_record.specs.Refusals.{AfterTook, RecordTook, IsKnown, IsRefusedId, RefusesId, IsWrongEnd}
use Rattle.oas_num.proofs.PieceLemmas.{fails_behind}
use Rattle.oas_num.proofs.HalfwayLemmas.{by_format}
use Rattle.oas_record.proofs.IdLemmas.{id_after, known_id, left_out_unknown, large_unknown, one_unknown}
use Rattle.oas_record.proofs.AfterLemmas.{fails_at, read_at, kind_read}

-- ---- the id

-- the id, and what follows it
id_joined : (in_end : Bool) (v : Record) (p r rest : List ℕ) (b : parts_in Any in_end v p) → p ++ r ≡ rest → b.front ++ (b.back ++ r) ≡ rest
id_joined in_end v p r rest b e = sym (append_assoc b.front b.back r) ∙ ap (λ (c : List ℕ). c ++ r) (sym b.joined) ∙ e

-- a record begins with its id
record_wants : (in_end : Bool) → Wants (record_in Any in_end) [] IsUnsigned
record_wants in_end = record { wants = λ v p r rest s e. let b = s.parts in (id_of v, b.front, b.back ++ r, b.first, id_joined in_end v p r rest b e) }

pub id_fails : {old new : Script} {why : Why} (in_end : Bool) → FailsPiece IsUnsigned IntegerMay old why new → FailsPiece (record_in Any in_end) (RecordTook in_end) old why new
id_fails {old = old} in_end f = fails_behind (record_in Any in_end) IsUnsigned [] (λ _ h. inl (inl (inl h))) (Consumed-none old) (record_wants in_end) f

with_id : {old new : Script} {id : ℕ} (in_end : Bool) → HasSome (after_id Any in_end id) → ReadsValue IsUnsigned old id new → Midway (parts_in Any in_end) (after_id Any in_end id) (λ v. v) old new
with_id {old = old} {new = new} {id = id} in_end some read = key_read (parts_in Any in_end) id_of IsUnsigned (after_id Any in_end) (λ v. v) old old
    new id PrefixFree-IsUnsigned (id_after in_end id) some (begins (parts_in Any in_end) (HasSome-parts in_end) old) read

-- no record has an id that is refused
pub refused_unknown : (id : ℕ) (why : Why) → IsRefusedId id why → (¬ IsKnown id) × IsTrue (is_format why)
refused_unknown id (OutOfPlace n) h = (one_unknown id h.1, refl)
refused_unknown id (UnknownRecord n) h = (large_unknown id h.1, refl)
refused_unknown id (RecordLeftOut n) h = (left_out_unknown id h.1, refl)
refused_unknown id _ h = absurd h

pub refused_by_id : {old new : Script} {id : ℕ} {why : Why} (in_end : Bool) → RefusesId id (Some why) → ReadsValue IsUnsigned old id new
    → FailsPiece (record_in Any in_end) (RecordTook in_end) old why new
refused_by_id {id = id} {why = why} in_end h read =
    let isnt = refused_unknown id why h in
    record {
      bytes = read.bytes;
      takes = read.takes;
      reason = record { front = []; last = read.bytes; joined = refl; begun = refl; holds = inl (inl (inr (id, read.spelled, h))) };
      format = λ _. record {
        none = λ v p r more s e.
            let b = s.parts in
            let one = PrefixFree-IsUnsigned.one (id_of v) id b.front read.bytes (b.back ++ r) more b.first read.spelled (id_joined in_end v p r (read.bytes ++ more) b e) in
            isnt.0 (subst IsKnown one.1 (known_id v));
      };
      cut = λ is. absurd (uncut why (by_format Truncated isnt.1 (λ g. cc)) (by_format Read isnt.1 (λ g. cc)) (by_format InputTooLong isnt.1 (λ g. cc)) is);
      truncated = λ is. absurd (by_format Truncated isnt.1 (λ g. cc) is);
      device = λ is. absurd (by_format Read isnt.1 (λ g. cc) is);
      too_long = λ is. absurd (by_format InputTooLong isnt.1 (λ g. cc) is);
    }

-- ---- what follows the id

after_wants : {old mid : Script} {id : ℕ} (in_end : Bool) → (read : ReadsValue IsUnsigned old id mid) → Wants (record_in Any in_end) read.bytes (after_id Any in_end id)
after_wants {id = id} in_end read = record {
  wants = λ v p r rest s e.
      let b = s.parts in
      let joined = id_joined in_end v p r (read.bytes ++ rest) b e in
      let one = PrefixFree-IsUnsigned.one (id_of v) id b.front read.bytes (b.back ++ r) rest b.first read.spelled joined in
      (v, b.back, r, subst (λ k. after_id Any in_end k v b.back) one.1 b.second, after_same b.front read.bytes (b.back ++ r) rest one.0 joined);
}

-- it goes wrong
after_fails : {old mid new : Script} {id : ℕ} {why : Why} (in_end : Bool) → ReadsValue IsUnsigned old id mid
    → FailsPiece (after_id Any in_end id) (AfterTook in_end id) mid why new → FailsPiece (record_in Any in_end) (RecordTook in_end) old why new
after_fails {id = id} in_end read f =
    fails_behind (record_in Any in_end) (after_id Any in_end id) read.bytes
    (λ bytes h. inl (inr (record { value = id; front = read.bytes; last = bytes; spelled = read.spelled; holds = h; joined = refl }))) read.takes (after_wants in_end read) f

-- ---- a record that isn't END

-- its id was read
inner_midway : {old mid : Script} {id : ℕ} (in_end : Bool) → id ≢ 2 → HasSome (after_id Any in_end id) → ReadsValue IsUnsigned old id mid
    → Midway (record_in Any in_end) (after_id Any in_end id) (λ v. v) old mid
inner_midway {id = id} in_end isnt some read =
    let m = with_id in_end some read in
    record {
      bytes = m.bytes;
      takes = m.takes;
      wants = record { wants = λ v p r rest s e. m.wants.wants v p r rest s.parts e };
      makes = λ v q h. record { whole = λ e. absurd (isnt (sym (id_after in_end id v q h) ∙ ap id_of e)); parts = m.makes v q h };
      some = some;
    }

pub inner_done : (in_end : Bool) (id : ℕ) (old mid new : Script) (r : Result Record Why) → id ≢ 2 → ReadsValue IsUnsigned old id mid
    → ReadsPiece (after_id Any in_end id) (AfterTook in_end id) mid r new → ReadsPiece (record_in Any in_end) (RecordTook in_end) old r new
inner_done in_end id old mid new (Ok v) isnt read rest = is_read (inner_midway in_end isnt (record { value = v; bytes = rest.bytes; spelled = rest.spelled }) read) rest
inner_done in_end id old mid new (Err why) isnt read rest = after_fails in_end read rest

-- ---- END

-- END's id was read
with_end : {old mid : Script} {id : ℕ} (in_end : Bool) → id ≡ 2 → ReadsValue IsUnsigned old id mid → Midway (parts_in Any in_end) (after_id Any in_end id) (λ v. v) old mid
with_end {id = id} in_end is read = with_id in_end (subst (λ k. HasSome (after_id Any in_end k)) (sym is) (HasSome-image end (end_in Any in_end) (end_kind in_end).some)) read

pub end_fails : {old mid new : Script} {id : ℕ} {why : Why} (in_end : Bool) → id ≡ 2 → ReadsValue IsUnsigned old id mid
    → FailsPiece (end_in Any in_end) (EndTook in_end) mid why new → FailsPiece (record_in Any in_end) (RecordTook in_end) old why new
end_fails {id = id} in_end is read f = after_fails in_end read (fails_at in_end id 2 is (image_fails end f))

pub end_parts_read : {old mid new : Script} {id : ℕ} {v : Unit {0}} (in_end : Bool) → id ≡ 2 → ReadsValue IsUnsigned old id mid
    → ReadsValue (end_in Any in_end) mid v new → ReadsValue (parts_in Any in_end) old record_of.End new
end_parts_read {id = id} {v = v} in_end is read rest = is_read (with_end in_end is read) (read_at in_end id 2 is (kind_read end rest))

wrong_end : (in_end : Bool) (bytes : List ℕ) → parts_in Any in_end record_of.End bytes → length bytes ≢ 256 → IsWrongEnd in_end bytes
wrong_end in_end bytes p wrong = record { id = p.front; back = p.back; is_end = p.first; parts = p.second.spelled; joined = p.joined; wrong = wrong }

pub end_refused : {old new : Script} (in_end : Bool) → new.given ≢ old.given + 256 → ReadsValue (parts_in Any in_end) old record_of.End new
    → FailsPiece (record_in Any in_end) (RecordTook in_end) old EndLength new
end_refused {old = old} {new = new} in_end wrong read =
    let long : length read.bytes ≢ 256 = λ l. wrong (read.takes.given ∙ ap (λ n. old.given + n) l) in
    record {
      bytes = read.bytes;
      takes = read.takes;
      reason = record { front = []; last = read.bytes; joined = refl; begun = refl; holds = inr (refl, wrong_end in_end read.bytes read.spelled long) };
      format = λ _. record {
        none = λ v p rest more s same.
            let one = (PrefixFree-parts Any in_end).one v record_of.End p read.bytes rest more s.parts read.spelled same in
            long (sym (ap length one.0) ∙ s.whole one.1);
      };
      cut = λ is. absurd cc;
      truncated = λ is. absurd cc;
      device = λ is. absurd cc;
      too_long = λ is. absurd cc;
    }

pub end_read : {old new : Script} (in_end : Bool) → new.given ≡ old.given + 256 → ReadsValue (parts_in Any in_end) old record_of.End new → ReadsValue (record_in Any in_end) old record_of.End new
end_read {old = old} {new = new} in_end right read = record { bytes = read.bytes; spelled = record { whole = λ e. omega (arith, right, read.takes.given); parts = read.spelled }; takes = read.takes }
