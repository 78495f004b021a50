-- What follows END, and all that was read.
use Rattle.std.proofs.Common.{◌≡◌, ℕ, ◌+◌, List, [], ◌∷◌, ◌++◌, length, None, Some, Result, Ok, Err, OnOk, IfOk, IfErr, ◌⊎◌, inl, inr, refl, sym, ap, subst, ◌∙◌, append_assoc, arith}
use Rattle.std.proofs.lemmas.List.{append-nil, length-append}
use Rattle.oas_num.specs.declared.refusals.Why.{Why}
use Rattle.oas_num.specs.declared.refusals.Why.TheVariants.{TrailingBytes, Read, InputTooLong, Memory}
use Rattle.oas_num.specs.declared.refusals.Refusal.{Refusal}
use Rattle.oas_num.specs.Ratio.{Ratio}
use Rattle.oas_num.specs.Reading.{ReadsValue}
use Rattle.oas_num.specs.Script.{Script, Consumed, IsAtEnd}
use Rattle.oas_num.specs.Style.{Any}
use Rattle.oas_num.proofs.ReadLemmas.{Consumed-then, Consumed-still}
use Rattle.oas_record.specs.declared.heads.Head.{Head}
use Rattle.oas_record.specs.declared.records.Record.{Record}
use Rattle.oas_record.specs.declared.records.Record.TheVariants.{End}
use Rattle.oas_record.specs.Heads.{head_in}
use Rattle.oas_elements.specs.declared.limits.Limits.{Limits}
use Rattle.oas_elements.specs.declared.profile.Profile.{Profile}
use Rattle.oas_elements.specs.Contents.{Contents, IsLayout, meaning_of}
use Rattle.oas_elements.specs.Meaning.{Meaning, SameLayout}
use Rattle.oas_reader.specs.Stores.{Store}
use Rattle.oas_reader.specs.Stands.{ReaderState, Represents, records_mean, end_refusal}
use Rattle.oas_file.specs.Files.{Parts, FileOf}
use Rattle.oas_file.specs.Laws.FileLaws.{PrefixFree-file}
use Rattle.oas_file.specs.Acceptance.{Allowed, Accepted}
use Rattle.oas_file.specs.Deciding.{TheTail, TheWhole, EndingMay, IsReasoned}
use Rattle.oas_file.specs.Gathering.{HasBegun, HasAll, MissesEnd}
use Rattle.oas_file.specs.Places.{RefusedAt, AfterLast, ByEnd}
use Rattle.oas_file.specs.Reading.{IsRead, IsRefused, IsPlaced, Refuses, ReadsLayout}
use Rattle.oas_num.proofs.PrefixLemmas.{whole_one}
use Rattle.oas_file.proofs.Fronts.{front_none, file_all}
use Rattle.oas_file.proofs.Judged.{end_decides}
use Rattle.oas_file.proofs.Refusing.{memory_placed}
use Rattle.oas_num.proofs.RefusingLemmas.{Judges, ForMemory, Decided, judged_refused, StoppedBy, stopped_not, stopped_refused}

-- ---- the head

abbrev pub begun : {C : Type 0} {t : Store C} {old now : Script} {head : Head} {first : ReaderState C} → ReadsValue (head_in Any) old head now → Represents t first [] → HasBegun t head now first
begun {old = old} read stands = record {
  origin = old;
  bytes = read.bytes;
  takes = read.takes;
  front = front_none read.bytes read.spelled;
  stands = stands;
}

-- limits that are the reader's
pub refuses_within : {limits reader : Limits} {old new : Script} {refusal : Refusal} → reader ≡ limits → Refuses reader old refusal new → Refuses limits old refusal new
refuses_within {old = old} {new = new} {refusal = refusal} same r = subst (λ (l : Limits). Refuses l old refusal new) same r

-- ---- after END

-- what goes on with more bytes as a file has none of them more
none_more : {head first : Head} {rs ss : List Record} {all b : List ℕ} (more : List ℕ) → FileOf head rs all → FileOf first ss b → all ++ more ≡ b → (rs ≡ ss) × (more ≡ [])
none_more {head = head} {first = first} {rs = rs} {ss = ss} {all = all} {b = b} more f g e =
    let one = whole_one (PrefixFree-file Any) (head, (rs, End)) (first, (ss, End)) all b more f.spelled g.spelled e in
    (ap (λ (p : Parts). p.1.0) one.0, one.1)

module _ {C : Type 0} {t : Store C} {old mid : Script} {head : Head} {first s : ReaderState C} {end_at : ℕ} (m : HasAll t old head first end_at mid s) where
  abbrev all : List ℕ
  all = m.bytes ++ m.last

  -- no file is a proper prefix of this one
  all_taken : {other : Head} {ss : List Record} (whole rest : List ℕ) → whole ++ rest ≡ all → FileOf other ss whole → rest ≡ []
  all_taken whole rest e file = (none_more rest file (file_all m.front m.end) e).1

  tail_place : (at : ℕ) → at ≡ mid.given → old.given ≡ 0 → at ≡ length m.bytes + length m.last
  tail_place at is fresh = omega (arith, is, m.takes.given, fresh, length-append m.bytes m.last)

  -- what was taken, where the end doesn't follow
  tail_reasoned : {new : Script} (at : ℕ) (why : Why) (tail : List ℕ) → at ≡ mid.given → Consumed mid tail new → EndingMay why tail → IsReasoned first.limits old (record { at = at; why = why }) new
  tail_reasoned {new = new} at why tail is takes reason = record {
    bytes = all ++ tail;
    takes = Consumed-then old mid new all tail m.takes takes;
    decided = λ fresh. TheTail (record {
      left = m.last ++ tail;
      head = head;
      records = m.records;
      start = length m.bytes;
      before = record { before = m.bytes; front = m.front; allowed = m.taken.allowed; place = refl; joined = append_assoc m.bytes m.last tail };
      last = m.last;
      tail = tail;
      end = m.end;
      joined = refl;
      place = tail_place at is fresh;
      reason = reason;
    });
  }

  byte_placed : {new : Script} (at byte : ℕ) → at ≡ mid.given → Consumed mid (byte ∷ []) new → IsPlaced first.limits old (record { at = at; why = TrailingBytes }) new
  byte_placed {new = new} at byte is takes = record {
    bytes = all ++ (byte ∷ []);
    takes = Consumed-then old mid new all (byte ∷ []) m.takes takes;
    placed = λ fresh _ more _. AfterLast (record {
      left = m.last ++ (byte ∷ more);
      head = head;
      records = m.records;
      start = length m.bytes;
      before = record { before = m.bytes; front = m.front; allowed = m.taken.allowed; place = refl; joined = append_assoc all (byte ∷ []) more ∙ append_assoc m.bytes m.last (byte ∷ more) };
      last = m.last;
      byte = byte;
      rest = more;
      end = m.end;
      joined = refl;
      place = tail_place at is fresh;
    });
  }

  byte_refused : {new : Script} (byte : ℕ) → Consumed mid (byte ∷ []) new → IsRefused first.limits old TrailingBytes new
  byte_refused {new = new} byte takes =
      judged_refused (Consumed-then old mid new all (byte ∷ []) m.takes takes)
      (Decided refl (λ more a. let none = (none_more (byte ∷ more) (file_all m.front m.end) a.file (sym (append_assoc all (byte ∷ []) more))).1 in cc))

  -- the source stopped
  tail_stopped : {new : Script} (at : ℕ) (why : Why) → at ≡ mid.given → Consumed mid [] new → StoppedBy why new → EndingMay why [] → Refuses first.limits old (record { at = at; why = why }) new
  tail_stopped {new = new} at why is takes stop may = (
    stopped_refused why all (Consumed-still m.takes takes) stop (λ whole rest e a. all_taken whole rest e a.file),
    record { bytes = all; takes = Consumed-still m.takes takes; placed = λ fresh of_file. absurd (stopped_not why new stop of_file) },
    tail_reasoned at why [] is takes may,
  )

  tail_refuses : {new : Script} (at : ℕ) (why : Why) → at ≡ mid.given → MissesEnd mid why new → Refuses first.limits old (record { at = at; why = why }) new
  tail_refuses at TrailingBytes is h = (byte_refused h.0 h.1, byte_placed at h.0 is h.1, tail_reasoned at TrailingBytes (h.0 ∷ []) is h.1 (h.0, refl))
  tail_refuses at Read is h = tail_stopped at Read is h.0 h.1 refl
  tail_refuses at InputTooLong is h = tail_stopped at InputTooLong is h.0 h.1 refl
  tail_refuses at _ is h = absurd h

  -- the input doesn't end after END
  pub not_ended : {new : Script} (refusal : Refusal) → (refusal.at ≡ mid.given) × MissesEnd mid refusal.why new → Refuses first.limits old refusal new
  not_ended refusal h = tail_refuses refusal.at refusal.why h.0 h.1

  -- ---- all that was read

  module _ {new : Script} (takes : Consumed mid [] new) (at_end : IsAtEnd new) where
    whole_judged : (why : Why) → (why ≡ Memory) ⊎ (end_refusal first.limits m.records ≡ Some why) → Judges (Accepted first.limits) all why
    whole_judged why (inl e) = ForMemory e
    whole_judged why (inr some) = Decided (end_decides first.limits m.records why some) (λ more a.
        let same = (none_more more (file_all m.front m.end) a.file refl).0 in
        let none : end_refusal first.limits m.records ≡ None = ap (λ (rs : List Record). end_refusal first.limits rs) same ∙ a.whole in
        let e = sym none ∙ some in cc)

    whole_placed : (at : ℕ) (why : Why) → at ≡ end_at → (why ≡ Memory) ⊎ (end_refusal first.limits m.records ≡ Some why) → IsPlaced first.limits old (record { at = at; why = why }) new
    whole_placed at why is (inl e) = memory_placed at why all (Consumed-still m.takes takes) e
    whole_placed at why is (inr some) = record {
      bytes = all;
      takes = Consumed-still m.takes takes;
      placed = λ fresh _ more ends.
          let same : all ≡ all ++ more = sym (append-nil all) ∙ ap (λ (c : List ℕ). all ++ c) (sym (ends at_end)) in
          subst (λ (b : List ℕ). RefusedAt first.limits b at) same (ByEnd (record {
            left = m.last;
            head = head;
            records = m.records;
            before = record { before = m.bytes; front = m.front; allowed = m.taken.allowed; place = omega (arith, is, m.place, fresh); joined = refl };
            end = m.end;
            torn = λ none. let e = sym none ∙ some in cc;
          }));
    }

    whole_reasoned : (at : ℕ) (why : Why) → at ≡ end_at → (why ≡ Memory) ⊎ (end_refusal first.limits m.records ≡ Some why) → IsReasoned first.limits old (record { at = at; why = why }) new
    whole_reasoned at why is reason = record {
      bytes = all;
      takes = Consumed-still m.takes takes;
      decided = λ fresh. TheWhole (record {
        left = m.last;
        head = head;
        records = m.records;
        before = record { before = m.bytes; front = m.front; allowed = m.taken.allowed; place = omega (arith, is, m.place, fresh); joined = refl };
        end = m.end;
        reason = reason;
      });
    }

    -- END refuses the records
    whole_refuses : (refusal : Refusal) → (refusal.at ≡ end_at) × ((refusal.why ≡ Memory) ⊎ (end_refusal s.limits m.records ≡ Some refusal.why)) → Refuses first.limits old refusal new
    whole_refuses refusal h =
        let reason = subst (λ (l : Limits). (refusal.why ≡ Memory) ⊎ (end_refusal l m.records ≡ Some refusal.why)) m.taken.same.limits h.1 in
        (judged_refused (Consumed-still m.takes takes) (whole_judged refusal.why reason), whole_placed refusal.at refusal.why h.0 reason, whole_reasoned refusal.at refusal.why h.0 reason)

    same_back : (profile : Profile) (a b : Meaning) → SameLayout profile a b → SameLayout profile b a
    same_back profile a b same = record { unit = sym same.unit; cells = λ name. sym (same.cells name); counts = λ name e. sym (same.counts name e) }

    -- the layout is that of the file
    whole_read : {l : Contents} {limits : Limits} {profile : Profile} → first.limits ≡ limits → first.profile ≡ profile → first.unit ≡ head.unit → end_refusal s.limits m.records ≡ None →
        SameLayout s.profile (meaning_of l) (records_mean s.unit m.records) → IsLayout l → l.limits ≡ s.limits → l.profile ≡ s.profile
        → IsRead limits profile old l new
    whole_read {l = l} {limits = limits} {profile = profile} within by unit none same held limits_kept profile_kept =
        let kept = m.taken.same in
        let there : SameLayout profile (meaning_of l) (records_mean s.unit m.records) = subst (λ (p : Profile). SameLayout p (meaning_of l) (records_mean s.unit m.records)) (kept.profile ∙ by) same in
        let means : SameLayout profile (meaning_of l) (records_mean head.unit m.records) = subst (λ (u : Ratio). SameLayout profile (meaning_of l) (records_mean u m.records))
        (kept.unit ∙ unit) there in
        record {
          bytes = all;
          takes = Consumed-still m.takes takes;
          ended = at_end;
          accepted = record {
            head = head;
            records = m.records;
            file = file_all m.front m.end;
            allowed = subst (λ (l : Limits). Allowed l m.records) within m.taken.allowed;
            whole = ap (λ (l : Limits). end_refusal l m.records) (sym (kept.limits ∙ within)) ∙ none;
          };
          meaning = records_mean head.unit m.records;
          means = record { head = head; records = m.records; file = file_all m.front m.end; is = refl };
          same = same_back profile (meaning_of l) (records_mean head.unit m.records) means;
          layout = held;
          within = limits_kept ∙ (kept.limits ∙ within);
          by = profile_kept ∙ (kept.profile ∙ by);
        }

    -- what END refuses, within limits that are the reader's
    pub end_refuses : {limits : Limits} (refusal : Refusal) → first.limits ≡ limits → (refusal.at ≡ end_at) × ((refusal.why ≡ Memory) ⊎ (end_refusal s.limits m.records ≡ Some refusal.why)) →
        Refuses limits old refusal new
    end_refuses refusal within refused = refuses_within within (whole_refuses refusal refused)

    -- what finishing returns
    pub finished : {limits : Limits} {profile : Profile} (result : Result Contents Refusal) → first.unit ≡ head.unit → first.limits ≡ limits → first.profile ≡ profile →
        OnOk result (end_refusal s.limits m.records ≡ None)
        → IfOk result (λ l. SameLayout s.profile (meaning_of l) (records_mean s.unit m.records)) → IfOk result (λ l. IsLayout l) → IfOk result (λ l. l.limits ≡ s.limits) → IfOk result (λ l. l.profile ≡ s.profile)
        → IfErr result (λ e. (e.at ≡ end_at) × ((e.why ≡ Memory) ⊎ (end_refusal s.limits m.records ≡ Some e.why))) → ReadsLayout limits profile old result new
    finished (Ok l) unit within by none same held limits_kept profile_kept refused = whole_read within by unit none same held limits_kept profile_kept
    finished (Err refusal) unit within by none same held limits_kept profile_kept refused = end_refuses refusal within refused
