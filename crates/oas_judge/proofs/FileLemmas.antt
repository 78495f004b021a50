-- A whole file: it is accepted, and the judge says whether it is a canonical form.
use Rattle.std.proofs.Common.{◌≡◌, ◌↔◌, ℕ, Bool, true, false, IsTrue, List, [], ◌++◌, Option, None, Some, is_some, IfSome, Result, Ok, Err, IfOk, OnOk, refl, sym, ap, subst, ◌∙◌, append_assoc}
use Rattle.std.specs.Prelude.{◌&&◌, unwrap_or}
use Rattle.oas_num.specs.declared.refusals.Refusal.{Refusal}
use Rattle.oas_num.specs.Ratio.{Ratio}
use Rattle.oas_num.specs.Script.{Script, Consumed, IsAtEnd}
use Rattle.oas_num.proofs.ReadLemmas.{Consumed-still}
use Rattle.oas_record.specs.declared.heads.Head.{Head}
use Rattle.oas_elements.specs.declared.limits.Limits.{Limits}
use Rattle.oas_elements.specs.declared.profile.Profile.{Profile}
use Rattle.oas_elements.specs.Contents.{Contents, meaning_of}
use Rattle.oas_elements.specs.Meaning.{SameLayout}
use Rattle.oas_writing.specs.Stores.{Store}
use Rattle.oas_writing.specs.Stands.{ReaderState, Represents, records_mean, end_refusal}
use Rattle.oas_writing.specs.Acceptance.{Allowed, Accepted}
use Rattle.oas_writing.specs.Files.{FileOf}
use Rattle.oas_writing.specs.Gathering.{HasAll}
use Rattle.oas_writing.proofs.Fronts.{file_all}
use Rattle.oas_writing.specs.Canonical.{CanonicalForm}
use Rattle.oas_writing.specs.Judging.{entry_records, entry_bytes, IsReadAs}
use Rattle.oas_writing.proofs.JudgeBytes.{bytes_judge}
use Rattle.oas_writing.specs.LayoutOf.{IsLayoutOf}
use Rattle.oas_judge.specs.declared.judge.FileJudge.{FileJudge}
use Rattle.oas_judge.specs.FileJudges.{BeginsJudging, Decides}
use Rattle.oas_judge.specs.Judged.{HasBegun, HasSeenAll, IsJudged, IsReadAndJudged}
use Rattle.oas_judge.specs.Kept.{RefusesKept}
use Rattle.oas_judge.proofs.JudgeSteps.{both_hold, is_front}
use Rattle.oas_judge.proofs.RecordSteps.{front_of}

hold_both : (a b : Bool) → IsTrue a → IsTrue b → IsTrue (a && b)
hold_both true true h t = refl
hold_both true false h t = cc
hold_both false b h t = cc

-- a head whose bytes are known
holds_so : (begins : Option Bool) {F : Type 0} → IsTrue (is_some begins) → IfSome begins (λ yes. IsTrue yes ↔ F) → F → IsTrue (unwrap_or begins false)
holds_so None known is front = absurd cc
holds_so (Some answer) known is front = is.1 front

-- the head was judged, and a reader has no records
abbrev pub has_begun : {C : Type 0} {t : Store C} {profile : Profile} {old now : Script} {head : Head} {first : ReaderState C} {j : FileJudge} → BeginsJudging profile old head j now →
    Represents t first [] → HasBegun t profile head now first j
has_begun {old = old} begun stands = record { origin = old; begun = begun; stands = stands }

-- a layout that was finished, where END refuses nothing
pub finished : {T E : Type 0} {none : Type 0} {P Q : T → Type 0} (answer : Result T E) → ((l : T) → none → P l → Q l) → OnOk answer none → IfOk answer P → IfOk answer Q
finished (Ok l) makes accepted is = makes l accepted is
finished (Err e) makes accepted is = tt

-- limits that are the reader's
pub kept_within : {limits reader : Limits} {old new : Script} {refusal : Refusal} → reader ≡ limits → RefusesKept reader old refusal new → RefusesKept limits old refusal new
kept_within {old = old} {new = new} {refusal = refusal} same r = subst (λ (l : Limits). RefusesKept l old refusal new) same r

-- nothing follows END
pub seen_to_end : {C : Type 0} {t : Store C} {profile : Profile} {head : Head} {start : List ℕ} {origin mid new : Script} {first s : ReaderState C} {k : FileJudge} {at : ℕ} (known : Option Bool) →
    ((m : HasSeenAll t profile head start origin first at mid s k) × IfSome known (Decides k m.last)) → Consumed mid [] new → (m : HasSeenAll t profile head start origin first at new s k) × IfSome known (Decides k m.last)
seen_to_end known all takes = let m = all.0 in (
  record {
    entries = m.entries;
    last = m.last;
    takes = Consumed-still m.takes takes;
    each = m.each;
    end = m.end;
    place = m.place;
    taken = m.taken;
    judging = m.judging;
  },
  all.1,
)

module _ {C : Type 0} {t : Store C} {profile : Profile} {head : Head} {now mid : Script} {first s : ReaderState C} {j k : FileJudge} {at : ℕ} (b : HasBegun t profile head now first j)
    (m : HasSeenAll t profile head b.begun.start b.origin first at mid s k) where
  -- as a reader has it
  abbrev pub all_seen : HasAll t b.origin head first at mid s
  all_seen = record {
    records = entry_records m.entries;
    bytes = b.begun.start ++ entry_bytes m.entries;
    last = m.last;
    takes = m.takes;
    front = front_of m.entries b.begun.spelled m.each;
    end = m.end;
    place = m.place;
    taken = m.taken;
  }

  module _ {limits : Limits} (within : first.limits ≡ limits) (whole : end_refusal s.limits (entry_records m.entries) ≡ None) where
    file : FileOf head (entry_records m.entries) ((b.begun.start ++ entry_bytes m.entries) ++ m.last)
    file = file_all (front_of m.entries b.begun.spelled m.each) m.end

    abbrev accepted : Accepted limits ((b.begun.start ++ entry_bytes m.entries) ++ m.last)
    accepted = record {
      head = head;
      records = entry_records m.entries;
      file = file;
      allowed = subst (λ (l : Limits). Allowed l (entry_records m.entries)) within m.taken.allowed;
      whole = ap (λ (l : Limits). end_refusal l (entry_records m.entries)) (sym (m.taken.same.limits ∙ within)) ∙ whole;
    }

    read_as : IsReadAs ((b.begun.start ++ entry_bytes m.entries) ++ m.last) head b.begun.start m.entries m.last
    read_as = record { begun = b.begun.spelled; each = m.each; ended = m.end; joined = append_assoc b.begun.start (entry_bytes m.entries) m.last }

    -- what the judge says is whether it is a canonical form
    told : (answer : Bool) → Decides k m.last answer → IsTrue answer ↔ CanonicalForm limits profile ((b.begun.start ++ entry_bytes m.entries) ++ m.last)
    told answer decides =
        let right = bytes_judge limits profile ((b.begun.start ++ entry_bytes m.entries) ++ m.last) head b.begun.start m.entries m.last accepted read_as in (
          λ is.
              let done = decides.says.0 is in
              let both = both_hold (unwrap_or k.begins false) k.form.holds done.0 in
              let front = is_front k.begins m.judging.begins both.0 in
              right.1 (record {
                flag = front.flag;
                start_is = sym front.bytes;
                match = (m.judging.stands both.0).holds_is.0 both.1;
                last_is = sym done.1;
              }),
          λ form.
              let parts = right.0 form in
              let begins = holds_so k.begins decides.known m.judging.begins (record { flag = parts.flag; bytes = sym parts.start_is }) in
              let holding = hold_both (unwrap_or k.begins false) k.form.holds begins ((m.judging.stands begins).holds_is.1 parts.match) in
              decides.says.1 (holding, sym parts.last_is),
        )

    -- nothing follows it
    module _ {new : Script} (takes : Consumed mid [] new) (ended : IsAtEnd new) where
      all_taken : Consumed b.origin ((b.begun.start ++ entry_bytes m.entries) ++ m.last) new
      all_taken = Consumed-still m.takes takes

      pub judged : (answer : Bool) → Decides k m.last answer → IsJudged limits profile b.origin answer new
      judged answer decides = record { bytes = (b.begun.start ++ entry_bytes m.entries) ++ m.last; takes = all_taken; ended = ended; accepted = accepted; answer = told answer decides }

    -- and its layout
    pub read_judged : {kept_by : Profile} {new : Script} → first.unit ≡ head.unit → Consumed mid [] new → IsAtEnd new → (l : Contents)
        → IsLayoutOf kept_by s.limits (records_mean s.unit (entry_records m.entries)) l
        → (answer : Bool) → Decides k m.last answer → IsReadAndJudged limits profile kept_by b.origin l answer new
    read_judged {kept_by = kept_by} unit takes ended l is answer decides = record {
      read = record {
        bytes = (b.begun.start ++ entry_bytes m.entries) ++ m.last;
        takes = all_taken takes ended;
        ended = ended;
        accepted = accepted;
        meaning = records_mean head.unit (entry_records m.entries);
        means = record { head = head; records = entry_records m.entries; file = file; is = refl };
        same = subst (λ (u : Ratio). SameLayout kept_by (records_mean u (entry_records m.entries)) (meaning_of l)) (m.taken.same.unit ∙ unit) is.same;
        layout = is.layout;
        within = is.within ∙ m.taken.same.limits ∙ within;
        by = is.by;
      };
      answer = told answer decides;
    }
