-- One more record, or a refusal there.
use Rattle.std.specs.Prelude.{take, Bool, List}
use Rattle.std.proofs.Common.{◌≡◌, ℕ, [], ◌∷◌, ◌++◌, None, Some, ◌⊎◌, inl, inr, refl, sym, ap, subst, ◌∙◌, append_assoc, arith}
use Rattle.oas_num.specs.declared.refusals.Why.{Why}
use Rattle.oas_num.specs.declared.refusals.Why.TheVariants.{Memory}
use Rattle.oas_num.specs.declared.refusals.Refusal.{Refusal}
use Rattle.oas_num.specs.Reading.{ReadsValue, FailsPiece}
use Rattle.oas_num.specs.Script.{Script, Consumed}
use Rattle.oas_num.specs.Style.{Any}
use Rattle.oas_num.proofs.ReadLemmas.{Consumed-then}
use Rattle.oas_record.specs.declared.heads.Head.{Head}
use Rattle.oas_record.specs.declared.records.Record.{Record}
use Rattle.oas_record.specs.declared.records.Record.TheVariants.{End, Rectangle}
use Rattle.oas_peek.specs.declared.rectangles.PeekedRectangle.{PeekedRectangle}
use Rattle.oas_peek.specs.Peeked.{IsPeeked}
use Rattle.oas_peek.specs.declared.named.PeekedNamed.{PeekedNamed}
use Rattle.oas_peek.specs.declared.named.NamedOnce.{NamedOnce}
use Rattle.oas_peek.specs.declared.named.NamedOnce.TheVariants as once
use Rattle.oas_peek.specs.Named.{IsPeekedNamed, named_record}
use Rattle.oas_peek.specs.declared.figures.PeekedFigure.{PeekedFigure}
use Rattle.oas_peek.specs.Figures.{IsPeekedFigure}
use Rattle.oas_record.specs.Records.{record_in, IsInner}
use Rattle.oas_record.specs.Laws.RecordLaws.{PrefixFree-record}
use Rattle.oas_record.specs.Refusals.{RecordTook}
use Rattle.oas_elements.specs.declared.limits.Limits.{Limits}
use Rattle.oas_reader.specs.Standing.{MayRunOut}
use Rattle.oas_reader.specs.Stores.{Store}
use Rattle.oas_reader.specs.Stands.{ReaderState, Represents, refusal as refusal_of}
use Rattle.oas_file.specs.Files.{PrefixOf}
use Rattle.oas_file.specs.Acceptance.{Allowed, Accepted}
use Rattle.oas_file.specs.Deciding.{TheNext, IsReasoned}
use Rattle.oas_file.specs.declared.records.Found.{Found}
use Rattle.oas_file.specs.Finding.{IsAtHand}
use Rattle.oas_file.specs.Gathering.{inner_in, HasBegun, HasGathered, HasAll, HasTakenOne, RefusesOne}
use Rattle.oas_file.specs.Places.{ByRecord}
use Rattle.oas_file.specs.Reading.{IsPlaced, Refuses}
use Rattle.oas_file.proofs.Fronts.{allowed_last, allowed_more, prefix_allowed, front_more}
use Rattle.oas_file.proofs.Judged.{refusal_decides}
use Rattle.oas_file.proofs.Refusing.{record_refuses, memory_placed}
use Rattle.oas_num.proofs.RefusingLemmas.{Judges, ForMemory, Decided, judged_refused}

pub gathered_none : {C : Type 0} {t : Store C} {head : Head} {now : Script} {first : ReaderState C} (b : HasBegun t head now first) → HasGathered t b.origin head first now first
gathered_none b = record {
  records = [];
  bytes = b.bytes;
  takes = b.takes;
  front = b.front;
  taken = record { stands = b.stands; allowed = tt; same = record { unit = refl; limits = refl; profile = refl } };
}

module _ {C : Type 0} {t : Store C} {origin mid new : Script} {head : Head} {first s : ReaderState C} (m : HasGathered t origin head first mid s) where
  -- a record can't be read
  pub gather_fails : (refusal : Refusal) → refusal.at ≡ mid.given → FailsPiece (record_in Any head.flag_in_end) (RecordTook head.flag_in_end) mid refusal.why new →
      Refuses first.limits origin refusal new
  gather_fails refusal at f = record_refuses refusal m.front m.taken.allowed m.takes at f

  module _ {r : Record} (read : ReadsValue (inner_in head.flag_in_end) mid r new) where
    both : Consumed origin (m.bytes ++ read.bytes) new
    both = Consumed-then origin mid new m.bytes read.bytes m.takes read.takes

    front : PrefixOf head (m.records ++ r ∷ []) (m.bytes ++ read.bytes)
    front = front_more m.front read.spelled

    -- a record is read and taken
    pub gather_more : (after : ReaderState C) → (refusal_of s.limits m.records r ≡ None) × Represents t after (m.records ++ r ∷ []) → after.unit ≡ s.unit →
        after.limits ≡ s.limits → after.profile ≡ s.profile
        → HasGathered t origin head first new after
    gather_more after h unit limits profile =
        let same = m.taken.same in
        record {
          records = m.records ++ r ∷ [];
          bytes = m.bytes ++ read.bytes;
          takes = both;
          front = front;
          taken = record {
            stands = h.1;
            allowed = allowed_more first.limits m.records r m.taken.allowed (ap (λ (l : Limits). refusal_of l m.records r) (sym same.limits) ∙ h.0);
            same = record { unit = unit ∙ same.unit; limits = limits ∙ same.limits; profile = profile ∙ same.profile };
          };
        }

    -- the reason, or out of memory, under these limits
    abbrev Reasons : Limits → Why → Type 0
    Reasons limits why = ((why ≡ Memory) × MayRunOut (refusal_of limits m.records r)) ⊎ (refusal_of limits m.records r ≡ Some why)

    -- it isn't allowed
    not_allowed : (why : Why) → refusal_of first.limits m.records r ≡ Some why → Allowed first.limits (m.records ++ r ∷ []) → ⊥
    not_allowed why some a = let none = allowed_last first.limits m.records r a in let e = sym none ∙ some in cc

    next_placed : (at : ℕ) (why : Why) → at ≡ mid.given → Reasons first.limits why → IsPlaced first.limits origin (record { at = at; why = why }) new
    next_placed at why is (inl e) = memory_placed at why (m.bytes ++ read.bytes) both e.0
    next_placed at why is (inr some) = record {
      bytes = m.bytes ++ read.bytes;
      takes = both;
      placed = λ fresh of_file more ended. ByRecord (record {
        left = read.bytes ++ more;
        head = head;
        records = m.records;
        before = record { before = m.bytes; front = m.front; allowed = m.taken.allowed; place = omega (arith, is, m.takes.given, fresh); joined = append_assoc m.bytes read.bytes more };
        no_end = λ front rest end e. read.spelled.holds ((PrefixFree-record Any head.flag_in_end).one r End read.bytes front more rest read.spelled.spelled end e).1;
        no_record = record {
          none = λ q front rest next e.
              let same = ((PrefixFree-record Any head.flag_in_end).one r q read.bytes front more rest read.spelled.spelled next.spelled e).1 in
              not_allowed why some (subst (λ (k : Record). Allowed first.limits (m.records ++ k ∷ [])) (sym same) next.allowed);
        };
      });
    }

    next_reasoned : (at : ℕ) (why : Why) → at ≡ mid.given → Reasons first.limits why → IsReasoned first.limits origin (record { at = at; why = why }) new
    next_reasoned at why is reason = record {
      bytes = m.bytes ++ read.bytes;
      takes = both;
      decided = λ fresh. TheNext (record {
        left = read.bytes;
        head = head;
        records = m.records;
        next = r;
        before = record { before = m.bytes; front = m.front; allowed = m.taken.allowed; place = omega (arith, is, m.takes.given, fresh); joined = refl };
        spelled = read.spelled.spelled;
        reason = reason;
      });
    }

    next_refuses : (refusal : Refusal) → refusal.at ≡ mid.given → Reasons first.limits refusal.why → Refuses first.limits origin refusal new
    next_refuses refusal at reason = (judged_refused both (judged reason), next_placed refusal.at refusal.why at reason, next_reasoned refusal.at refusal.why at reason) where
      judged : Reasons first.limits refusal.why → Judges (Accepted first.limits) (m.bytes ++ read.bytes) refusal.why
      judged (inl e) = ForMemory e.0
      judged (inr some) = Decided (refusal_decides first.limits m.records r refusal.why some) (λ more a. not_allowed refusal.why some (prefix_allowed more front a))

    -- or it is refused
    pub gather_refuses : (at : ℕ) (refusal : Refusal) → at ≡ mid.given → (refusal.at ≡ at) × Reasons s.limits refusal.why → Refuses first.limits origin refusal new
    gather_refuses at refusal is e =
        next_refuses refusal (e.0 ∙ is) (subst (λ (l : Limits). Reasons l refusal.why) m.taken.same.limits e.1)

  -- the next record is refused, or can't be read
  pub one_refused : (refusal : Refusal) → ((refusal.at ≡ mid.given) × FailsPiece (record_in Any head.flag_in_end) (RecordTook head.flag_in_end) mid refusal.why new)
      ⊎ RefusesOne t head.flag_in_end mid s refusal new → Refuses first.limits origin refusal new
  one_refused refusal (inl f) = gather_fails refusal f.0 f.1
  one_refused refusal (inr o) = let e = o.reason m.records m.taken.stands in gather_refuses o.read refusal.at refusal e.0 (refl, e.1)

  -- it is taken
  pub one_more : {after : ReaderState C} → HasTakenOne t head.flag_in_end mid s new after → HasGathered t origin head first new after
  one_more o = gather_more o.read _ (o.taken m.records m.taken.stands) o.same.unit o.same.limits o.same.profile

  -- END is read
  pub gather_ends : (at : ℕ) → at ≡ mid.given → ReadsValue (record_in Any head.flag_in_end) mid End new → HasAll t origin head first at new s
  gather_ends at is read = record {
    records = m.records;
    bytes = m.bytes;
    last = read.bytes;
    takes = Consumed-then origin mid new m.bytes read.bytes m.takes read.takes;
    front = m.front;
    end = read.spelled;
    place = is ∙ m.takes.given;
    taken = m.taken;
  }

-- a rectangle at hand is a record before END
pub peeked_read : {old new : Script} {bytes : List ℕ} {ahead : PeekedRectangle} (in_end : Bool) → IsPeeked bytes ahead → Consumed old (take ahead.length bytes) new → ReadsValue (inner_in in_end) old (Rectangle ahead.rectangle) new
peeked_read in_end is takes = record { bytes = _; takes = takes; spelled = record { holds = λ e. cc; spelled = is.spelled in_end } }

-- so is a placement or a text
pub named_inner : (next : NamedOnce) → IsInner (named_record next)
named_inner (once.Placement c quarters flip x y) = λ e. cc
named_inner (once.Text s textlayer texttype x y) = λ e. cc

pub named_read : {old new : Script} {bytes : List ℕ} {ahead : PeekedNamed} (in_end : Bool) → IsPeekedNamed bytes ahead → Consumed old (take ahead.length bytes) new
    → ReadsValue (inner_in in_end) old (named_record ahead.element) new
named_read {ahead = ahead} in_end is takes = record { bytes = _; takes = takes; spelled = record { holds = named_inner ahead.element; spelled = is.spelled in_end } }

-- and a polygon or a path
pub figure_read : {old new : Script} {bytes : List ℕ} {ahead : PeekedFigure} (in_end : Bool) → IsPeekedFigure bytes ahead → Consumed old (take ahead.length bytes) new → ReadsValue (inner_in in_end) old ahead.record new
figure_read in_end is takes = record { bytes = _; takes = takes; spelled = record { holds = is.inner; spelled = is.spelled in_end } }

-- and any record
pub hand_read : {old new : Script} {bytes : List ℕ} {in_end : Bool} {found : Found} → IsAtHand in_end bytes found → Consumed old (take found.length bytes) new → ReadsValue (inner_in in_end) old found.record new
hand_read is takes = record { bytes = _; takes = takes; spelled = is.spelled }
