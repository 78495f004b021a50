-- What follows END, and all that was gathered.
use Rattle.std.proofs.Common.{◌≡◌, ℕ, ◌+◌, List, [], ◌∷◌, ◌++◌, length, None, Some, IsTrue, ◌⊎◌, inl, inr, refl, sym, ap, subst, ◌∙◌, append_assoc, arith}
use Rattle.std.proofs.lemmas.List.{append-nil, length-append}
use Rattle.oas_num.specs.declared.refusals.Why.{Why}
use Rattle.oas_num.specs.declared.refusals.Why.TheVariants.{TrailingBytes, Read, InputTooLong, Memory}
use Rattle.oas_num.specs.declared.refusals.Refusal.{Refusal}
use Rattle.oas_num.specs.Script.{Script, Consumed, IsAtEnd}
use Rattle.oas_num.proofs.ReadLemmas.{Consumed-then, Consumed-still}
use Rattle.oas_num.proofs.RefusingLemmas.{ForMemory, Decided, judged_refused, StoppedBy, stopped_not, stopped_refused}
use Rattle.oas_elements.specs.declared.limits.Limits.{Limits}
use Rattle.oas_narrow.specs.Stands.{ReaderState, end_refusal}
use Rattle.oas_narrow.specs.Stores.{Store}
use Rattle.oas_canon.specs.Gathering.{MissesEnd}
use Rattle.oas_canon.proofs.Judged.{end_decides}
use Rattle.oas_narrow.specs.WideEnd.{WideEnd}
use Rattle.oas_narrow.specs.WideStart.{WideStart}
use Rattle.oas_narrow.specs.WideRecord.{WideRecord}
use Rattle.oas_narrow.specs.WideWhy.{WideWhy}
use Rattle.oas_narrow.specs.WideWhy.TheVariants as wide
use Rattle.oas_narrow.specs.declared.dropping.Dropping.{Dropping}
use Rattle.oas_narrow.specs.declared.places.Place.{Place}
use Rattle.oas_narrow.specs.declared.places.Place.TheVariants.{File}
use Rattle.oas_narrow.specs.declared.places.Rejection.{Rejection}
use Rattle.oas_narrow.specs.Narrowing.{narrowed}
use Rattle.oas_narrow.specs.Preparable.{IsUnitOf, AllPrepared, IsValid, Formed, Preparable}
use Rattle.oas_narrow.specs.Rejections.{refused}
use Rattle.oas_narrow.specs.WideFiles.{WideFileOf}
use Rattle.oas_prepare.specs.declared.gathering.Gathered.{Gathered}
use Rattle.oas_prepare.specs.Gathering.{HasAll, IsGathered}
use Rattle.oas_prepare.specs.Places.{at_file, StopsAt, AfterLast, ByEnd}
use Rattle.oas_prepare.specs.Taking.{State}
use Rattle.oas_narrow.specs.Reasons.{plain_of}
use Rattle.oas_prepare.specs.Deciding.{decides}
use Rattle.oas_prepare.specs.Reasons.{DecidedAt, TailMay, TheTail, WholeMay, Unsound, Torn, TheWhole, IsReasoned}
use Rattle.oas_prepare.specs.Run.{IsPlaced, Stops}
use Rattle.oas_prepare.proofs.Refusing.{memory_placed, there_at}
use Rattle.oas_prepare.proofs.Fronts.{file_all}
use Rattle.oas_prepare.proofs.OneFile.{one_file}

-- ---- after END

module _ {C : Type 0} {t : Store C} {old mid : Script} {head : WideStart} {first p : State C} {end_at : ℕ} {end : WideEnd} (m : HasAll t old head first end_at end mid p) where
  abbrev limits : Limits
  limits = first.reader.limits

  abbrev dropping : Dropping
  dropping = first.dropping

  abbrev all : List ℕ
  all = m.bytes ++ m.last

  -- no file is a proper prefix of this one
  all_taken : (whole rest : List ℕ) → whole ++ rest ≡ all → Preparable limits dropping whole → rest ≡ []
  all_taken whole rest e a = (one_file rest a.formed.file (file_all m.front m.ends) e).none

  tail_place : (at : ℕ) → at ≡ mid.given → old.given ≡ 0 → at ≡ length m.bytes + length m.last
  tail_place at is fresh = omega (arith, is, m.takes.given, fresh, length-append m.bytes m.last)

  -- what was taken, where the end doesn't follow
  tail_reasoned : {new : Script} (at : ℕ) (why : WideWhy) (tail : List ℕ) → at ≡ mid.given → Consumed mid tail new → TailMay why tail → IsReasoned limits dropping old (at_file at why) new
  tail_reasoned {new = new} at why tail is takes may = record {
    bytes = all ++ tail;
    takes = Consumed-then old mid new all tail m.takes takes;
    decided = λ fresh. TheTail (record {
      left = m.last ++ tail;
      start = head;
      records = m.records;
      from = length m.bytes;
      before = record { before = m.bytes; front = m.front; prepared = m.prepared; place = refl; joined = append_assoc m.bytes m.last tail };
      end = end;
      last = m.last;
      tail = tail;
      ends = m.ends;
      joined = refl;
      place = tail_place at is fresh;
      is = may;
    });
  }

  byte_stops : {new : Script} (at byte : ℕ) → at ≡ mid.given → Consumed mid (byte ∷ []) new → Stops limits dropping old (at_file at (wide.Profile TrailingBytes)) new
  byte_stops {new = new} at byte is takes = (
    judged_refused both (Decided refl (λ more a. not more a)),
    record {
      bytes = all ++ (byte ∷ []);
      takes = both;
      there = tt;
      placed = λ fresh _ more _. AfterLast (record {
        left = m.last ++ (byte ∷ more);
        start = head;
        records = m.records;
        from = length m.bytes;
        before = record { before = m.bytes; front = m.front; prepared = m.prepared; place = refl; joined = append_assoc all (byte ∷ []) more ∙ append_assoc m.bytes m.last (byte ∷ more) };
        end = end;
        last = m.last;
        byte = byte;
        rest = more;
        ends = m.ends;
        joined = refl;
        place = tail_place at is fresh;
      });
    },
    tail_reasoned at (wide.Profile TrailingBytes) (byte ∷ []) is takes (byte, refl),
  ) where
    both : Consumed old (all ++ (byte ∷ [])) new
    both = Consumed-then old mid new all (byte ∷ []) m.takes takes

    not : (more : List ℕ) → Preparable limits dropping ((all ++ (byte ∷ [])) ++ more) → ⊥
    not more a = let none = (one_file (byte ∷ more) (file_all m.front m.ends) a.formed.file (sym (append_assoc all (byte ∷ []) more))).none in cc

  -- the source stopped
  tail_stopped : {new : Script} (at : ℕ) (why : Why) → at ≡ mid.given → Consumed mid [] new → StoppedBy why new → TailMay (wide.Profile why) [] → Stops limits dropping old (at_file at (wide.Profile why)) new
  tail_stopped {new = new} at why is takes stop may = (
    stopped_refused why all (Consumed-still m.takes takes) stop all_taken,
    record { bytes = all; takes = Consumed-still m.takes takes; there = tt; placed = λ fresh of_file. absurd (stopped_not why new stop of_file) },
    tail_reasoned at (wide.Profile why) [] is takes may,
  )

  tail_stops : {new : Script} (at : ℕ) (why : Why) → at ≡ mid.given → MissesEnd mid why new → Stops limits dropping old (at_file at (wide.Profile why)) new
  tail_stops at TrailingBytes is h = byte_stops at h.0 is h.1
  tail_stops at Read is h = tail_stopped at Read is h.0 h.1 refl
  tail_stops at InputTooLong is h = tail_stopped at InputTooLong is h.0 h.1 refl
  tail_stops at _ is h = absurd h

  -- the input doesn't end after END
  pub not_ended : {new : Script} (refusal : Refusal) → (refusal.at ≡ mid.given) × MissesEnd mid refusal.why new → Stops limits dropping old (refused refusal) new
  not_ended refusal h = tail_stops refusal.at refusal.why h.0 h.1

  -- the input ends
  pub all_gathered : {new : Script} {limited : Limits} {drop : Dropping} → Consumed mid [] new → IsAtEnd new → IsUnitOf head.unit first.reader.unit →
      limits ≡ limited → dropping ≡ drop → IsGathered t limited drop old (record { preparation = p; at = end_at; end = end }) new
  all_gathered takes at_end is_unit within named = record {
    start = head;
    records = m.records;
    bytes = m.bytes;
    last = m.last;
    takes = Consumed-still m.takes takes;
    ended = at_end;
    front = m.front;
    ends = m.ends;
    place = m.place;
    is_unit = subst (IsUnitOf head.unit) (sym m.same.unit) is_unit;
    prepared = subst (λ (b : Limits × Dropping). AllPrepared b.0 b.1 m.records) (λ i. (within i, named i)) m.prepared;
    stands = m.stands;
    within = m.same.limits ∙ within;
  }

-- ---- all that was gathered

module _ {C : Type 0} {t : Store C} {limits : Limits} {dropping : Dropping} {old new : Script} {g : Gathered (ReaderState C)} (m : IsGathered t limits dropping old g new) where
  abbrev whole : List ℕ
  whole = m.bytes ++ m.last

  pub file : WideFileOf m.start m.records g.end whole
  file = file_all m.front m.ends

  end_placed : (e : Rejection) → e.place ≡ File g.at → (end_refusal limits (narrowed m.records) ≡ None → IsValid g.end.validation whole → ⊥) → IsPlaced limits dropping old e new
  end_placed e place torn = record {
    bytes = whole;
    takes = m.takes;
    there = there_at old whole place;
    placed = λ fresh _ more ends.
        let is : whole ≡ whole ++ more = sym (append-nil whole) ∙ ap (λ (c : List ℕ). whole ++ c) (sym (ends m.ended)) in
        subst (λ (b : List ℕ). StopsAt limits dropping b e.place) is (subst (StopsAt limits dropping whole) (sym place) (ByEnd (record {
          left = m.last;
          start = m.start;
          records = m.records;
          before = record { before = m.bytes; front = m.front; prepared = m.prepared; place = omega (arith, m.place, fresh); joined = refl };
          end = g.end;
          ends = m.ends;
          torn = torn;
        })));
  }

  -- what was taken, at END
  whole_reasoned : (e : Rejection) → e.place ≡ File g.at → WholeMay limits m.records g.end whole e.why → IsReasoned limits dropping old e new
  whole_reasoned e place may = record {
    bytes = whole;
    takes = m.takes;
    decided = λ fresh. subst (λ (q : Place). DecidedAt limits dropping old new whole q e.why) (sym place) (TheWhole (record {
      left = m.last;
      start = m.start;
      records = m.records;
      before = record { before = m.bytes; front = m.front; prepared = m.prepared; place = omega (arith, m.place, fresh); joined = refl };
      end = g.end;
      ends = m.ends;
      ended = m.ended;
      is = may;
    }));
  }

  -- END refuses the records
  torn_stops : (e : Rejection) (why : Why) → e ≡ at_file g.at (wide.Profile why) → IsValid g.end.validation whole → (why ≡ Memory) ⊎ (end_refusal limits (narrowed m.records) ≡ Some why) →
      Stops limits dropping old e new
  torn_stops e why is right reason = by reason where
    place : e.place ≡ File g.at
    place = ap (λ (x : Rejection). x.place) is

    plain : e.why ≡ wide.Profile why
    plain = ap (λ (x : Rejection). x.why) is

    reasoned : IsReasoned limits dropping old e new
    reasoned = whole_reasoned e place (Torn why plain right reason)

    decided : end_refusal limits (narrowed m.records) ≡ Some why → IsTrue (decides e.why)
    decided some = subst (λ (w : WideWhy). IsTrue (decides w)) (sym plain) (end_decides limits (narrowed m.records) why some)

    not : end_refusal limits (narrowed m.records) ≡ Some why → end_refusal limits (narrowed m.records) ≡ None → ⊥
    not some none = let j = sym none ∙ some in cc

    by : (why ≡ Memory) ⊎ (end_refusal limits (narrowed m.records) ≡ Some why) → Stops limits dropping old e new
    by (inl memory) = (
      judged_refused m.takes (ForMemory (ap plain_of plain ∙ memory)),
      memory_placed e whole m.takes (there_at old whole place) (ap plain_of plain ∙ memory),
      reasoned,
    )
    by (inr some) = (
      judged_refused m.takes (Decided (decided some) (λ more a. not some (ap (λ (ws : List WideRecord). end_refusal limits (narrowed ws)) (one_file more file a.formed.file refl).records ∙ a.formed.whole))),
      end_placed e place (λ none. absurd (not some none)),
      reasoned,
    )

  pub whole_stops : (refusal : Refusal) → IsValid g.end.validation whole → (refusal.at ≡ g.at) × ((refusal.why ≡ Memory) ⊎ (end_refusal g.preparation.reader.limits (narrowed m.records) ≡ Some refusal.why)) →
      Stops limits dropping old (refused refusal) new
  whole_stops refusal right h =
      torn_stops (refused refusal) refusal.why (ap (λ at. at_file at (wide.Profile refusal.why)) h.0) right
      (subst (λ (l : Limits). (refusal.why ≡ Memory) ⊎ (end_refusal l (narrowed m.records) ≡ Some refusal.why)) m.within h.1)

  -- END says wrongly that the file is complete
  pub signed_stops : (IsValid g.end.validation whole → ⊥) → Stops limits dropping old (at_file g.at wide.Checksum) new
  signed_stops wrong = (
    judged_refused m.takes (Decided refl (λ more a. wrong (valid more a))),
    end_placed (at_file g.at wide.Checksum) refl (λ none. wrong),
    whole_reasoned (at_file g.at wide.Checksum) refl (Unsound refl wrong),
  ) where
    valid : (more : List ℕ) → Preparable limits dropping (whole ++ more) → IsValid g.end.validation whole
    valid more a =
        let s = one_file more file a.formed.file refl in
        let there : IsValid a.formed.end.validation whole = subst (λ (b : List ℕ). IsValid a.formed.end.validation b) (ap (λ (c : List ℕ). whole ++ c) s.none ∙ append-nil whole) a.valid in
        subst (λ (e : WideEnd). IsValid e.validation whole) (sym s.ends) there

  -- the records of a whole file
  unfoldable pub formed : end_refusal g.preparation.reader.limits (narrowed m.records) ≡ None → Formed limits dropping whole
  formed none = record {
    start = m.start;
    records = m.records;
    end = g.end;
    unit = g.preparation.reader.unit;
    file = file;
    is_unit = m.is_unit;
    prepared = m.prepared;
    whole = ap (λ (l : Limits). end_refusal l (narrowed m.records)) (sym m.within) ∙ none;
  }

-- limits, and what is named, that are those of the first
pub stops_by : {limits other : Limits} {dropping named : Dropping} {old new : Script} {e : Rejection} → limits ≡ other → dropping ≡ named → Stops limits dropping old e new → Stops other named old e new
stops_by {old = old} {new = new} {e = e} within by s = subst (λ (b : Limits × Dropping). Stops b.0 b.1 old e new) (λ i. (within i, by i)) s
