-- How the parts of a file are taken and judged, one after another.
use Rattle.std.proofs.Common.{◌≡◌, ℕ, ◌<◌, arith, Bool, IsTrue, List, [], ◌∷◌, ◌++◌, Option, None, Some, IfSome, Ok, ◌⊎◌, inl, inr, refl, sym, ap, subst, ◌∙◌, append_assoc}
use Rattle.std.proofs.lemmas.List.{append-nil}
use Rattle.std.specs.List.{AllByRecursion}
use Rattle.oas_num.specs.declared.refusals.Why.TheVariants.{Memory}
use Rattle.oas_num.specs.declared.refusals.Refusal.{Refusal}
use Rattle.oas_num.specs.Grammar.{IsEach}
use Rattle.oas_num.specs.Reading.{ReadsValue, FailsPiece}
use Rattle.oas_num.specs.Script.{Script, Consumed}
use Rattle.oas_num.specs.Style.{Any}
use Rattle.oas_num.proofs.ReadLemmas.{Consumed-then}
use Rattle.oas_num.proofs.RefusingLemmas.{ForMemory, judged_refused}
use Rattle.oas_record.specs.declared.heads.Head.{Head}
use Rattle.oas_record.specs.declared.records.Record.{Record}
use Rattle.oas_record.specs.declared.records.Record.TheVariants.{End as EndRecord}
use Rattle.oas_record.specs.Heads.{head_in}
use Rattle.oas_record.specs.Records.{record_in, IsInner}
use Rattle.oas_record.specs.Refusals.{RecordTook}
use Rattle.oas_elements.specs.declared.limits.Limits.{Limits}
use Rattle.oas_elements.specs.declared.profile.Profile.{Profile}
use Rattle.oas_writing.specs.Standing.{MayRunOut}
use Rattle.oas_writing.specs.Stores.{Store}
use Rattle.oas_writing.specs.Stands.{ReaderState, Represents, refusal as refusal_of}
use Rattle.oas_writing.specs.Deciding.{OutOfMemoryAt, ForNext}
use Rattle.oas_writing.specs.Files.{PrefixOf}
use Rattle.oas_writing.specs.Gathering.{inner_in, HasGathered, HasTaken}
use Rattle.oas_writing.specs.Reading.{Refuses}
use Rattle.oas_writing.proofs.Fronts.{allowed_more}
use Rattle.oas_writing.proofs.Refusing.{memory_placed}
use Rattle.oas_writing.proofs.SomePlaces.{record_long}
use Rattle.oas_writing.proofs.Taking.{gather_fails, gather_refuses}
use Rattle.oas_writing.specs.Judging.{Entry, entry_records, entry_bytes}
use Rattle.oas_writing.proofs.JudgeRecords.{all_more}
use Rattle.oas_judge.specs.declared.judge.FileJudge.{FileJudge}
use Rattle.oas_judge.specs.declared.parts.Part.{Part}
use Rattle.oas_judge.specs.declared.parts.Part.TheVariants.{Judged, Unjudged, End}
use Rattle.oas_judge.specs.Candidates.{IsCandidate}
use Rattle.oas_judge.specs.FileJudges.{holds, GoesOnTaking, Decides}
use Rattle.oas_judge.specs.Judged.{HasBegun, HasSeen, HasSeenAll}
use Rattle.oas_judge.specs.Kept.{RefusesKept}
use Rattle.oas_judge.specs.Parts.{MayWant, SeesMore, SeesWant, SeesEnd, SeesRefused, JudgesPart, StopsAt}

-- ---- entries

each_read : (flag : Bool) (entries : List Entry) → AllByRecursion (λ e. inner_in flag e.0 e.1) entries → IsEach (inner_in flag) (entry_records entries) (entry_bytes entries)
each_read flag [] each = refl
each_read flag (e ∷ es) each = (e.1, entry_bytes es, each.0, each_read flag es each.1, refl)

pub records_with : (entries : List Entry) (e : Entry) → entry_records (entries ++ e ∷ []) ≡ entry_records entries ++ e.0 ∷ []
records_with [] e = refl
records_with (f ∷ fs) e = ap (λ (rs : List Record). f.0 ∷ rs) (records_with fs e)

pub bytes_with : (entries : List Entry) (e : Entry) → entry_bytes (entries ++ e ∷ []) ≡ entry_bytes entries ++ e.1
bytes_with [] e = append-nil e.1
bytes_with (f ∷ fs) e = ap (λ (b : List ℕ). f.1 ++ b) (bytes_with fs e) ∙ sym (append_assoc f.1 (entry_bytes fs) e.1)

-- a prefix of a file, from its entries
pub front_of : {head : Head} {start : List ℕ} (entries : List Entry) → head_in Any head start → AllByRecursion (λ e. inner_in head.flag_in_end e.0 e.1) entries →
    PrefixOf head (entry_records entries) (start ++ entry_bytes entries)
front_of {head = head} {start = start} entries begun each = record {
  spelled = record { front = start; back = entry_bytes entries; first = begun; second = each_read head.flag_in_end entries each; joined = refl };
}

-- a refusal of a reader is one here
pub as_kept : {limits : Limits} {old new : Script} {refusal : Refusal} → Refuses limits old refusal new → RefusesKept limits old refusal new
as_kept r = (r.0, r.1, inr r.2)

-- out of memory after bytes that were taken
pub wants_memory : (limits : Limits) (old new : Script) (bytes : List ℕ) (at : ℕ) → Consumed old bytes new → (old.given ≡ 0 → OutOfMemoryAt limits bytes at) →
    RefusesKept limits old (record { at = at; why = Memory }) new
wants_memory limits old new bytes at takes place =
    (judged_refused takes (ForMemory refl), memory_placed at Memory bytes takes refl, inl (record { reason = refl; bytes = bytes; takes = takes; place = place }))

module _ {C : Type 0} {t : Store C} {profile : Profile} {head : Head} {now : Script} {first : ReaderState C} {j : FileJudge} (b : HasBegun t profile head now first j) where
  pub seen_none : HasSeen t profile head b.begun.start b.origin first now first j
  seen_none = record {
    entries = [];
    takes = subst (λ (bytes : List ℕ). Consumed b.origin bytes now) (sym (append-nil b.begun.start)) b.begun.takes;
    each = tt;
    taken = record { stands = b.stands; allowed = tt; same = record { unit = refl; limits = refl; profile = refl } };
    judging = b.begun.judging;
  }

  module _ {mid : Script} {s : ReaderState C} {k : FileJudge} (m : HasSeen t profile head b.begun.start b.origin first mid s k) where
    abbrev pub gathered : HasGathered t b.origin head first mid s
    gathered = record {
      records = entry_records m.entries;
      bytes = b.begun.start ++ entry_bytes m.entries;
      takes = m.takes;
      front = front_of m.entries b.begun.spelled m.each;
      taken = m.taken;
    }

-- a record has at least one byte
part_grows : {in_end : Bool} {mid new : Script} {r : Record} → ReadsValue (inner_in in_end) mid r new → mid.given < new.given
part_grows read = omega (arith, record_long _ _ _ read.spelled.spelled, read.takes.given)

module _ {C : Type 0} {t : Store C} {head : Head} {mid new : Script} {s : ReaderState C} {k : FileJudge} where
  -- ---- neither a record nor END

  pub part_fails : (refusal : Refusal) → refusal.at ≡ mid.given → FailsPiece (record_in Any head.flag_in_end) (RecordTook head.flag_in_end) mid refusal.why new → SeesRefused t head mid s k refusal new
  part_fails refusal at f profile now first judge b m = gather_fails (gathered b m) refusal at f

  -- ---- END

  pub part_ends : (known : Option Bool) (read : ReadsValue (record_in Any head.flag_in_end) mid EndRecord new) → IfSome known (Decides k read.bytes) → SeesEnd t head mid s k known new s k
  part_ends known read decides profile now first judge b m = (
    record {
      entries = m.entries;
      last = read.bytes;
      takes = Consumed-then b.origin mid new (b.begun.start ++ entry_bytes m.entries) read.bytes m.takes read.takes;
      each = m.each;
      end = read.spelled;
      place = m.takes.given;
      taken = m.taken;
      judging = m.judging;
    },
    decides,
  )

  -- ---- a record

  module _ {r : Record} (read : ReadsValue (inner_in head.flag_in_end) mid r new) where
    -- it is refused
    pub part_refused : (at : ℕ) (refusal : Refusal) → at ≡ mid.given
        → ((rs : List Record) → Represents t s rs → (refusal.at ≡ at) × (((refusal.why ≡ Memory) × MayRunOut (refusal_of s.limits rs r)) ⊎ (refusal_of s.limits rs r ≡ Some refusal.why)))
        → SeesRefused t head mid s k refusal new
    part_refused at refusal place refused profile now first judge b m = gather_refuses (gathered b m) read at refusal place (refused _ m.taken.stands)

    -- it is taken
    module _ {after : ReaderState C} (taken : (rs : List Record) → Represents t s rs → (refusal_of s.limits rs r ≡ None) × Represents t after (rs ++ r ∷ [])) where
      -- or memory runs out for it
      pub part_wants : SeesWant t head mid s k new
      part_wants profile now first judge b m =
          let accepted = taken _ m.taken.stands in
          gather_refuses (gathered b m) read mid.given (record { at = mid.given; why = Memory }) refl (refl, inl (refl, inl accepted.0))

      -- and judged
      module _ (unit : after.unit ≡ s.unit) (limits : after.limits ≡ s.limits) (by : after.profile ≡ s.profile) {judged : FileJudge} {known : List ℕ} (g : GoesOnTaking known k r judged)
          (tied : IsTrue (holds k) → known ≡ read.bytes) where
        more : {profile : Profile} {now : Script} {first : ReaderState C} {judge : FileJudge} (b : HasBegun t profile head now first judge)
            → HasSeen t profile head b.begun.start b.origin first mid s k → HasSeen t profile head b.begun.start b.origin first new after judged
        more {profile = profile} {first = first} b m = record {
          entries = m.entries ++ (r, read.bytes) ∷ [];
          takes = subst (λ (bytes : List ℕ). Consumed b.origin bytes new)
              (append_assoc b.begun.start (entry_bytes m.entries) read.bytes ∙ ap (λ (bytes : List ℕ). b.begun.start ++ bytes) (sym (bytes_with m.entries (r, read.bytes))))
              (Consumed-then b.origin mid new (b.begun.start ++ entry_bytes m.entries) read.bytes m.takes read.takes);
          each = all_each;
          taken = all_taken;
          judging = g.goes_on first.limits profile head b.begun.start m.entries r read.bytes (record { each = all_each; allowed = all_taken.allowed })
              (λ told. subst (λ (p : Profile). IsCandidate p g.candidate r) m.judging.by (g.says told)) tied m.judging;
        } where
          accepted : (refusal_of s.limits (entry_records m.entries) r ≡ None) × Represents t after (entry_records m.entries ++ r ∷ [])
          accepted = taken _ m.taken.stands

          all_taken : HasTaken t first after (entry_records (m.entries ++ (r, read.bytes) ∷ []))
          all_taken =
              let same = m.taken.same in
              subst (λ (rs : List Record). HasTaken t first after rs) (sym (records_with m.entries (r, read.bytes))) (record {
                stands = accepted.1;
                allowed = allowed_more first.limits (entry_records m.entries) r m.taken.allowed (ap (λ (l : Limits). refusal_of l (entry_records m.entries) r) (sym same.limits) ∙ accepted.0);
                same = record { unit = unit ∙ same.unit; limits = limits ∙ same.limits; profile = by ∙ same.profile };
              })

          all_each : AllByRecursion (λ e. inner_in head.flag_in_end e.0 e.1) (m.entries ++ (r, read.bytes) ∷ [])
          all_each = (all_more (λ (e : Entry). inner_in head.flag_in_end e.0 e.1) m.entries (r, read.bytes)).1 (m.each, read.spelled)

        pub part_seen : (mid.given < new.given) × SeesMore t head mid s k new after judged
        part_seen = (part_grows read, λ profile now first judge b m. (more b m, part_wants profile now first judge b m))

-- ---- a record at hand

-- it was taken
abbrev pub peeked : {in_end : Bool} {mid new : Script} {known : List ℕ} {r : Record} → IsInner r → ((in_end : Bool) → record_in Any in_end r known) → Consumed mid known new → ReadsValue (inner_in in_end) mid r new
peeked {in_end = in_end} {known = known} inner spelled takes = record { bytes = known; spelled = record { holds = inner; spelled = spelled in_end }; takes = takes }

-- ---- all parts

module _ {C : Type 0} (t : Store C) (profile : Profile) (head : Head) {now : Script} (first : ReaderState C) {judge : FileJudge} (b : HasBegun t profile head now first judge) where
  -- where taking ends
  pub stops : (old new : Script) (s s' : ReaderState C) (j j' : FileJudge) (part : Part) (at : ℕ) → at ≡ old.given → JudgesPart t head old s j (Ok part) new s' j'
      → HasSeen t profile head b.begun.start b.origin first old s j → StopsAt t profile head first b part at new s' j'
  stops old new s s' j j' Judged at is judges m = subst (λ (n : ℕ). MayWant first.limits b.origin n new) (sym is) (judges.1 profile now first judge b m).1
  stops old new s s' j j' Unjudged at is judges m = subst (λ (n : ℕ). MayWant first.limits b.origin n new) (sym is) (judges profile now first judge b m)
  stops old new s s' j j' (End known) at is judges m =
      subst (λ (n : ℕ). (a : HasSeenAll t profile head b.begun.start b.origin first n new s' j') × IfSome known (Decides j' a.last)) (sym is) (judges profile now first judge b m)

  -- out of memory there
  pub stops_wanting : (new : Script) (s : ReaderState C) (k : FileJudge) (part : Part) (at : ℕ) → StopsAt t profile head first b part at new s k → RefusesKept first.limits b.origin (record { at = at; why = Memory }) new
  stops_wanting new s k Judged at may = as_kept may
  stops_wanting new s k Unjudged at may = as_kept may
  stops_wanting new s k (End known) at all =
      let m = all.0 in
      wants_memory first.limits b.origin new ((b.begun.start ++ entry_bytes m.entries) ++ m.last) at m.takes (λ fresh. ForNext m.last head (entry_records m.entries) (record {
        before = b.begun.start ++ entry_bytes m.entries;
        front = front_of m.entries b.begun.spelled m.each;
        allowed = m.taken.allowed;
        place = omega (arith, m.place, fresh);
        joined = refl;
      }))
