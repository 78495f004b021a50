-- What was read from what was kept and then from the source was read from that source; and a file that is canonical.
use Rattle.std.proofs.Common.{◌≡◌, ℕ, ◌-◌, ◌<◌, ◌≤◌, Bool, true, false, IsTrue, List, [], ◌++◌, length, drop, Option, Some, None, IfSome, Result, Ok, Err, refl, sym, ap, subst, ◌∙◌, arith}
use Rattle.std.specs.Prelude.{if◌then◌else◌, unwrap_or}
use Rattle.std.proofs.lemmas.List.{take_all}
use Rattle.std.proofs.Math.ListN.{drop_of_length-le}
use Rattle.std.proofs.Math.Seq.{drop-append_seam}
use base.Fml.{GName}
use Rattle.oas_num.specs.declared.refusals.Why.TheVariants.{Memory}
use Rattle.oas_num.specs.declared.refusals.Refusal.{Refusal}
use Rattle.oas_num.specs.SourceFault.{SourceFault}
use Rattle.oas_num.specs.Script.{Script, Rest, since, Consumed, IsAtEnd, HasFailed, IsTooLong, NoneLeft}
use Rattle.oas_num.proofs.ReadLemmas.{Consumed-one}
use Rattle.oas_record.specs.declared.heads.Head.{Head}
use Rattle.oas_elements.specs.declared.limits.Limits.{Limits}
use Rattle.oas_elements.specs.declared.profile.Profile.{Profile}
use Rattle.oas_elements.specs.Contents.{Contents}
use Rattle.oas_writing.specs.Deciding.{DecidedAt}
use Rattle.oas_writing.specs.Reading.{ReadsLayout}
use Rattle.oas_writing.specs.Stores.{Store}
use Rattle.oas_writing.specs.Stands.{ReaderState, end_refusal}
use Rattle.oas_writing.specs.Judging.{entry_records}
use Rattle.oas_num.proofs.RefusingLemmas.{ForMemory, judged_refused}
use Rattle.oas_writing.proofs.Refusing.{memory_placed}
use Rattle.oas_judge.specs.declared.judge.FileJudge.{FileJudge}
use Rattle.oas_judge.specs.FileJudges.{Decides}
use Rattle.oas_judge.specs.Given.{IsGiven}
use Rattle.oas_judge.specs.Judged.{HasBegun, HasSeenAll}
use Rattle.oas_judge.specs.declared.parts.Part.{Part}
use Rattle.oas_judge.specs.declared.parts.Part.TheVariants.{Judged, Unjudged, End}
use Rattle.oas_judge.specs.Parts.{MayWant, StopsAt}
use Rattle.oas_judge.specs.Sources.{IsJoined, joined_script, limit_with, with_left}
use Rattle.oas_judge.proofs.FileLemmas.{judged}
use Rattle.oas_judge.proofs.JoinedLemmas.{before}

-- ---- what the joined source says is so of the source

settled_by : (asked : Bool) (s : Option (Result (Option ℕ) SourceFault)) (answer : Result (Option ℕ) SourceFault) → (if asked then s else None) ≡ Some answer → (s ≡ Some answer) × IsTrue asked
settled_by true s answer is = (is, refl)
settled_by false s answer is = absurd cc

none_by : (rest : Option Rest) (goes_on : Bool) → NoneLeft (with_left [] rest) goes_on → NoneLeft rest goes_on
none_by None goes_on none = tt
none_by (Some rest) goes_on none = none

module _ {start mid now : Script} {whole : List ℕ} {name same : GName} {kept : List ℕ} {at : ℕ} {asked : Bool} (first : Consumed start kept mid) (j : IsJoined start whole name same now kept at asked) where
  abbrev from : Script
  from = joined_script mid kept false (limit_with start kept)

  abbrev to : Script
  to = joined_script now [] asked (limit_with start kept)

  takes_back : (bytes : List ℕ) → Consumed from bytes to → Consumed start bytes now
  takes_back bytes takes =
      let all : now.history ≡ start.history ++ bytes =
      sym (take_all (length now.history - 0) now.history (omega arith)) ∙ takes.history ∙ ap (λ (l : List ℕ). l ++ bytes) (before mid.history start.history kept first.history) in
      let is : since start now ≡ bytes = ap (λ (l : List ℕ). drop (length start.history) l) all ∙ drop-append_seam start.history bytes in
      subst (λ (l : List ℕ). Consumed start l now) is j.takes

  fresh_back : start.given ≡ 0 → from.given ≡ 0
  fresh_back fresh = omega (arith, first.given, fresh)

  ended_back : IsAtEnd to → IsAtEnd now
  ended_back e = record { settled = (settled_by asked now.settled _ e.settled).0; none = none_by now.rest false e.none }

  failed_back : HasFailed to → HasFailed now
  failed_back f = record { settled = (settled_by asked now.settled _ f.settled).0; unreliable = f.unreliable; failed = f.failed }

  too_long_back : IsTooLong to → IsTooLong now
  too_long_back l =
      let is = settled_by asked now.settled _ l.settled in
      record { settled = is.0; all = omega (arith, l.all, j.within is.1, j.takes.limit); none = none_by now.rest true l.none }

  read_back : (limits : Limits) (profile : Profile) (result : Result Contents Refusal) → ReadsLayout limits profile from result to → ReadsLayout limits profile start result now
  read_back limits profile (Ok l) r = record {
    bytes = r.bytes;
    takes = takes_back r.bytes r.takes;
    ended = ended_back r.ended;
    accepted = r.accepted;
    meaning = r.meaning;
    means = r.means;
    same = r.same;
    layout = r.layout;
    within = r.within;
    by = r.by;
  }
  read_back limits profile (Err refusal) r = (
    record {
      bytes = r.0.bytes;
      takes = takes_back r.0.bytes r.0.takes;
      decided = r.0.decided;
      cut = r.0.cut;
      truncated = λ is. let t = r.0.truncated is in (t.0, ended_back t.1);
      device = λ is. failed_back (r.0.device is);
      too_long = λ is. too_long_back (r.0.too_long is);
      reading = r.0.reading;
    },
    record { bytes = r.1.bytes; takes = takes_back r.1.bytes r.1.takes; placed = λ fresh is more ended. r.1.placed (fresh_back fresh) is more (λ e. ended (ended_back e)) },
    record { bytes = r.2.bytes; takes = takes_back r.2.bytes r.2.takes; decided = λ fresh. r.2.decided (fresh_back fresh) },
  )

module _ {start now : Script} {whole : List ℕ} {name same : GName} {kept : List ℕ} {at : ℕ} {asked : Bool} (handed : List ℕ) (is : handed ≡ whole)
    (j : IsJoined start whole name same now kept at asked) where
  kept_is : kept ≡ handed
  kept_is = j.same_kept ∙ sym is

  -- where some is left to be given once more
  pub left_still : at < length handed → Consumed start handed now
  left_still some = let some_left : at < length kept = omega (arith, ap length kept_is, some) in subst (λ (l : List ℕ). Consumed start l now) kept_is (j.waits some_left).0

  -- where none is
  pub read_on : {mid : Script} (limits : Limits) (profile : Profile) (result : Result Contents Refusal) → Consumed start handed mid → length handed ≤ at →
      ReadsLayout limits profile (joined_script mid handed false (limit_with start handed)) result (joined_script now (drop at kept) asked (limit_with start kept)) →
      ReadsLayout limits profile start result now
  read_on {mid = mid} limits profile result first all r =
      let none : drop at handed ≡ [] = drop_of_length-le handed all in
      let here : ReadsLayout limits profile (joined_script mid handed false (limit_with start handed)) result (joined_script now (drop at handed) asked (limit_with start handed)) =
      subst (λ (l : List ℕ). ReadsLayout limits profile (joined_script mid handed false (limit_with start handed)) result (joined_script now (drop at l) asked (limit_with start l))) kept_is r in
      read_back first (subst (λ (l : List ℕ). IsJoined start whole name same now l at asked) kept_is j) limits profile result
      (subst (λ (l : List ℕ). ReadsLayout limits profile (joined_script mid handed false (limit_with start handed)) result (joined_script now l asked (limit_with start handed))) none here)

-- as long as only what was kept was read again, memory may still run out where it might have run out before
pub wants_again : {limits : Limits} {start mid now : Script} {at : ℕ} (kept : List ℕ) → MayWant limits start at mid → Consumed start kept mid → Consumed start kept now → MayWant limits start at now
wants_again {limits = limits} {at = at} kept may first takes = (
  judged_refused takes (ForMemory refl),
  memory_placed at Memory kept takes refl,
  record { bytes = kept; takes = takes; decided = λ fresh. subst (λ (b : List ℕ). DecidedAt limits b at Memory) (Consumed-one may.2.takes first) (may.2.decided fresh) },
)

-- ---- a canonical file

-- what was taken last is a record
pub stopped_before : {C : Type 0} {t : Store C} {profile : Profile} {head : Head} {now : Script} {first : ReaderState C} {j : FileJudge} (b : HasBegun t profile head now first j) (new : Script) (s : ReaderState C)
    (k : FileJudge) (part : Part) (at : ℕ) → ((known : Option Bool) → part ≡ End known → ⊥) → StopsAt t profile head first b part at new s k → MayWant first.limits b.origin at new
stopped_before b new s k Judged at before may = may
stopped_before b new s k Unjudged at before may = may
stopped_before b new s k (End known) at before all = absurd (before known refl)

-- an answer that is known to be yes
pub known_yes : (P : Bool → Type 0) (known : Option Bool) → IsTrue (unwrap_or known false) → IfSome known P → P true
known_yes P None told is = absurd cc
known_yes P (Some true) told is = is
known_yes P (Some false) told is = absurd cc

pub given_form : {C : Type 0} {t : Store C} {limits : Limits} {profile : Profile} {head : Head} {now mid new : Script} {first s : ReaderState C} {j k : FileJudge} {at : ℕ}
    (b : HasBegun t profile head now first j) (m : HasSeenAll t profile head b.begun.start b.origin first at mid s k) → Decides k m.last true → first.limits ≡ limits
    → end_refusal s.limits (entry_records m.entries) ≡ None → Consumed mid [] new → IsAtEnd new → (bytes : List ℕ) × IsGiven limits profile b.origin bytes new
given_form b m decides within whole takes ended = let is = judged b m within whole takes ended true decides in (is.bytes, record { takes = is.takes; ended = is.ended; form = is.answer.0 refl })

-- what was kept is that
pub given_kept : {limits : Limits} {profile : Profile} {old new : Script} (kept : List ℕ) → ((bytes : List ℕ) × IsGiven limits profile old bytes new) → Consumed old kept new → IsGiven limits profile old kept new
given_kept {limits = limits} {profile = profile} {old = old} {new = new} kept given takes =
    subst (λ (b : List ℕ). IsGiven limits profile old b new) (Consumed-one given.1.takes takes) given.1
