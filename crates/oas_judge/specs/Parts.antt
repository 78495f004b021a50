-- What judging the parts of a file does: one part, and all of them.
use Rattle.std.specs.Prelude.{◌≡◌, ℕ, ◌<◌, Bool, true, false, Option, IfSome, Result, Ok, Err}
use Rattle.oas_num.specs.declared.refusals.Why.TheVariants.{Memory}
use Rattle.oas_num.specs.declared.refusals.Refusal.{Refusal}
use Rattle.oas_num.specs.Script.{Script}
use Rattle.oas_record.specs.declared.heads.Head.{Head}
use Rattle.oas_elements.specs.declared.limits.Limits.{Limits}
use Rattle.oas_elements.specs.declared.profile.Profile.{Profile}
use Rattle.oas_writing.specs.Stores.{Store}
use Rattle.oas_writing.specs.Stands.{ReaderState}
use Rattle.oas_writing.specs.Reading.{Refuses}
use Rattle.oas_judge.specs.declared.judge.FileJudge.{FileJudge}
use Rattle.oas_judge.specs.declared.parts.Part.{Part}
use Rattle.oas_judge.specs.declared.parts.Part.TheVariants.{Judged, Unjudged, End}
use Rattle.oas_judge.specs.FileJudges.{Decides}
use Rattle.oas_judge.specs.Judged.{HasBegun, HasSeen, HasSeenAll}
use Rattle.oas_judge.specs.Kept.{RefusesKept}

-- memory may have run out there for what was taken
abbrev pub MayWant : Limits → Script → ℕ → Script → Type 0
MayWant limits origin at now = Refuses limits origin (record { at = at; why = Memory }) now

-- ---- one part, in a read that has seen some entries

module _ {C : Type 0} where
  -- it is one more entry; memory may have run out for it
  abbrev pub SeesMore : Store C → Head → Script → ReaderState C → FileJudge → Script → ReaderState C → FileJudge → Type 0
  SeesMore t head old s j new s' j' = (profile : Profile) (now : Script) (first : ReaderState C) (judge : FileJudge) (b : HasBegun t profile head now first judge)
      → HasSeen t profile head b.begun.start b.origin first old s j → HasSeen t profile head b.begun.start b.origin first new s' j' × MayWant first.limits b.origin old.given new

  -- memory ran out for it
  abbrev pub SeesWant : Store C → Head → Script → ReaderState C → FileJudge → Script → Type 0
  SeesWant t head old s j new = (profile : Profile) (now : Script) (first : ReaderState C) (judge : FileJudge) (b : HasBegun t profile head now first judge)
      → HasSeen t profile head b.begun.start b.origin first old s j → MayWant first.limits b.origin old.given new

  -- it is END, and the judge decides, or nothing is known
  abbrev pub SeesEnd : Store C → Head → Script → ReaderState C → FileJudge → Option Bool → Script → ReaderState C → FileJudge → Type 0
  SeesEnd t head old s j known new s' j' = (profile : Profile) (now : Script) (first : ReaderState C) (judge : FileJudge) (b : HasBegun t profile head now first judge)
      → HasSeen t profile head b.begun.start b.origin first old s j
      → (m : HasSeenAll t profile head b.begun.start b.origin first old.given new s' j') × IfSome known (Decides j' m.last)

  -- it is refused
  abbrev pub SeesRefused : Store C → Head → Script → ReaderState C → FileJudge → Refusal → Script → Type 0
  SeesRefused t head old s j refusal new = (profile : Profile) (now : Script) (first : ReaderState C) (judge : FileJudge) (b : HasBegun t profile head now first judge)
      → HasSeen t profile head b.begun.start b.origin first old s j → Refuses first.limits b.origin refusal new

  abbrev pub JudgesPart : Store C → Head → Script → ReaderState C → FileJudge → Result Part Refusal → Script → ReaderState C → FileJudge → Type 0
  JudgesPart t head old s j (Ok Judged) new s' j' = (old.given < new.given) × SeesMore t head old s j new s' j'
  JudgesPart t head old s j (Ok Unjudged) new s' j' = SeesWant t head old s j new
  JudgesPart t head old s j (Ok (End known)) new s' j' = SeesEnd t head old s j known new s' j'
  JudgesPart t head old s j (Err refusal) new s' j' = SeesRefused t head old s j refusal new

  -- it is a record that is at hand, or nothing was done
  abbrev pub JudgesAtHand : Store C → Head → Script → ReaderState C → FileJudge → Result Bool Refusal → Script → ReaderState C → FileJudge → Type 0
  JudgesAtHand t head old s j (Ok true) new s' j' = (old.given < new.given) × SeesMore t head old s j new s' j'
  JudgesAtHand t head old s j (Ok false) new s' j' = (new ≡ old) × (s' ≡ s) × (j' ≡ j)
  JudgesAtHand t head old s j (Err refusal) new s' j' = SeesRefused t head old s j refusal new

-- ---- all parts, in a read that has seen the head

module _ {C : Type 0} where
  -- what was taken last, at that offset
  abbrev pub StopsAt : (t : Store C) (profile : Profile) (head : Head) {now : Script} (first : ReaderState C) {judge : FileJudge} (b : HasBegun t profile head now first judge) → Part → ℕ → Script → ReaderState C → FileJudge → Type 0
  StopsAt t profile head first b (End known) at new s k = (m : HasSeenAll t profile head b.begun.start b.origin first at new s k) × IfSome known (Decides k m.last)
  StopsAt t profile head first b _ at new s k = MayWant first.limits b.origin at new

  abbrev pub JudgesParts : Store C → Head → Script → ReaderState C → FileJudge → Result (Part × ℕ) Refusal → Script → ReaderState C → FileJudge → Type 0
  JudgesParts t head old first j (Ok stop) new s k = (profile : Profile) (b : HasBegun t profile head old first j) → StopsAt t profile head first b stop.0 stop.1 new s k
  JudgesParts t head old first j (Err refusal) new s k = (profile : Profile) (b : HasBegun t profile head old first j) → Refuses first.limits b.origin refusal new

  -- END was taken, and the judge decides; END begins at that offset
  abbrev pub JudgesAll : Store C → Head → Script → ReaderState C → FileJudge → Result (Bool × ℕ) Refusal → Script → ReaderState C → FileJudge → Type 0
  JudgesAll t head old first j (Ok answer) new s k =
      (profile : Profile) (b : HasBegun t profile head old first j) → (m : HasSeenAll t profile head b.begun.start b.origin first answer.1 new s k) × Decides k m.last answer.0
  JudgesAll t head old first j (Err refusal) new s k = (profile : Profile) (b : HasBegun t profile head old first j) → RefusesKept first.limits b.origin refusal new
