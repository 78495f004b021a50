-- How the parts of a file are taken and judged, where some of them are series.
use Rattle.std.proofs.Common.{◌≡◌, ℕ, None, Result, Ok, Err, sym, subst}
use Rattle.oas_num.specs.declared.refusals.Refusal.{Refusal}
use Rattle.oas_num.specs.Script.{Script}
use Rattle.oas_record.specs.declared.heads.Head.{Head}
use Rattle.oas_writing.specs.Stands.{ReaderState}
use Rattle.oas_writing.specs.Stores.{Store}
use Rattle.oas_judge.specs.declared.judge.FileJudge.{FileJudge}
use Rattle.oas_judge.specs.declared.parts.Part.{Part}
use Rattle.oas_judge.specs.declared.parts.Part.TheVariants.{Judged, Unjudged, End}
use Rattle.oas_judge.specs.Parts.{JudgesPart, JudgesParts}
use Rattle.oas_judge.specs.Series.{SeesMany, JudgesNext, JudgesRest, JudgesAllSeries}
use Rattle.oas_judge.proofs.RecordSteps.{seen_none, stops}

module _ {C : Type 0} (t : Store C) (head : Head) where
  pub next_one : (old new : Script) (s s' : ReaderState C) (j j' : FileJudge) (part : Part) (at : ℕ) → at ≡ old.given → JudgesPart t head old s j (Ok part) new s' j' → JudgesNext t head old s j (Ok (part, at)) new s' j'
  next_one old new s s' j j' Judged at is h = (h.0, subst (λ (n : ℕ). SeesMany t head old s j n new s' j') (sym is) h.1)
  next_one old new s s' j j' Unjudged at is h = (is, h)
  next_one old new s s' j j' (End known) at is h = (is, h)

  -- the same from what is as it was
  pub next_still : (old mid new : Script) (s sm s' : ReaderState C) (j jm j' : FileJudge) (r : Result (Part × ℕ) Refusal) → (mid ≡ old) × (sm ≡ s) × (jm ≡ j) → JudgesNext t head mid sm jm r new s' j' → JudgesNext t head old s j r new s' j'
  next_still old mid new s sm s' j jm j' r h n =
      subst (λ (p : Script × ReaderState C × FileJudge). JudgesNext t head p.0 p.1 p.2 r new s' j') (λ i. (h.0 i, h.1 i, h.2 i)) n

  -- where taking ends
  pub next_stops : (old new : Script) (s s' : ReaderState C) (j j' : FileJudge) (part : Part) (at : ℕ) → JudgesNext t head old s j (Ok (part, at)) new s' j' → JudgesRest t head old s j (Ok (part, at)) new s' j'
  next_stops old new s s' j j' Judged at h profile now first judge b m = (h.1 profile now first judge b m).1
  next_stops old new s s' j j' Unjudged at h profile now first judge b m = stops t profile head first b old new s s' j j' Unjudged at h.0 h.1 m
  next_stops old new s s' j j' (End known) at h profile now first judge b m = stops t profile head first b old new s s' j j' (End known) at h.0 h.1 m

  -- all parts, once the series are taken
  pub rest_parts : (old mid new : Script) (first s s' : ReaderState C) (j k k' : FileJudge) (r : Result (Part × ℕ) Refusal) → JudgesAllSeries t head old first j (Ok None) mid s k → JudgesRest t head mid s k r new s' k'
      → JudgesParts t head old first j r new s' k'
  rest_parts old mid new first s s' j k k' (Ok stop) series rest = λ profile b. rest profile old first j b (series profile old first j b (seen_none b))
  rest_parts old mid new first s s' j k k' (Err refusal) series rest = λ profile b. rest profile old first j b (series profile old first j b (seen_none b))
