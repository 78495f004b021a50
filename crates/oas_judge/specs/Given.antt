-- What reading a file does, where its bytes are kept if they are canonical.
use Rattle.std.specs.Prelude.{ℕ, IsTrue, List, Result, Ok, Err}
use Rattle.oas_num.specs.declared.refusals.Refusal.{Refusal}
use Rattle.oas_num.specs.Script.{Script, Consumed, IsAtEnd}
use Rattle.oas_elements.specs.declared.limits.Limits.{Limits}
use Rattle.oas_elements.specs.declared.profile.Profile.{Profile}
use Rattle.oas_writing.specs.Reading.{IsRead, Refuses}
use Rattle.oas_writing.specs.Canonical.{CanonicalForm}
use Rattle.oas_judge.specs.Parts.{MayWant}
use Rattle.oas_judge.specs.declared.given.Given.{Given}
use Rattle.oas_judge.specs.declared.given.Given.TheVariants.{Canonical, Layout}
use Rattle.oas_judge.specs.declared.given.Verdict.{Verdict}

-- all that the source gave are these bytes, which are a canonical form
pub record IsGiven (limits : Limits) (profile : Profile) (old : Script) (bytes : List ℕ) (new : Script) : Type 0 where
  pub takes : Consumed old bytes new
  pub ended : IsAtEnd new
  pub form : CanonicalForm limits profile bytes

-- the bytes or the layout of an accepted file, or a refusal
abbrev pub ReadsGiven : Limits → Profile → Script → Result Given Refusal → Script → Type 0
ReadsGiven limits profile old (Ok (Canonical bytes)) new = IsGiven limits profile old bytes.items new
ReadsGiven limits profile old (Ok (Layout l)) new = IsRead limits profile old l new
ReadsGiven limits profile old (Err refusal) new = Refuses limits old refusal new

-- Memory may have run out at that place for what was taken; and if it is canonical it is all.
abbrev pub Judges : Limits → Profile → Script → Result Verdict Refusal → Script → Type 0
Judges limits profile old (Ok verdict) new =
    MayWant limits old verdict.at new × (IsTrue verdict.canonical → (bytes : List ℕ) × IsGiven limits profile old bytes new)
Judges limits profile old (Err refusal) new = Refuses limits old refusal new
