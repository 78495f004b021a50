-- What reading a layout from a source does.
use Rattle.std.specs.Prelude.{◌≡◌, ℕ, List, [], ◌++◌, Result, Ok, Err, IsTrue}
use Rattle.oas_num.specs.declared.refusals.Why.{Why}
use Rattle.oas_num.specs.declared.refusals.Refusal.{Refusal}
use Rattle.oas_num.specs.Script.{Script, Consumed, IsAtEnd}
use Rattle.oas_num.specs.Refusing.{is_of_file, IsRefusedBy}
use Rattle.oas_elements.specs.declared.limits.Limits.{Limits}
use Rattle.oas_elements.specs.declared.profile.Profile.{Profile}
use Rattle.oas_elements.specs.Meaning.{Meaning, SameLayout}
use Rattle.oas_elements.specs.Contents.{Contents, IsLayout, meaning_of}
use Rattle.oas_file.specs.Acceptance.{Accepted, Means}
use Rattle.oas_file.specs.Places.{RefusedAt}
use Rattle.oas_file.specs.Deciding.{IsReasoned}

-- All that the source gave is an accepted file, and this is its layout: the same as the file's meaning, its cells by
-- ascending names, one of each name, and the elements of each ascending in the form that the profile keeps. So there is only
-- one such layout, and what is said of its list of cells is said of the file.
pub record IsRead (limits : Limits) (profile : Profile) (old : Script) (l : Contents) (new : Script) : Type 0 where
  pub bytes : List ℕ
  pub takes : Consumed old bytes new
  pub ended : IsAtEnd new
  pub accepted : Accepted limits bytes
  pub meaning : Meaning
  pub means : Means bytes meaning
  pub same : SameLayout profile meaning (meaning_of l)
  pub layout : IsLayout l
  pub within : l.limits ≡ limits
  pub by : l.profile ≡ profile

-- No accepted file begins with what was taken, or the source has ended and what was taken is none, or a device or the memory
-- failed. Where the input was cut off, no accepted file goes on from what was taken.
abbrev pub IsRefused : Limits → Script → Why → Script → Type 0
IsRefused limits old why new = IsRefusedBy (Accepted limits) old why new

-- Where the source had given nothing before: the refusal's offset is a place at which each file is refused that continues
-- what was taken; where the source has ended, nothing continues it.
pub record IsPlaced (limits : Limits) (old : Script) (refusal : Refusal) (new : Script) : Type 0 where
  pub bytes : List ℕ
  pub takes : Consumed old bytes new
  pub placed : old.given ≡ 0 → IsTrue (is_of_file refusal.why) → (more : List ℕ) → (IsAtEnd new → more ≡ []) → RefusedAt limits (bytes ++ more) refusal.at

abbrev pub Refuses : Limits → Script → Refusal → Script → Type 0
Refuses limits old refusal new = IsRefused limits old refusal.why new × IsPlaced limits old refusal new × IsReasoned limits old refusal new

abbrev pub ReadsLayout : Limits → Profile → Script → Result Contents Refusal → Script → Type 0
ReadsLayout limits profile old (Ok l) new = IsRead limits profile old l new
ReadsLayout limits profile old (Err refusal) new = Refuses limits old refusal new
