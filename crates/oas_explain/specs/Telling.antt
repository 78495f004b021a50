-- What is printed in addition to the line of a run, where it is to be explained.
use Rattle.std.specs.Prelude.{◌≡◌, ℕ, ◌-◌, ◌^◌, ◌<◌, nat_le, if◌then◌else◌, List, [], Option, Some, None, slice_get}
use Rattle.oas_num.specs.declared.refusals.Why.{Why}
use Rattle.oas_num.specs.Refusals.{number_of}
use Rattle.oas_command.specs.Lines.{refusal_line, not_profile_1_line}
use Rattle.oas_command.specs.Unopened.{unopened_line}
use Rattle.oas_num.specs.declared.sentences.Reason.{Reason}
use Rattle.oas_explain.specs.Texts.{explaining_lines}

-- the lines of a reason, where there is one
abbrev pub explanation : List ℕ → List ℕ → Option Reason → List ℕ
explanation words advice None = []
explanation words advice (Some reason) = explaining_lines words advice reason

-- the place of the reason with a number: 1 to 34, and after these 101 and those that follow it. No list is as long as 255.
abbrev pub place_of : ℕ → ℕ
place_of number = if nat_le number 34 then number - 1 else (if nat_le number 100 then 255 else number - 67)

-- the lines of the reason at the place of this number
abbrev pub explanation_for : List Reason → List ℕ → List ℕ → Option ℕ → List ℕ
explanation_for reasons words advice None = []
explanation_for reasons words advice (Some number) = explanation words advice (slice_get reasons (place_of number))

-- After the line of a refusal this text explains its reason, which is in the list of them at the place of its number. After
-- no line, and after those of other kinds, it is empty.
pub record IsExplanation (reasons : List Reason) (words advice line text : List ℕ) : Type 0 where
  pub refused : (name : List ℕ) → (why : Why) → (at : ℕ) → at < 2 ^ 64 → line ≡ refusal_line name (number_of why) at
      → text ≡ explanation words advice (slice_get reasons (place_of (number_of why)))
  pub unopened : (name : List ℕ) → line ≡ unopened_line name → text ≡ []
  pub not_profile_1 : (name : List ℕ) → line ≡ not_profile_1_line name → text ≡ []
  pub nothing : line ≡ [] → text ≡ []
