-- What explains the number that was recognized in a line explains the line.
use Rattle.std.proofs.Common.{◌≡◌, ℕ, ◌<◌, ◌^◌, List, [], Option, Some, None, ap}
use Rattle.oas_num.specs.declared.refusals.Why.{Why}
use Rattle.oas_num.specs.Refusals.{number_of}
use Rattle.oas_command.specs.Lines.{refusal_line, not_profile_1_line}
use Rattle.oas_command.specs.Unopened.{unopened_line}
use Rattle.oas_num.specs.declared.sentences.Reason.{Reason}
use Rattle.oas_explain.specs.Telling.{explanation_for, IsExplanation}

pub explains : (reasons : List Reason) (words advice line : List ℕ) (r : Option ℕ)
    → ((name : List ℕ) → (why : Why) → (at : ℕ) → at < 2 ^ 64 → line ≡ refusal_line name (number_of why) at → r ≡ Some (number_of why))
    → ((name : List ℕ) → line ≡ unopened_line name → r ≡ None)
    → ((name : List ℕ) → line ≡ not_profile_1_line name → r ≡ None)
    → (line ≡ [] → r ≡ None)
    → IsExplanation reasons words advice line (explanation_for reasons words advice r)
explains reasons words advice line r refused unopened not_profile_1 nothing = record {
  refused = λ name why at below same. ap (explanation_for reasons words advice) (refused name why at below same);
  unopened = λ name same. ap (explanation_for reasons words advice) (unopened name same);
  not_profile_1 = λ name same. ap (explanation_for reasons words advice) (not_profile_1 name same);
  nothing = λ same. ap (explanation_for reasons words advice) (nothing same);
}
