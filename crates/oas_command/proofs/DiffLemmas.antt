-- A run that wrote a difference.
use Rattle.oas_num.specs.Devices.{Calls}
use Rattle.std.specs.Prelude.{IfOk}
use Rattle.std.proofs.Common.{◌≡◌, ℕ, List, [], ◌∷◌, length, Option, Result, Ok, Err, refl, ap, ◌∙◌}
use Rattle.oas_num.specs.declared.refusals.Refusal.{Refusal}
use Rattle.oas_num.specs.Written.{IsWritten}
use Rattle.oas_elements.specs.Contents.{Contents}
use Rattle.oas_markers.specs.Options.{Options}
use Rattle.oas_command.specs.Runs.{status_after}
use Rattle.oas_command.specs.Diff.{diff_text, text_status, length_status, diff_status}
use Rattle.oas_command.proofs.RunLemmas.{result_after}

pub length_says : (text : List ℕ) → length_status (length text) ≡ text_status text
length_says [] = refl
length_says (b ∷ bs) = refl

-- its status
pub differs : (options : Options) {W : Type 0} (calls : W → Calls) (before after : W) (found : Contents × Contents) (written : Result ℕ Refusal)
    (status r : ℕ) → IfOk written (IsWritten calls before (diff_text options found) after) → IfOk written (λ n. status ≡ length_status n) → r
    ≡ status_after status written → r ≡ diff_status options (result_after found written)
differs options calls before after found (Ok n) status r whole says ends = ends ∙ says ∙ ap length_status whole.count_is ∙ length_says (diff_text options found)
differs options calls before after found (Err refusal) status r whole says ends = ends
