-- A run that wrote a difference, and then had to write its markers.
use Rattle.oas_num.specs.Devices.{Calls}
use Rattle.std.specs.Prelude.{IfOk, IfErr}
use Rattle.std.proofs.Common.{◌≡◌, ℕ, List, Option, Result, Ok, Err, refl, ap, ◌∙◌}
use Rattle.oas_num.specs.declared.refusals.Refusal.{Refusal}
use Rattle.oas_num.specs.Written.{IsWritten}
use Rattle.oas_elements.specs.Contents.{Contents}
use Rattle.oas_markers.specs.Options.{Options}
use Rattle.oas_markers.specs.Written.{IsMarked, IsMarkedUpTo}
use Rattle.oas_command.specs.Runs.{status_after}
use Rattle.oas_command.specs.Diff.{diff_text, length_status, diff_status}
use Rattle.oas_command.specs.Marking.{marks, Marks}
use Rattle.oas_command.proofs.DiffLemmas.{length_says}
use Rattle.oas_command.proofs.RunLemmas.{result_after}

module _ (found : Contents × Contents) where
  -- its status is that of the lines, where the markers were written
  pub marks_differ : (options : Options) {W : Type 0} (calls : W → Calls) (before after : W) (n : ℕ) (marked : Result ℕ Refusal) (status r : ℕ)
      → IsWritten calls before (diff_text options found) after n → status ≡ length_status n → r ≡ status_after status marked → r ≡ diff_status options (result_after found marked)
  marks_differ options calls before after n (Ok m) status r whole says ends = ends ∙ says ∙ ap length_status whole.count_is ∙ length_says (diff_text options found)
  marks_differ options calls before after n (Err refusal) status r whole says ends = ends

  -- what the markers' writer took
  pub marks_follow : (options : Options) (most : ℕ) {W : Type 0} (calls : W → Calls) (marked : Result ℕ Refusal) (before after : W)
      → IfOk marked (IsMarked calls before (marks options most found) after)
      → IfErr marked (IsMarkedUpTo calls before (marks options most found) after) → Marks options most calls before (Ok found) (result_after found marked) after
  marks_follow options most calls (Ok count) before after whole cut = (refl, whole.took)
  marks_follow options most calls (Err refusal) before after whole cut = cut
