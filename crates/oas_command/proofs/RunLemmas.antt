-- A run with a result whose text has to be written.
use Rattle.oas_num.specs.Devices.{Calls}
use Rattle.std.specs.Prelude.{IfOk, IfErr}
use Rattle.std.proofs.Common.{◌≡◌, ℕ, Bool, List, Option, Result, Ok, Err, refl, ◌∙◌}
use Rattle.oas_num.specs.declared.refusals.Refusal.{Refusal}
use Rattle.oas_num.specs.Written.{IsWritten, IsCutOff}
use Rattle.oas_command.specs.Runs.{status_after, status_of, verdict_status, Delivers, Ends}

module _ {T : Type 0} (value : T) where
  -- its result, or why that was not written
  abbrev pub result_after : Result ℕ Refusal → Result T Refusal
  result_after (Ok count) = Ok value
  result_after (Err refusal) = Err refusal

  pub done : (written : Result ℕ Refusal) (r : ℕ) → r ≡ status_after 0 written → r ≡ status_of (result_after written)
  done (Ok count) r same = same
  done (Err refusal) r same = same

  pub delivers : {W : Type 0} (calls : W → Calls) (text : T → List ℕ) (written : Result ℕ Refusal) (before after : W) →
      IfOk written (IsWritten calls before (text value) after) → IfErr written (IsCutOff calls before (text value) after) →
      Delivers calls text before (Ok value) (result_after written) after
  delivers calls text (Ok count) before after whole cut = (refl, whole.took)
  delivers calls text (Err refusal) before after whole cut = cut

  pub tells : {K : Type 0} (given : K → List ℕ → K → Type 0) (failures : K → ℕ) (name : List ℕ) (old : K) (written : Result ℕ Refusal) (new : K) →
      Ends given failures name old written new → Ends given failures name old (result_after written) new
  tells given failures name old (Ok count) new ends = ends
  tells given failures name old (Err refusal) new ends = ends

-- its status, where the result is yes or no
pub judged : (verdict : Bool) (written : Result ℕ Refusal) (n r : ℕ) → n ≡ verdict_status (Ok verdict) → r ≡ status_after n written → r ≡ verdict_status (result_after verdict written)
judged verdict (Ok count) n r is same = same ∙ is
judged verdict (Err refusal) n r is same = same
