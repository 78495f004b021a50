-- What is done with one file and with two, by what is asked of them.
use Rattle.oas_num.specs.Devices.{Calls}
use Rattle.std.specs.Prelude.{◌≡◌, ℕ, Bool, List, Option, Result}
use Rattle.oas_num.specs.declared.refusals.Refusal.{Refusal}
use Rattle.oas_num.specs.Script.{Script}
use Rattle.oas_elements.specs.declared.limits.Limits.{Limits}
use Rattle.oas_elements.specs.Contents.{Contents, meaning_of}
use Rattle.oas_canon.specs.Listing.{listing}
use Rattle.oas_info.specs.declared.info.Info.{Info}
use Rattle.oas_canon.specs.Reading.{ReadsLayout}
use Rattle.oas_canon.specs.CellKeys.{cell_key_lines}
use Rattle.oas_canon.specs.declared.profile.TheConstants.{PROFILE}
use Rattle.oas_canon.specs.declared.rekeying.Rekeyed.{Rekeyed}
use Rattle.oas_canon.specs.declared.sameness.Which.{Which}
use Rattle.oas_command.specs.declared.work.Work.{Work}
use Rattle.oas_command.specs.declared.work.Work.TheVariants as work
use Rattle.oas_command.specs.declared.work.PairWork.{PairWork}
use Rattle.oas_command.specs.declared.work.PairWork.TheVariants as pair
use Rattle.oas_command.specs.Calls.{Canonicalizes, Judges, Keys, Compares, RekeysFile}
use Rattle.oas_command.specs.Diff.{ReadsBoth, diff_text, diff_status}
use Rattle.oas_command.specs.Info.{Informs, info_lines}
use Rattle.oas_command.specs.Lines.{check_line, named_check_line, key_line, named_key_line, same_line}
use Rattle.oas_command.specs.Rekeying.{rekey_status, EndsRekeying}
use Rattle.oas_command.specs.Runs.{status_of, verdict_status, Delivers, found_in, blamed, Ends}

module _ {W K : Type 0} (calls : W → Calls) (given : K → List ℕ → K → Type 0) (failures : K → ℕ) (limits : Limits) where
  -- what each does with one file of this name
  abbrev pub DoesWork : List ℕ → Script → W → K → Work → ℕ → Script → W → K → Type 0
  DoesWork name old before was work.Canon status new after is =
      (answer : Result ℕ Refusal) × (status ≡ status_of answer) × Canonicalizes calls limits old before answer new after × Ends given failures name was answer is
  DoesWork name old before was work.Check status new after is =
      (found : Result Bool Refusal) × (answer : Result Bool Refusal) × (status ≡ verdict_status answer) × Judges limits old found new
      × Delivers calls check_line before found answer after × Ends given failures name was answer is
  DoesWork name old before was (work.NamedCheck label) status new after is =
      (found : Result Bool Refusal) × (answer : Result Bool Refusal) × (status ≡ verdict_status answer) × Judges limits old found new
      × Delivers calls (named_check_line label) before found answer after × Ends given failures name was answer is
  DoesWork name old before was work.Key status new after is =
      (found : Result (List ℕ) Refusal) × (answer : Result (List ℕ) Refusal) × (status ≡ status_of answer) × Keys limits old found new
      × Delivers calls key_line before found answer after × Ends given failures name was answer is
  DoesWork name old before was (work.NamedKey label) status new after is =
      (found : Result (List ℕ) Refusal) × (answer : Result (List ℕ) Refusal) × (status ≡ status_of answer) × Keys limits old found new
      × Delivers calls (named_key_line label) before found answer after × Ends given failures name was answer is
  DoesWork name old before was work.Show status new after is =
      (found : Result Contents Refusal) × (answer : Result Contents Refusal) × (status ≡ status_of answer) × ReadsLayout limits PROFILE old found new
      × Delivers calls (λ l. listing (meaning_of l)) before found answer after × Ends given failures name was answer is
  DoesWork name old before was work.CellKeys status new after is =
      (found : Result Contents Refusal) × (answer : Result Contents Refusal) × (status ≡ status_of answer) × ReadsLayout limits PROFILE old found new
      × Delivers calls (λ l. cell_key_lines (meaning_of l)) before found answer after × Ends given failures name was answer is
  DoesWork name old before was (work.Info form) status new after is =
      (read : Result Contents Refusal) × (found : Result Info Refusal) × (answer : Result Info Refusal) × (status ≡ status_of answer) × ReadsLayout limits PROFILE old read new
      × Informs new read found × Delivers calls (info_lines form) before found answer after × Ends given failures name was answer is
  DoesWork name old before was work.Rekey status new after is =
      (answer : Result Rekeyed Refusal) × (status ≡ rekey_status answer) × RekeysFile calls limits old before answer new after × EndsRekeying given failures name was answer is

  -- what each does with two files of these names
  abbrev pub DoesPairWork : {T : Type 0} → (T → Script) → List ℕ → List ℕ → Script → T → W → K → PairWork → ℕ → Script → T → W → K → Type 0
  DoesPairWork script a b old source before was pair.Same status new then after is =
      (found : Result Bool (Which × Refusal)) × (answer : Result Bool Refusal) × (status ≡ verdict_status answer) × Compares script limits old new source then found
      × Delivers calls same_line before (found_in found) answer after × Ends given failures (blamed a b found) was answer is
  DoesPairWork script a b old source before was (pair.Diff options) status new then after is =
      (found : Result (Contents × Contents) (Which × Refusal)) × (answer : Result (Contents × Contents) Refusal) × (status ≡ diff_status options answer)
      × ReadsBoth script limits old new source then found × Delivers calls (diff_text options) before (found_in found) answer after
      × Ends given failures (blamed a b found) was answer is
