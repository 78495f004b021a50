-- How a run that re-keys ends: its status, and what it puts on its error output.
use Rattle.std.specs.Prelude.{◌≡◌, ℕ, List, Result, Ok, Err}
use Rattle.oas_num.specs.declared.refusals.Refusal.{Refusal}
use Rattle.oas_num.specs.Refusals.{number_of}
use Rattle.oas_canon.specs.declared.rekeying.Rekeyed.{Rekeyed}
use Rattle.oas_canon.specs.declared.rekeying.Rekeyed.TheVariants.{Done, NotProfile1}
use Rattle.oas_command.specs.Lines.{refusal_line, not_profile_1_line}
use Rattle.oas_command.specs.Runs.{Tells}

-- 0 where it was re-keyed, 3 where it isn't canonical by profile one, 1 after a refusal
abbrev pub rekey_status : Result Rekeyed Refusal → ℕ
rekey_status (Ok (Done n)) = 0
rekey_status (Ok NotProfile1) = 3
rekey_status (Err refusal) = 1

-- where it was re-keyed the sink is unchanged, or else the line that says why not was put
abbrev pub EndsRekeying : {K : Type 0} → (K → List ℕ → K → Type 0) → (K → ℕ) → List ℕ → K → Result Rekeyed Refusal → K → Type 0
EndsRekeying given failures name old (Ok (Done n)) new = new ≡ old
EndsRekeying given failures name old (Ok NotProfile1) new = Tells given failures old (not_profile_1_line name) new
EndsRekeying given failures name old (Err refusal) new = Tells given failures old (refusal_line name (number_of refusal.why) refusal.at) new
