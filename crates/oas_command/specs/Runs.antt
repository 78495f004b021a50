-- How a run ends: its status, what it writes, and what it puts on its error output.
use Rattle.std.specs.Prelude.{◌≡◌, ℕ, Bool, true, false, List, ◌++◌, Option, Result, Ok, Err, ◌⊎◌}
use Rattle.oas_num.specs.Devices.{Calls, TakesAll, FailsAfter}
use Rattle.oas_num.specs.declared.refusals.Refusal.{Refusal}
use Rattle.oas_num.specs.Refusals.{number_of}
use Rattle.oas_num.specs.Writing.{Puts, PutsPrefix}
use Rattle.oas_num.specs.Written.{IsCutOff}
use Rattle.oas_canon.specs.declared.sameness.Which.{Which}
use Rattle.oas_canon.specs.declared.sameness.Which.TheVariants.{First, Second}
use Rattle.oas_command.specs.Lines.{refusal_line}

-- ---- its status

-- this one after a result, 1 after a refusal
abbrev pub status_after : {T : Type 0} → ℕ → Result T Refusal → ℕ
status_after status (Ok value) = status
status_after status (Err refusal) = 1

-- 0 after a result, 1 after a refusal
abbrev pub status_of : {T : Type 0} → Result T Refusal → ℕ
status_of answer = status_after 0 answer

-- 0 after yes, 3 after no, 1 after a refusal
abbrev pub verdict_status : Result Bool Refusal → ℕ
verdict_status (Ok true) = 0
verdict_status (Ok false) = 3
verdict_status (Err refusal) = 1

-- ---- its output

-- The text of the result was written, or the writer failed and took a prefix of it, as long as the place of the refusal says.
-- Without a result nothing was written.
abbrev pub Delivers : {T W : Type 0} → (W → Calls) → (T → List ℕ) → W → Result T Refusal → Result T Refusal → W → Type 0
Delivers calls text before (Ok value) (Ok answer) after = (answer ≡ value) × TakesAll (calls before) (text value) (calls after)
Delivers calls text before (Ok value) (Err refusal) after = IsCutOff calls before (text value) after refusal
Delivers calls text before (Err refusal) answer after = (answer ≡ Err refusal) × (after ≡ before)

-- ---- its error output

-- the line was put, or a prefix of it, and the sink has failed
abbrev pub Tells : {K : Type 0} → (K → List ℕ → K → Type 0) → (K → ℕ) → K → List ℕ → K → Type 0
Tells given failures old line new = Puts given failures old line new ⊎ PutsPrefix given failures old line new

-- after a result the sink is unchanged, and after a refusal its line was put
abbrev pub Ends : {K T : Type 0} → (K → List ℕ → K → Type 0) → (K → ℕ) → List ℕ → K → Result T Refusal → K → Type 0
Ends given failures name old (Ok value) new = new ≡ old
Ends given failures name old (Err refusal) new = Tells given failures old (refusal_line name (number_of refusal.why) refusal.at) new

-- it took a prefix of these bytes, and then a call failed
pub record BreaksOff (old : Calls) (bytes : List ℕ) (new : Calls) : Type 0 where
  pub front : List ℕ
  pub back : List ℕ
  pub joined : bytes ≡ front ++ back
  pub took : FailsAfter old front new

-- it took all of these bytes, or a prefix of them, and then a call failed
abbrev pub Says : Calls → List ℕ → Calls → Type 0
Says old bytes new = TakesAll old bytes new ⊎ BreaksOff old bytes new

-- ---- for two files

-- the result, or the refusal of the file that is refused
abbrev pub found_in : {T : Type 0} → Result T (Which × Refusal) → Result T Refusal
found_in (Ok value) = Ok value
found_in (Err e) = Err e.1

-- one of two names
abbrev pub name_of : Which → List ℕ → List ℕ → List ℕ
name_of First a b = a
name_of Second a b = b

-- the name of the file that is refused, or the first one where none is
abbrev pub blamed : {T : Type 0} → List ℕ → List ℕ → Result T (Which × Refusal) → List ℕ
blamed a b (Ok value) = a
blamed a b (Err e) = name_of e.0 a b
