-- Whether two files are prepared to the same layout: what is found, and how the run ends.
use Rattle.std.specs.Prelude.{◌≡◌, ◌↔◌, ℕ, Bool, List, ◌++◌, Result, Ok, Err, IfOk, IfErr, IsTrue}
use Rattle.oas_num.specs.Script.{Script}
use Rattle.oas_elements.specs.declared.limits.Limits.{Limits}
use Rattle.oas_elements.specs.Contents.{Contents}
use Rattle.oas_elements.specs.Meaning.{SameLayout}
use Rattle.oas_explain.specs.Lines.{same_line}
use Rattle.oas_explain.specs.Runs.{name_of, verdict_status, Tells}
use Rattle.oas_explain.specs.ProfileConstants.{PROFILE}
use Rattle.oas_explain.specs.Which.{Which}
use Rattle.oas_explain.specs.Which.TheVariants.{First, Second}
use Rattle.oas_prepare.specs.NarrowDropping.{Dropping}
use Rattle.oas_prepare.specs.Report.{Report}
use Rattle.oas_prepare.specs.Rejection.{Rejection}
use Rattle.oas_prepare.specs.Finishing.{ReadsPrepared}
use Rattle.oas_prepare.specs.Run.{IsTaken, Stops, Exactly}
use Rattle.oas_preparing.specs.declared.sameness.Comparison.{Comparison}
use Rattle.oas_preparing.specs.Lines.{report_line, rejection_line}

-- ---- what is found

-- Both were read, the second after the first; or the first stops, and nothing of the second is read; or the first was read,
-- and the second stops.
abbrev pub ReadsBoth : {T : Type 0} → (T → Script) → Limits → Dropping → Script → Script → T → T → Result ((Contents × Report) × (Contents × Report)) (Which × Rejection) → Type 0
ReadsBoth script limits dropping old new before after (Ok read) =
    ReadsPrepared limits PROFILE dropping old (Ok read.0) new × ReadsPrepared limits PROFILE dropping (script before) (Ok read.1) (script after)
ReadsBoth script limits dropping old new before after (Err (First, rejection)) = ReadsPrepared limits PROFILE dropping old (Err rejection) new × (after ≡ before)
ReadsBoth script limits dropping old new before after (Err (Second, rejection)) =
    ((first : Contents × Report) × ReadsPrepared limits PROFILE dropping old (Ok first) new) × ReadsPrepared limits PROFILE dropping (script before) (Err rejection) (script after)

-- Two files were taken that are prepared, and the result is whether they mean the same layout, which is whether they are
-- prepared to the same canonical file.
pub record IsCompared (limits : Limits) (dropping : Dropping) (old new mid last : Script) (found : Comparison) : Type 0 where
  pub first : List ℕ
  pub second : List ℕ
  pub taken_first : IsTaken limits PROFILE dropping old new first found.first
  pub taken_second : IsTaken limits PROFILE dropping mid last second found.second
  pub answer : IsTrue found.same ↔ SameLayout PROFILE taken_first.is.source taken_second.is.source
  pub equal : IsTrue found.same ↔ (first ≡ second)

-- a result says that both files are prepared, and a rejection that the one that it names isn't
abbrev pub ExactlyBoth : Limits → Dropping → Script → Script → Script → Script → Result Comparison (Which × Rejection) → Type 0
ExactlyBoth limits dropping old new mid last (Ok found) = Exactly limits dropping old (Ok found.first) new × Exactly limits dropping mid (Ok found.second) last
ExactlyBoth limits dropping old new mid last (Err (First, rejection)) = Exactly limits dropping old (Err rejection) new
ExactlyBoth limits dropping old new mid last (Err (Second, rejection)) = Exactly limits dropping mid (Err rejection) last

-- `prepared_same`: both were read, the second after the first, and the result is whether they mean the same layout, and what
-- is left out of each; or the first stops as `prepare` does, and nothing of the second is read; or the first was read, and the
-- second stops. They stop exactly where they aren't prepared.
pub record ComparesPrepared {T : Type 0} (script : T → Script) (limits : Limits) (dropping : Dropping) (old new : Script) (before after : T) (found : Result Comparison (Which × Rejection)) : Type 0 where
  pub compared : IfOk found (λ is. IsCompared limits dropping old new (script before) (script after) is)
  pub first : IfErr found (λ e. e.0 ≡ First → Stops limits dropping old e.1 new × (after ≡ before))
  pub second : IfErr found (λ e. e.0 ≡ Second → ((read : Contents × Report) × ReadsPrepared limits PROFILE dropping old (Ok read) new) × Stops limits dropping (script before) e.1 (script after))
  pub exactly : ExactlyBoth limits dropping old new (script before) (script after) found

-- ---- how the run ends

-- what `same` prints
abbrev pub sameness_text : Comparison → List ℕ
sameness_text found = same_line found.same

-- the result, or the rejection of the file that stops
abbrev pub found_in : Result Comparison (Which × Rejection) → Result Comparison Rejection
found_in (Ok found) = Ok found
found_in (Err e) = Err e.1

-- the name of the file that stops, or the first one where none does
abbrev pub blamed : List ℕ → List ℕ → Result Comparison (Which × Rejection) → List ℕ
blamed a b (Ok found) = a
blamed a b (Err e) = name_of e.0 a b

-- 0 for the same layout, 3 for another, 1 after a rejection
abbrev pub comparison_status : Result Comparison Rejection → ℕ
comparison_status (Ok found) = verdict_status (Ok found.same)
comparison_status (Err rejection) = 1

-- what was left out of each file is told in a line under its name, or the rejection under the name of its file
abbrev pub EndsBoth : {K : Type 0} → (K → List ℕ → K → Type 0) → (K → ℕ) → List ℕ → List ℕ → List ℕ → K → Result Comparison Rejection → K → Type 0
EndsBoth given failures a b blamed old (Ok found) new = Tells given failures old (report_line a found.first ++ report_line b found.second) new
EndsBoth given failures a b blamed old (Err rejection) new = Tells given failures old (rejection_line blamed rejection) new
