-- The texts in which reasons are explained.
use Rattle.std.specs.Prelude.{◌≡◌, ℕ, List, [], ◌∷◌, ◌++◌, flat_map, codes, decimal, All, Option, Some, None, ◌⊎◌}
use Rattle.std.specs.Borrow.{Bor}
use Rattle.oas_num.specs.Devices.{Calls, TakesAll}
use Rattle.oas_command.specs.Runs.{BreaksOff}
use Rattle.oas_num.specs.declared.sentences.Reason.{Reason}

-- N NAME, and below it its meaning and its remedy
abbrev pub reason_text : Reason → List ℕ
reason_text reason =
    decimal reason.number ++ (codes " " ++ (reason.name.now ++ (codes "\n  " ++ (reason.meaning.now ++ (codes "\n  " ++ (reason.remedy.now ++ codes "\n"))))))

-- those of several reasons, in order
abbrev pub reasons_text : List Reason → List ℕ
reasons_text reasons = flat_map reason_text reasons

-- a line with a reason's name and its meaning, followed by these words; one with its remedy; and this advice below it
abbrev pub explaining_lines : List ℕ → List ℕ → Reason → List ℕ
explaining_lines words advice reason =
    codes "  = " ++ (reason.name.now ++ (codes ": " ++ (reason.meaning.now ++ (words ++ (codes "\n  = " ++ (reason.remedy.now ++ (advice ++ codes "\n")))))))

-- the word is the reason's number, or its name
abbrev pub Names : List ℕ → Reason → Type 0
Names word reason = (word ≡ decimal reason.number) ⊎ (word ≡ reason.name.now)

-- it is one of the reasons, and the word is its number or its name
pub record IsCalled (reasons : List Reason) (word : List ℕ) (reason : Reason) : Type 0 where
  pub before : List Reason
  pub behind : List Reason
  pub one_of : reasons ≡ before ++ reason ∷ behind
  pub called : Names word reason

-- no reason has this number or this name
abbrev pub IsOfNone : List Reason → List ℕ → Type 0
IsOfNone reasons word = All (λ reason. Names word reason → ⊥) reasons

-- status 0, and the reasons' texts were written; or status 1, and a prefix of them was before a call failed
abbrev pub AreExplained : {W : Type 0} → (W → Calls) → List Reason → W → ℕ → W → Type 0
AreExplained calls reasons old status new =
    ((status ≡ 0) × TakesAll (calls old) (reasons_text reasons) (calls new)) ⊎ ((status ≡ 1) × BreaksOff (calls old) (reasons_text reasons) (calls new))

-- all reasons without a word, the one with its number or name with one; or status 2, where there is none, and nothing was
-- written
abbrev pub Explains : {W : Type 0} → (W → Calls) → List Reason → Option (Bor (List ℕ)) → W → ℕ → W → Type 0
Explains calls reasons None old status new = AreExplained calls reasons old status new
Explains calls reasons (Some word) old status new =
    ((reason : Reason) × IsCalled reasons word.now reason × AreExplained calls (reason ∷ []) old status new)
    ⊎ (IsOfNone reasons word.now × (status ≡ 2) × (new ≡ old))
