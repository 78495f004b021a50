-- Where a value that is read as one piece goes wrong: conditions on all bytes that were read, part by part.
use Rattle.std.specs.Prelude.{◌≡◌, ℕ, ◌<◌, Bool, true, false, List, ◌++◌, length, ◌⊎◌}
use Rattle.oas_num.specs.declared.refusals.Why.{Why}
use Rattle.oas_num.specs.declared.refusals.Why.TheVariants.{Memory}
use Rattle.oas_num.specs.Grammar.{IsEach}

-- a value is spelled, and this holds for it and the bytes after it
pub record IsAfter {V : Type 0} (spells P : V → List ℕ → Type 0) (bytes : List ℕ) : Type 0 where
  pub value : V
  pub front : List ℕ
  pub last : List ℕ
  pub spelled : spells value front
  pub holds : P value last
  pub joined : bytes ≡ front ++ last

-- a pair: in the first part, or the first part is spelled and then in the second
abbrev pub PairTook : {V : Type 0} → (V → List ℕ → Type 0) → (Why → List ℕ → Type 0) → (V → Why → List ℕ → Type 0) → Why → List ℕ → Type 0
PairTook spells first second why bytes = first why bytes ⊎ IsAfter spells (λ v. second v why) bytes

-- an optional field: in the field
abbrev pub ThereTook : Bool → (Why → List ℕ → Type 0) → Why → List ℕ → Type 0
ThereTook true took why bytes = took why bytes
ThereTook false took why bytes = ⊥

-- this many items: fewer are spelled, and then in the next
abbrev pub CountTook : {V : Type 0} → (V → List ℕ → Type 0) → ℕ → (Why → List ℕ → Type 0) → Why → List ℕ → Type 0
CountTook spells count took why bytes = IsAfter (IsEach spells) (λ items last. (length items < count) × took why last) bytes

-- a value that must meet a condition: its read fails, or it was read whole and is refused for that reason
abbrev pub SuchTook : {V : Type 0} → (V → List ℕ → Type 0) → (Why → List ℕ → Type 0) → (V → Why → Type 0) → Why → List ℕ → Type 0
SuchTook {V} spells took refuses why bytes = took why bytes ⊎ ((v : V) × spells v bytes × refuses v why)

-- that one reason, for a value that doesn't meet the condition
abbrev pub Unless : {V : Type 0} → (V → Type 0) → Why → V → Why → Type 0
Unless P reason v why = (why ≡ reason) × ¬ P v

-- this many items that are kept: fewer are spelled, and then in the next, or it was read and there is no memory for it
abbrev pub ListTook : {V : Type 0} → (V → List ℕ → Type 0) → ℕ → (Why → List ℕ → Type 0) → Why → List ℕ → Type 0
ListTook spells count took = CountTook spells count (SuchTook spells took (λ _ why. why ≡ Memory))
