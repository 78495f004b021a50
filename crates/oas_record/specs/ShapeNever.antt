-- No read of a point list or of a repetition fails with a fault of writing.
use Rattle.std.proofs.Common.{◌≡◌, ℕ, Bool, true, false, List, Option, inl, inr}
use Rattle.std.specs.Prelude.{◌==◌}
use Rattle.oas_num.specs.declared.refusals.Why.{Why}
use Rattle.oas_num.specs.declared.refusals.Why.TheVariants.{Write, Memory, ListKind, PointCount, RepetitionKind}
use Rattle.oas_num.specs.Grammar.{IsThere}
use Rattle.oas_num.specs.Integers.{IsUnsigned}
use Rattle.oas_num.specs.Deltas.{GDeltaTook}
use Rattle.oas_num.specs.Pieces.{IsAfter, PairTook, ThereTook, SuchTook, ListTook}
use Rattle.oas_num.specs.Reading.{IntegerMay}
use Rattle.oas_shape.specs.declared.list_use.ListUse.{ListUse}
use Rattle.oas_shape.specs.PointLists.{DeltasTook, PointListTook}
use Rattle.oas_shape.specs.Repetitions.{TwoTook, RepetitionTook, FieldTook, RepFieldTook}
use Rattle.oas_record.specs.Kinds.{Never, number, pair_never, there_never}
use Rattle.oas_record.specs.Trees.{either_never, such_never}

gdelta_never : Never GDeltaTook
gdelta_never = pair_never number.never (λ first. there_never _ IntegerMay number.never)

list_never : {V : Type 0} {A : V → List ℕ → Type 0} {n : ℕ} {took : Why → List ℕ → Type 0} → Never took → Never (ListTook A n took)
list_never f = record { none = λ bytes b. elim b.holds.1 [ inl h ↦ f.none b.last h | inr h ↦ let e : Write ≡ Memory = h.2 in cc ] }

deltas_never : (kind count : ℕ) → Never (DeltasTook kind count)
deltas_never kind count =
    either_never (kind == 0) _ _ (list_never number.never)
    (either_never (kind == 1) _ _ (list_never number.never)
    (either_never (kind == 2) _ _ (list_never number.never)
    (either_never (kind == 3) _ _ (list_never number.never)
    (list_never gdelta_never))))

pub point_list_never : (purpose : ListUse) → Never (PointListTook purpose)
point_list_never purpose =
    pair_never (such_never (λ v h. let e : Write ≡ ListKind = h.0 in cc) number.never) (λ kind.
    pair_never (such_never (λ v h. let e : Write ≡ PointCount = h.0 in cc) number.never) (λ count.
    deltas_never kind count))

two_never : Never TwoTook
two_never = pair_never number.never (λ _. number.never)

-- after others, for which that holds
next_never : {U V : Type 0} {A : U → List ℕ → Type 0} {B : V → List ℕ → Type 0} {P Q : U → Type 0} {took : Why → List ℕ → Type 0}
    {refuses : U → V → Why → Type 0} → Never took → ((before : U) (v : V) → refuses before v Write → ⊥)
    → Never (λ why bytes. IsAfter A (λ before last. P before × Q before × SuchTook B took (refuses before) why last) bytes)
next_never f other = record { none = λ bytes b. elim b.holds.2 [ inl h ↦ f.none b.last h | inr h ↦ other b.value h.0 h.2 ] }

listed_never : (grid_there : Bool) {offsets : ℕ → Option ℕ → Why → List ℕ → Type 0} → ((dim : ℕ) (grid : Option ℕ) → Never (offsets dim grid))
    → Never (PairTook IsUnsigned IntegerMay (λ dim. PairTook (IsThere grid_there IsUnsigned) (ThereTook grid_there IntegerMay) (offsets dim)))
listed_never grid_there f = pair_never number.never (λ dim. pair_never (there_never grid_there IntegerMay number.never) (f dim))

repetition_never : (kind : ℕ) → Never (RepetitionTook kind)
repetition_never kind =
    either_never (kind == 1) _ _ (pair_never two_never (λ _. two_never))
    (either_never (kind == 2) _ _ two_never
    (either_never (kind == 3) _ _ two_never
    (either_never (kind == 4) _ _ (listed_never false (λ _ _. next_never number.never (λ _ _ h. h)))
    (either_never (kind == 5) _ _ (listed_never true (λ _ _. next_never number.never (λ _ _ h. h)))
    (either_never (kind == 6) _ _ (listed_never false (λ _ _. next_never number.never (λ _ _ h. h)))
    (either_never (kind == 7) _ _ (listed_never true (λ _ _. next_never number.never (λ _ _ h. h)))
    (either_never (kind == 8) _ _ (pair_never two_never (λ _. pair_never gdelta_never (λ _. gdelta_never)))
    (either_never (kind == 9) _ _ (pair_never number.never (λ _. gdelta_never))
    (either_never (kind == 10) _ _ (listed_never false (λ _ _. next_never gdelta_never (λ _ _ h. h)))
    (listed_never true (λ _ _. next_never gdelta_never (λ _ _ h. h))))))))))))

field_never : (kind : ℕ) → Never (FieldTook kind)
field_never kind = either_never (kind == 0) _ _ (record { none = λ bytes h. h }) (repetition_never kind)

pub rep_field_never : Never RepFieldTook
rep_field_never = pair_never (such_never (λ v h. let e : Write ≡ RepetitionKind = h.0 in cc) number.never) field_never
