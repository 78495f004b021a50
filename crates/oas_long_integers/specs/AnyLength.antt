-- A spelling with integers of any number of bytes (SEMI P39, Unsigned integers): its shortened form is one as before.
use Rattle.std.proofs.Common.{◌≡◌, ℕ, Bool, true, false, List, ◌⊎◌, inl, inr, sym, ap, subst, ◌∙◌}
use Rattle.std.specs.Prelude.{if◌then◌else◌}
use Rattle.std.proofs.Math.Dec.{ltb}
use Rattle.oas_num.specs.declared.refusals.Why.{Why}
use Rattle.oas_num.specs.declared.refusals.Why.TheVariants.{Write, Memory}
use Rattle.oas_num.specs.Combinators.{IsNever}
use Rattle.oas_num.specs.Grammar.{PrefixFree}
use Rattle.oas_num.specs.Laws.CombinatorLaws.{OneSpelling-never}
use Rattle.oas_record.specs.Found.{IsFound, Stands, NoneIsSpelled}
use Rattle.oas_record.specs.Kinds.{Never}
use Rattle.oas_record.specs.Trees.{Choice}
use Rattle.oas_long_integers.specs.declared.places.Place.{Place}
use Rattle.oas_long_integers.specs.declared.places.Place.TheVariants.{Free, Groups}
use Rattle.oas_long_integers.specs.Places.{shortened, after, IsSettled}
use Rattle.oas_long_integers.specs.Laws.PlaceLaws.{shortened-append, same_taken, taken_of}

-- the shortened bytes are a spelling, and nothing is held back after them
pub record IsAnyLength {V : Type 0} (first : Place) (spells : V → List ℕ → Type 0) (v : V) (bytes : List ℕ) : Type 0 where
  pub settled : IsSettled (after first bytes)
  pub spelled : spells v (shortened first bytes)

-- where a read may fail: as in the shortened bytes, or it was read whole and there is no memory for it
abbrev pub AnyLengthTook : {V : Type 0} → Place → (V → List ℕ → Type 0) → (Why → List ℕ → Type 0) → Why → List ℕ → Type 0
AnyLengthTook {V} first spells took why bytes = took why (shortened first bytes) ⊎ ((why ≡ Memory) × ((v : V) × spells v (shortened first bytes)))

-- ---- its laws

module _ {V : Type 0} (first : Place) (spells : V → List ℕ → Type 0) where
  pub PrefixFree-any_length : PrefixFree spells → PrefixFree (IsAnyLength first spells)
  PrefixFree-any_length law = record {
    one = λ v w a b x y p q e.
        let both = law.one v w (shortened first a) (shortened first b) (shortened (after first a) x) (shortened (after first b) y) p.spelled q.spelled
        (sym (shortened-append first a x) ∙ ap (shortened first) e ∙ shortened-append first b y) in
        (same_taken first a b x y p.settled q.settled e both.0, both.1);
  }

  found_any_length : (left : List ℕ) → IsSettled first → Stands spells (shortened first left) ⊎ NoneIsSpelled spells (shortened first left) → Stands (IsAnyLength first spells) left ⊎ NoneIsSpelled (IsAnyLength first spells) left
  found_any_length left settled (inl s) =
      let t = taken_of first left s.front s.rest settled s.joined in
      inl (record { value = s.value; front = t.0; rest = t.1; spelled = record { settled = t.2; spelled = subst (λ (c : List ℕ). spells s.value c) (sym t.3) s.spelled }; joined = t.4 })
  found_any_length left settled (inr lacks) = inr (record {
    none = λ v front rest p e. lacks.none v (shortened first front) (shortened (after first front) rest) p.spelled (ap (shortened first) e ∙ shortened-append first front rest);
  })

  pub IsFound-any_length : IsSettled first → IsFound spells → IsFound (IsAnyLength first spells)
  IsFound-any_length settled law = record { one = PrefixFree-any_length law.one; find = λ left. found_any_length left settled (law.find (shortened first left)) }

pub never_any_length : {V : Type 0} (first : Place) (spells : V → List ℕ → Type 0) (took : Why → List ℕ → Type 0) → Never took → Never (AnyLengthTook first spells took)
never_any_length first spells took law = record { none = λ bytes h. elim h [ inl h ↦ law.none (shortened first bytes) h | inr h ↦ (let e : Write ≡ Memory = h.0 in absurd cc) ] }

-- a choice with integers of any number of bytes: no canonical file has them
abbrev pub any_length : {V : Type 0} (first : Place) → IsSettled first → Choice V → Choice V
any_length first settled A = record {
  any = IsAnyLength first A.any;
  shortest = IsNever;
  took = AnyLengthTook first A.any A.took;
  found = IsFound-any_length first A.any settled A.found;
  one = OneSpelling-never;
  within = record { within = λ v bytes p. absurd p };
  never = never_any_length first A.any A.took A.never;
}

-- the place of the first byte after an id: an info byte is given unchanged
abbrev pub first_of : ℕ → Place
first_of id = if ltb id 17 then Groups 0 else Free

settled_by : (b : Bool) → IsSettled (if b then Groups 0 else Free)
settled_by true = tt
settled_by false = tt

pub settled_first : (id : ℕ) → IsSettled (first_of id)
settled_first id = settled_by (ltb id 17)
