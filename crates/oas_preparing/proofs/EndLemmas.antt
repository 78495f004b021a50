-- END by its bytes: its id is 2, so there are 256 of them.
use Rattle.std.proofs.Common.{◌≡◌, ℕ, Bool, true, false, List, length, refl}
use Rattle.std.specs.Prelude.{◌==◌}
use Rattle.std.proofs.lemmas.Bool.{eqb-true}
use Rattle.oas_num.specs.Combinators.{IsEither, IsNever}
use Rattle.oas_num.specs.Grammar.{IsImage}
use Rattle.oas_prepare.specs.WideEnd.{WideEnd}
use Rattle.oas_prepare.specs.WideRecord.{WideRecord}
use Rattle.oas_prepare.specs.WideRecord.TheVariants.{End}
use Rattle.oas_prepare.specs.WideRecords.{is_profile_id, foreign, fields_in}
use Rattle.oas_prepare.specs.WideFiles.{end_in}

-- no END is spelled so
record NoEnd (spells : WideRecord → List ℕ → Type 0) : Type 0 where
  none : (end : WideEnd) (bytes : List ℕ) → spells (End end) bytes → ⊥

none_there : NoEnd IsNever
none_there = record { none = λ end bytes p. p }

-- of two choices
none_of_both : (test : Bool) {A B : WideRecord → List ℕ → Type 0} → NoEnd A → NoEnd B → NoEnd (IsEither test A B)
none_of_both true p q = record { none = p.none }
none_of_both false p q = record { none = q.none }

none_of_second : (test : Bool) (A : WideRecord → List ℕ → Type 0) {B : WideRecord → List ℕ → Type 0} → test ≡ false → NoEnd B → NoEnd (IsEither test A B)
none_of_second true A e q = absurd cc
none_of_second false A e q = record { none = q.none }

-- of records of another kind
none_of_kind : {U : Type 0} (f : U → WideRecord) {A : U → List ℕ → Type 0} → ((u : U) (end : WideEnd) → f u ≡ End end → ⊥) → NoEnd (IsImage f A)
none_of_kind f other = record { none = λ end bytes p. other p.from end p.is }

none_foreign : (in_end : Bool) (id : ℕ) → (id == 2) ≡ false → NoEnd (foreign in_end id).any
none_foreign in_end id not =
    none_of_second (id == 2) _ not
    (none_of_both (id == 7) (none_of_kind _ (λ u end e. cc))
    (none_of_both (id == 8) (none_of_kind _ (λ u end e. cc))
    (none_of_both (id == 9) (none_of_kind _ (λ u end e. cc))
    (none_of_both (id == 10) (none_of_kind _ (λ u end e. cc))
    (none_of_both (id == 11) (none_of_kind _ (λ u end e. cc))
    (none_of_both (id == 12) (none_of_kind _ (λ u end e. cc))
    (none_of_both (id == 18) (none_of_kind _ (λ u end e. cc))
    (none_of_both (id == 23) (none_of_kind _ (λ u end e. cc))
    (none_of_both (id == 24) (none_of_kind _ (λ u end e. cc))
    (none_of_both (id == 25) (none_of_kind _ (λ u end e. cc))
    (none_of_both (id == 26) (none_of_kind _ (λ u end e. cc))
    (none_of_both (id == 28) (none_of_kind _ (λ u end e. cc))
    (none_of_both (id == 29) (none_of_kind _ (λ u end e. cc))
    (none_of_both (id == 30) (none_of_kind _ (λ u end e. cc))
    (none_of_both (id == 31) (none_of_kind _ (λ u end e. cc))
    (none_of_both (id == 32) (none_of_kind _ (λ u end e. cc))
    (none_of_both (id == 33) (none_of_kind _ (λ u end e. cc))
    (none_of_both (id == 34) (none_of_kind _ (λ u end e. cc))
    none_there))))))))))))))))))

end_id : (in_end : Bool) (id : ℕ) (end : WideEnd) (bytes : List ℕ) → fields_in in_end id (End end) bytes → id ≡ 2
end_id in_end id end bytes p = by_test (id == 2) refl where
  by_test : (test : Bool) → (id == 2) ≡ test → id ≡ 2
  by_test true is = eqb-true id 2 is
  by_test false not = absurd (none_fields.none end bytes p) where
    none_fields : NoEnd (fields_in in_end id)
    none_fields = none_of_both (is_profile_id id) (none_of_kind _ (λ u end e. cc)) (none_foreign in_end id not)

pub end_length : (in_end : Bool) (end : WideEnd) (bytes : List ℕ) → end_in in_end end bytes → length bytes ≡ 256
end_length in_end end bytes p = p.whole (end_id in_end p.id end p.parts.back p.parts.second)
