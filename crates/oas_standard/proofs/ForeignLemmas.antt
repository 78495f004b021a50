-- Reading what follows an id that the profile leaves out, and END's.
use Rattle.std.proofs.Common.{◌≡◌, ◌≢◌, ℕ, ◌+◌, ◌<◌, ◌≤◌, Bool, false, not, List, [], Option, inl, inr, refl, sym, subst, arith, ◌⊎◌}
use Rattle.std.specs.Prelude.{◌==◌, Result}
use Rattle.std.proofs.lemmas.Bool.{cases_lt}
use Rattle.std.proofs.lemmas.Bool.Decides.{nat_tests}
use Rattle.oas_num.specs.declared.refusals.Why.{Why}
use Rattle.oas_num.specs.declared.padding.Padding.{Padding}
use Rattle.oas_num.specs.Script.{Script}
use Rattle.oas_num.specs.Grammar.{IsImage}
use Rattle.oas_num.specs.Combinators.{IsEither}
use Rattle.oas_num.specs.Reading.{ReadsValue, FailsPiece, ReadsPiece}
use Rattle.oas_num.proofs.ReadLemmas.{Consumed-none}
use Rattle.oas_num.proofs.MidwayLemmas.{image_fails}
use Rattle.oas_long_integers.specs.AnyLength.{IsAnyLength, AnyLengthTook, first_of}
use Rattle.oas_record.specs.Records.{after}
use Rattle.oas_record.specs.Refusals.{is_known}
use Rattle.oas_standard.specs.declared.records.WideRecord.{WideRecord}
use Rattle.oas_standard.specs.declared.trapezoids.Trapezoid.{Trapezoid}
use Rattle.oas_standard.specs.LayerNames.{SpellsLayerName, LayerNameTook}
use Rattle.oas_standard.specs.Strings.{SpellsString, StringTook, SpellsAttributed, AttributedTook}
use Rattle.oas_standard.specs.Trapezoids.{SpellsTrapezoid, TrapezoidTook}
use Rattle.oas_standard.specs.WideRecords.{property_name, property_string, layers_named, textlayers_named, a_trapezoid, last_property, extension_name, extension_element, profile, foreign, fields, is_profile_id, IsForeignId}

-- ---- which id it is

pub two_ids : (id n : ℕ) → n ≤ id → id ≤ n + 1 → (id ≡ n) ⊎ (id ≡ n + 1)
two_ids id n low high = elim (cases_lt n id) [ inl more ↦ inr (omega (arith, more, high)) | inr same ↦ inl (omega (arith, same, low)) ]

pub three_ids : (id n : ℕ) → n ≤ id → id ≤ n + 2 → (id ≡ n) ⊎ ((id ≡ n + 1) ⊎ (id ≡ n + 2))
three_ids id n low high = elim (cases_lt n id) [ inl more ↦ inr (elim (cases_lt (n + 1) id) [ inl m ↦ inr (omega (arith, m, high)) | inr s ↦ inl (omega (arith, more, s)) ]) | inr same ↦ inl (omega (arith, same, low)) ]

-- those of the profile that lie between the others
pub above_names : (id : ℕ) → IsForeignId id → id ≤ 12 → 7 ≤ id
unfolding is_known
above_names id h low = grind (arith, nat_tests, h.1.1)

pub above_paths : (id : ℕ) → IsForeignId id → 12 < id → id ≢ 18 → 23 ≤ id
unfolding is_known
above_paths id h high turned = grind (arith, nat_tests, h.1.1)

pub no_circle : (id : ℕ) → IsForeignId id → id ≢ 27
unfolding is_known
no_circle id h is = grind (arith, nat_tests, h.1.1)

-- ---- what is read

abbrev pub ForeignFails : Bool → ℕ → Script → Why → Script → Type 0
ForeignFails in_end id old why new = FailsPiece (foreign in_end id).any (foreign in_end id).took old why new

abbrev pub ForeignRead : Bool → ℕ → Script → WideRecord → Script → Type 0
ForeignRead in_end id old v new = ReadsValue (foreign in_end id).any old v new

pub kind_read : {U : Type 0} {A : U → List ℕ → Type 0} {old new : Script} {v : U} (of : U → WideRecord) → ReadsValue A old v new → ReadsValue (IsImage of A) old (of v) new
kind_read {v = v} of read = record { bytes = read.bytes; spelled = record { from = v; is = refl; spelled = read.spelled }; takes = read.takes }

pub last_read : (in_end : Bool) (id : ℕ) (s : Script) → id ≡ 29 → ForeignRead in_end id s (last_property tt) s
last_read in_end id s is = subst (λ k. ForeignRead in_end k s (last_property tt) s) (sym is) (record { bytes = []; spelled = record { from = tt; is = refl; spelled = refl }; takes = Consumed-none s })

module _ {old new : Script} {why : Why} (in_end : Bool) (id : ℕ) where
  pub name_fails : (id ≡ 7) ⊎ (id ≡ 8) → FailsPiece (SpellsString (id == 8)) (StringTook (id == 8)) old why new → ForeignFails in_end id old why new
  name_fails (inl e) f = subst (λ k. FailsPiece (SpellsString (k == 8)) (StringTook (k == 8)) old why new → ForeignFails in_end k old why new) (sym e) (λ g. image_fails property_name g) f
  name_fails (inr e) f = subst (λ k. FailsPiece (SpellsString (k == 8)) (StringTook (k == 8)) old why new → ForeignFails in_end k old why new) (sym e) (λ g. image_fails property_name g) f

  pub string_fails : (id ≡ 9) ⊎ (id ≡ 10) → FailsPiece (SpellsString (id == 10)) (StringTook (id == 10)) old why new → ForeignFails in_end id old why new
  string_fails (inl e) f = subst (λ k. FailsPiece (SpellsString (k == 10)) (StringTook (k == 10)) old why new → ForeignFails in_end k old why new) (sym e) (λ g. image_fails property_string g) f
  string_fails (inr e) f = subst (λ k. FailsPiece (SpellsString (k == 10)) (StringTook (k == 10)) old why new → ForeignFails in_end k old why new) (sym e) (λ g. image_fails property_string g) f

  pub layers_fail : (id ≡ 11) ⊎ (id ≡ 12) → FailsPiece SpellsLayerName LayerNameTook old why new → ForeignFails in_end id old why new
  layers_fail (inl e) f = subst (λ k. ForeignFails in_end k old why new) (sym e) (image_fails layers_named f)
  layers_fail (inr e) f = subst (λ k. ForeignFails in_end k old why new) (sym e) (image_fails textlayers_named f)

  pub trapezoid_fails : (id ≡ 23) ⊎ ((id ≡ 24) ⊎ (id ≡ 25)) → FailsPiece (SpellsTrapezoid (not (id == 25)) (not (id == 24))) (TrapezoidTook (not (id == 25)) (not (id == 24))) old why new
      → ForeignFails in_end id old why new
  trapezoid_fails (inl e) f = subst (λ k. FailsPiece (SpellsTrapezoid (not (k == 25)) (not (k == 24))) (TrapezoidTook (not (k == 25)) (not (k == 24))) old why new → ForeignFails in_end k old why new) (sym e) (λ g. image_fails a_trapezoid g) f
  trapezoid_fails (inr (inl e)) f = subst (λ k. FailsPiece (SpellsTrapezoid (not (k == 25)) (not (k == 24))) (TrapezoidTook (not (k == 25)) (not (k == 24))) old why new → ForeignFails in_end k old why new) (sym e) (λ g. image_fails a_trapezoid g) f
  trapezoid_fails (inr (inr e)) f = subst (λ k. FailsPiece (SpellsTrapezoid (not (k == 25)) (not (k == 24))) (TrapezoidTook (not (k == 25)) (not (k == 24))) old why new → ForeignFails in_end k old why new) (sym e) (λ g. image_fails a_trapezoid g) f

  pub attributed_fails : (id ≡ 30) ⊎ ((id ≡ 31) ⊎ (id ≡ 32)) → FailsPiece (SpellsAttributed (id == 31)) (AttributedTook (id == 31)) old why new → ForeignFails in_end id old why new
  attributed_fails (inl e) f = subst (λ k. FailsPiece (SpellsAttributed (k == 31)) (AttributedTook (k == 31)) old why new → ForeignFails in_end k old why new) (sym e) (λ g. image_fails extension_name g) f
  attributed_fails (inr (inl e)) f = subst (λ k. FailsPiece (SpellsAttributed (k == 31)) (AttributedTook (k == 31)) old why new → ForeignFails in_end k old why new) (sym e) (λ g. image_fails extension_name g) f
  attributed_fails (inr (inr e)) f = subst (λ k. FailsPiece (SpellsAttributed (k == 31)) (AttributedTook (k == 31)) old why new → ForeignFails in_end k old why new) (sym e) (λ g. image_fails extension_element g) f

module _ {old new : Script} (in_end : Bool) (id : ℕ) where
  pub name_read : (v : Padding × Option ℕ) → (id ≡ 7) ⊎ (id ≡ 8) → ReadsValue (SpellsString (id == 8)) old v new → ForeignRead in_end id old (property_name v) new
  name_read v (inl e) f = subst (λ k. ReadsValue (SpellsString (k == 8)) old v new → ForeignRead in_end k old (property_name v) new) (sym e) (λ g. kind_read property_name g) f
  name_read v (inr e) f = subst (λ k. ReadsValue (SpellsString (k == 8)) old v new → ForeignRead in_end k old (property_name v) new) (sym e) (λ g. kind_read property_name g) f

  pub string_read : (v : Padding × Option ℕ) → (id ≡ 9) ⊎ (id ≡ 10) → ReadsValue (SpellsString (id == 10)) old v new → ForeignRead in_end id old (property_string v) new
  string_read v (inl e) f = subst (λ k. ReadsValue (SpellsString (k == 10)) old v new → ForeignRead in_end k old (property_string v) new) (sym e) (λ g. kind_read property_string g) f
  string_read v (inr e) f = subst (λ k. ReadsValue (SpellsString (k == 10)) old v new → ForeignRead in_end k old (property_string v) new) (sym e) (λ g. kind_read property_string g) f

  pub trapezoid_read : (v : Trapezoid) → (id ≡ 23) ⊎ ((id ≡ 24) ⊎ (id ≡ 25)) → ReadsValue (SpellsTrapezoid (not (id == 25)) (not (id == 24))) old v new → ForeignRead in_end id old (a_trapezoid v) new
  trapezoid_read v (inl e) f = subst (λ k. ReadsValue (SpellsTrapezoid (not (k == 25)) (not (k == 24))) old v new → ForeignRead in_end k old (a_trapezoid v) new) (sym e) (λ g. kind_read a_trapezoid g) f
  trapezoid_read v (inr (inl e)) f = subst (λ k. ReadsValue (SpellsTrapezoid (not (k == 25)) (not (k == 24))) old v new → ForeignRead in_end k old (a_trapezoid v) new) (sym e) (λ g. kind_read a_trapezoid g) f
  trapezoid_read v (inr (inr e)) f = subst (λ k. ReadsValue (SpellsTrapezoid (not (k == 25)) (not (k == 24))) old v new → ForeignRead in_end k old (a_trapezoid v) new) (sym e) (λ g. kind_read a_trapezoid g) f

  pub extension_read : (v : ℕ × (Padding × Option ℕ)) → (id ≡ 30) ⊎ (id ≡ 31) → ReadsValue (SpellsAttributed (id == 31)) old v new → ForeignRead in_end id old (extension_name v) new
  extension_read v (inl e) f = subst (λ k. ReadsValue (SpellsAttributed (k == 31)) old v new → ForeignRead in_end k old (extension_name v) new) (sym e) (λ g. kind_read extension_name g) f
  extension_read v (inr e) f = subst (λ k. ReadsValue (SpellsAttributed (k == 31)) old v new → ForeignRead in_end k old (extension_name v) new) (sym e) (λ g. kind_read extension_name g) f

  pub element_read : (v : ℕ × (Padding × Option ℕ)) → id ≡ 32 → ReadsValue (SpellsAttributed (id == 31)) old v new → ForeignRead in_end id old (extension_element v) new
  element_read v e f = subst (λ k. ReadsValue (SpellsAttributed (k == 31)) old v new → ForeignRead in_end k old (extension_element v) new) (sym e) (λ g. kind_read extension_element g) f

-- ---- not as in the profile

pub foreign_done : (in_end : Bool) (id : ℕ) (old new : Script) (r : Result WideRecord Why) → is_profile_id id ≡ false → ReadsPiece (foreign in_end id).any (foreign in_end id).took old r new → ReadsPiece (fields in_end id).any (fields in_end id).took old r new
foreign_done in_end id old new r e f =
    subst (λ t. ReadsPiece (IsEither t (IsImage profile (IsAnyLength (first_of id) (after in_end id).any)) (foreign in_end id).any) (IsEither t (AnyLengthTook (first_of id) (after in_end id).any (after in_end id).took) (foreign in_end id).took) old r new) (sym e) f
