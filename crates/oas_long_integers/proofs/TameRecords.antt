-- What follows an id of the profile is given unchanged, where its integers have at most ten bytes.
use Rattle.std.proofs.Common.{◌≡◌, ◌≢◌, ℕ, ◌≤◌, Bool, true, false, List, [], ◌∷◌, ◌++◌, length, ◌⊎◌, inl, inr, refl, sym, ap, subst, ◌∙◌, arith}
use Rattle.std.specs.Prelude.{◌==◌, ◌||◌}
use Rattle.std.proofs.lemmas.Bool.Decides.{eqb_tells, nat_tests}
use Rattle.std.proofs.lemmas.List.{length-append}
use Rattle.oas_num.specs.declared.refusals.Why.{Why}
use Rattle.oas_num.specs.declared.refusals.Why.TheVariants.{Truncated, IntegerRange, InfoByte, Read, InputTooLong}
use Rattle.oas_num.specs.Combinators.{IsEither}
use Rattle.oas_num.specs.Grammar.{IsPair, IsSuch, IsByte, IsImage}
use Rattle.oas_num.specs.Pieces.{PairTook, SuchTook, Unless}
use Rattle.oas_num.specs.Reading.{ByteMay}
use Rattle.oas_record.specs.declared.records.Record.{Record}
use Rattle.oas_record.specs.Trees.{Row, by_table, EachRow}
use Rattle.oas_record.specs.Records.{table, after}
use Rattle.oas_long_integers.specs.declared.places.Place.{Place}
use Rattle.oas_long_integers.specs.declared.places.Place.TheVariants.{Free}
use Rattle.oas_long_integers.specs.Places.{shortened, IsSettled}
use Rattle.oas_long_integers.specs.Places as places
use Rattle.oas_long_integers.specs.AnyLength.{first_of}
use Rattle.oas_long_integers.proofs.TameLemmas.{start, Tame, tame_pair, tame_there, tame_either, tame_image, tame_such, tame_number, tame_nothing}
use Rattle.oas_long_integers.proofs.TameFields.{tame_signed, tame_name, tame_label, tame_points, tame_repetition}

-- ---- after an id

-- all is given unchanged, from that place on, and nothing is held back after it
pub record TameFrom {V : Type 0} (first : Place) (any : V → List ℕ → Type 0) (took : Why → List ℕ → Type 0) : Type 0 where
  pub whole : (v : V) (bytes : List ℕ) → any v bytes → (shortened first bytes ≡ bytes) × IsSettled (places.after first bytes)
  pub part : (why : Why) (bytes : List ℕ) → took why bytes → (shortened first bytes ≡ bytes) ⊎ ((why ≡ IntegerRange) × (10 ≤ length bytes))
  pub cut : (bytes : List ℕ) → took Read bytes → took InputTooLong bytes

plain_from : {V : Type 0} {any : V → List ℕ → Type 0} {took : Why → List ℕ → Type 0} → Tame any took → TameFrom start any took
plain_from t = record { whole = λ v bytes p. let w = t.whole v bytes p in (w.0, subst IsSettled (sym w.1) tt); part = t.part; cut = t.cut }

info_part : {allowed : ℕ → Type 0} (why : Why) (bytes : List ℕ) → SuchTook IsByte ByteMay (Unless allowed InfoByte) why bytes → shortened Free bytes ≡ bytes
info_part {allowed} why bytes (inl h) = by_reason why h where
  by_reason : (w : Why) → ByteMay w bytes → shortened Free bytes ≡ bytes
  by_reason Truncated e = subst (λ (c : List ℕ). shortened Free c ≡ c) (sym e) refl
  by_reason Read e = subst (λ (c : List ℕ). shortened Free c ≡ c) (sym e) refl
  by_reason InputTooLong e = subst (λ (c : List ℕ). shortened Free c ≡ c) (sym e) refl
  by_reason _ e = absurd e
info_part {allowed} why bytes (inr h) = subst (λ (c : List ℕ). shortened Free c ≡ c) (sym h.1.only) refl

-- an info byte, and what follows it
module _ {V : Type 0} (allowed : ℕ → Type 0) (parts : ℕ → V → List ℕ → Type 0) (took : ℕ → Why → List ℕ → Type 0) (t : (info : ℕ) → Tame (parts info) (took info)) where
  behind : (b : ℕ) (front back : List ℕ) → front ≡ b ∷ [] → shortened start back ≡ back → shortened Free (front ++ back) ≡ front ++ back
  behind b front back only e = subst (λ (c : List ℕ). shortened Free (c ++ back) ≡ c ++ back) (sym only) (ap (λ (c : List ℕ). b ∷ c) e)

  info_whole : (v : ℕ × V) (bytes : List ℕ) → IsPair (IsSuch allowed IsByte) parts v bytes → (shortened Free bytes ≡ bytes) × IsSettled (places.after Free bytes)
  info_whole v bytes p =
      let w = (t v.0).whole v.1 p.back p.second in
      let only = p.first.spelled.only in
      let settled : IsSettled (places.after Free (v.0 ∷ p.back)) = subst IsSettled (sym w.1) tt in (
        subst (λ (c : List ℕ). shortened Free c ≡ c) (sym p.joined) (behind v.0 p.front p.back only w.0),
        subst (λ (c : List ℕ). IsSettled (places.after Free c)) (sym p.joined) (subst (λ (c : List ℕ). IsSettled (places.after Free (c ++ p.back))) (sym only) settled),
      )

  info_fails : (why : Why) (bytes : List ℕ) → PairTook (IsSuch allowed IsByte) (SuchTook IsByte ByteMay (Unless allowed InfoByte)) took why bytes → (shortened Free bytes ≡ bytes) ⊎ ((why ≡ IntegerRange) × (10 ≤ length bytes))
  info_fails why bytes (inl h) = inl (info_part {allowed = allowed} why bytes h)
  info_fails why bytes (inr b) = elim ((t b.value).part why b.last b.holds) [
    | inl e ↦ inl (subst (λ (c : List ℕ). shortened Free c ≡ c) (sym b.joined) (behind b.value b.front b.last b.spelled.spelled.only e))
    | inr h ↦ inr (h.0, omega (arith, ap length b.joined, length-append b.front b.last, h.1))
  ]

  info_cut : (bytes : List ℕ) → PairTook (IsSuch allowed IsByte) (SuchTook IsByte ByteMay (Unless allowed InfoByte)) took Read bytes → PairTook (IsSuch allowed IsByte) (SuchTook IsByte ByteMay (Unless allowed InfoByte)) took InputTooLong bytes
  info_cut bytes (inl (inl e)) = inl (inl e)
  info_cut bytes (inl (inr h)) = let e : Read ≡ InfoByte = h.2.0 in absurd cc
  info_cut bytes (inr b) = inr (record { value = b.value; front = b.front; last = b.last; spelled = b.spelled; holds = (t b.value).cut b.last b.holds; joined = b.joined })

  from_info : {W : Type 0} (f : ℕ × V → W) → TameFrom Free (IsImage f (IsPair (IsSuch allowed IsByte) parts)) (PairTook (IsSuch allowed IsByte) (SuchTook IsByte ByteMay (Unless allowed InfoByte)) took)
  from_info f = record { whole = λ v bytes p. info_whole p.from bytes p.spelled; part = info_fails; cut = info_cut }

image_from : {U V : Type 0} {A : U → List ℕ → Type 0} {took : Why → List ℕ → Type 0} {first : Place} (f : U → V) → TameFrom first A took → TameFrom first (IsImage f A) took
image_from f t = record { whole = λ v bytes p. t.whole p.from bytes p.spelled; part = t.part; cut = t.cut }

-- ---- by the id

by_id : {V : Type 0} {A B : V → List ℕ → Type 0} {f g : Why → List ℕ → Type 0} (id n : ℕ) → (id ≡ n → TameFrom (first_of id) A f) → TameFrom (first_of id) B g → TameFrom (first_of id) (IsEither (id == n) A B) (IsEither (id == n) f g)
by_id {V} {A} {B} {f} {g} id n here other = by (id == n) (eqb_tells id n) where
  by : (test : Bool) → ((test ≡ true) × (id ≡ n)) ⊎ ((test ≡ false) × (id ≢ n)) → TameFrom (first_of id) (IsEither test A B) (IsEither test f g)
  by true (inl p) = here p.1
  by true (inr p) = absurd cc
  by false p = other

-- END and placements by degrees are read elsewhere
abbrev TameUnless : Bool → Row Record → Type 0
TameUnless true row = Unit {0}
TameUnless false row = TameFrom (first_of row.number) row.kind.any row.kind.took

-- what follows the id of a row is given unchanged
abbrev IsTameRow : Row Record → Type 0
IsTameRow row = TameUnless ((row.number == 2) || (row.number == 18)) row

info_not_read : (allowed : ℕ → Type 0) (v : ℕ) → Unless allowed InfoByte v Read → ⊥
info_not_read allowed v h = let e : Read ≡ InfoByte = h.0 in cc

-- the search takes the rows one after another, and each as its tree is made, so that a row more needs no line here
tame_rows : (in_end : Bool) → EachRow IsTameRow (table in_end)
tame_rows in_end = search (plain_from, image_from, from_info, tame_image, tame_pair, tame_there, tame_either, tame_such, info_not_read, tame_number, tame_signed, tame_name, tame_label, tame_points, tame_repetition, tame_nothing) depth 60

inner_row : (n : ℕ) → n ≢ 2 → n ≢ 18 → ((n == 2) || (n == 18)) ≡ false
inner_row n not_end not_degrees = grind (arith, nat_tests)

of_row : (id : ℕ) (r : Row Record) → id ≢ 2 → id ≢ 18 → IsTameRow r → id ≡ r.number → TameFrom (first_of id) r.kind.any r.kind.took
of_row id r not_end not_degrees t is =
    let inner = inner_row r.number (λ e. not_end (is ∙ e)) (λ e. not_degrees (is ∙ e)) in
    subst (λ (n : ℕ). TameFrom (first_of n) r.kind.any r.kind.took) (sym is) (subst (λ (elsewhere : Bool). TameUnless elsewhere r) inner t)

tame_by : (id : ℕ) (rows : List (Row Record)) → id ≢ 2 → id ≢ 18 → EachRow IsTameRow rows → TameFrom (first_of id) (by_table id rows).any (by_table id rows).took
tame_by id [] not_end not_degrees each = record { whole = λ v bytes p. absurd p; part = λ why bytes h. absurd h; cut = λ bytes h. h }
tame_by id (r ∷ rows) not_end not_degrees each = by_id id r.number (of_row id r not_end not_degrees each.0) (tame_by id rows not_end not_degrees each.1)

pub tame_after : (in_end : Bool) (id : ℕ) → id ≢ 2 → id ≢ 18 → TameFrom (first_of id) (after in_end id).any (after in_end id).took
tame_after in_end id not_end not_degrees = tame_by id (table in_end) not_end not_degrees (tame_rows in_end)
