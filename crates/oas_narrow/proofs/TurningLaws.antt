-- What the profile makes of the magnification and of the angle that reals of any type are translated to.
use Rattle.std.proofs.Common.{◌≡◌, ℕ, ◌*◌, ◌/◌, ◌%◌, ◌^◌, ◌<◌, Bool, true, false, IsTrue, inl, inr, refl, sym, ap, ◌∙◌, ◌⊎◌, arith}
use Rattle.std.specs.Prelude.{◌==◌, ◌&&◌, ◌↔◌, nat_lt, not, if◌then◌else◌, is_some, Option, None, Some}
use Rattle.std.proofs.lemmas.Bool.{lt-ltb, ltb-true}
use Rattle.std.proofs.lemmas.Bool.Decides.{eqb_tells}
use Rattle.std.proofs.Math.Nat.{mod-mod, mul-mod_left, mul-mod_right, mul-div_cancel, mul-div_cancel_left, mul-lt-mul_of_pos_right}
use Rattle.std.proofs.lemmas.Nat.{pow_pos}
use Rattle.oas_num.specs.declared.reals.Real.{Real}
use Rattle.oas_record.specs.declared.placements.Turn.TheVariants.{Degrees}
use Rattle.oas_elements.specs.declared.element.Turns.TheVariants.{T0, T1, T2, T3}
use Rattle.oas_reader.specs.Turns as drawn
use Rattle.oas_reader.specs.Turns.{turned, turns_by}
use Rattle.oas_block.specs.WideReal.{WideReal}
use Rattle.oas_narrow.specs.Placements.{num_of, den_of, IsOne, IsQuarters, is_one, quarters_of, is_plain, plain_of, magnification_of, degrees_by, angle_of}
use Rattle.oas_narrow.proofs.TurningLemmas.{equal, halved_is, one_is}

-- ---- tests

and_first : (a b : Bool) → (a && b) ≡ true → a ≡ true
and_first true b e = refl
and_first false b e = absurd cc

and_second : (a b : Bool) → (a && b) ≡ true → b ≡ true
and_second true b e = e
and_second false b e = absurd cc

and_both : (a b : Bool) → a ≡ true → b ≡ true → (a && b) ≡ true
and_both true true p q = refl
and_both true false p q = absurd cc
and_both false b p q = absurd cc

isnt : (b : Bool) → not b ≡ true → b ≡ false
isnt true e = absurd cc
isnt false e = refl

equals : (a b : ℕ) → (a == b) ≡ true → a ≡ b
equals a b e = elim (eqb_tells a b) [ inl p ↦ p.1 | inr p ↦ absurd (let no : true ≡ false = sym e ∙ p.0 in cc) ]

positive_by : (a : ℕ) → 0 < a → nat_lt 0 a ≡ true
positive_by a some = lt-ltb 0 a some

-- ---- reals of the profile

record Plain (r : WideReal) : Type 0 where
  num : num_of r ≡ r.num
  den : den_of r ≡ r.den

plain_parts : (r : WideReal) → is_plain r ≡ true → Plain r
plain_parts r e =
    let d = equals r.doubled 0 (and_first (r.doubled == 0) _ e) in
    let h = equals r.halved 0 (and_second (r.doubled == 0) _ e) in
    record { num = ap (λ n. r.num * 2 ^ n) d ∙ omega arith; den = ap (λ n. r.den * 2 ^ n) h ∙ omega arith }

cases : (b : Bool) → (b ≡ true) ⊎ (b ≡ false)
cases true = inl refl
cases false = inr refl

magnification_plain : (r : WideReal) → is_plain r ≡ true → magnification_of r ≡ plain_of r
magnification_plain r e = ap (λ b. if b then plain_of r else record { negative = false; num = if is_one r then 1 else 0; den = 1 }) e

magnification_float : (r : WideReal) → is_plain r ≡ false → magnification_of r ≡ record { negative = false; num = if is_one r then 1 else 0; den = 1 }
magnification_float r e = ap (λ b. if b then plain_of r else record { negative = false; num = if is_one r then 1 else 0; den = 1 }) e

angle_plain : (r : WideReal) → is_plain r ≡ true → angle_of r ≡ plain_of r
angle_plain r e = ap (λ b. if b then plain_of r else record { negative = r.negative; num = degrees_by (quarters_of r); den = 1 }) e

angle_float : (r : WideReal) → is_plain r ≡ false → angle_of r ≡ record { negative = r.negative; num = degrees_by (quarters_of r); den = 1 }
angle_float r e = ap (λ b. if b then plain_of r else record { negative = r.negative; num = degrees_by (quarters_of r); den = 1 }) e

-- ---- 1

is_one_says : (r : WideReal) → is_one r ≡ true → IsOne r
is_one_says r e =
    let rest = and_second (not r.negative) _ e in
    record {
      positive = isnt r.negative (and_first (not r.negative) _ e);
      some = ltb-true 0 r.den (and_first (nat_lt 0 r.den) _ rest);
      equal = equals (num_of r) (den_of r) (and_second (nat_lt 0 r.den) _ rest);
    }

unit_by : (b : Bool) → drawn.is_one (Some (record { negative = false; num = if b then 1 else 0; den = 1 })) ≡ b
unit_by true = refl
unit_by false = refl

plain_one : (r : WideReal) → Plain r → drawn.is_one (Some (plain_of r)) ≡ true → IsOne r
plain_one r p e =
    let rest = and_second (not r.negative) _ e in
    record {
      positive = isnt r.negative (and_first (not r.negative) _ e);
      some = ltb-true 0 r.den (and_second (r.num == r.den) _ rest);
      equal = p.num ∙ equals r.num r.den (and_first (r.num == r.den) _ rest) ∙ sym p.den;
    }

one_plain : (r : WideReal) → Plain r → IsOne r → drawn.is_one (Some (plain_of r)) ≡ true
one_plain r p o =
    and_both (not r.negative) _ (ap not o.positive) (and_both (r.num == r.den) _ (equal (sym p.num ∙ o.equal ∙ p.den)) (positive_by r.den o.some))

pub one_exactly : (r : WideReal) → (IsTrue (drawn.is_one (Some (magnification_of r)))) ↔ IsOne r
one_exactly r = elim (cases (is_plain r)) [
  | inl is ↦ (
    λ e. plain_one r (plain_parts r is) (ap (λ m. drawn.is_one (Some m)) (sym (magnification_plain r is)) ∙ e),
    λ o. ap (λ m. drawn.is_one (Some m)) (magnification_plain r is) ∙ one_plain r (plain_parts r is) o,
  )
  | inr float ↦ (
    λ e. is_one_says r (sym (unit_by (is_one r)) ∙ ap (λ m. drawn.is_one (Some m)) (sym (magnification_float r float)) ∙ e),
    λ o. ap (λ m. drawn.is_one (Some m)) (magnification_float r float) ∙ unit_by (is_one r) ∙ sym (one_is r o.positive o.some o.equal),
  )
]

-- ---- multiples of 90

times_some : (a b : ℕ) → 0 < a → 0 < b → 0 < a * b
times_some a b some other = let e : 0 * b < a * b = mul-lt-mul_of_pos_right some other in omega (arith, e)

quarter_some : (r : WideReal) → 0 < r.den → 0 < 90 * den_of r
quarter_some r some = omega (arith, times_some r.den (2 ^ r.halved) some (pow_pos r.halved))

divides : (n q : ℕ) (a : ℕ) → a ≡ n * q → a % q ≡ 0
divides n q a e = ap (λ m. m % q) e ∙ mul-mod_left n q

quotient : (n q a : ℕ) → 0 < q → a ≡ n * q → a / q ≡ n
quotient n q a some e = ap (λ m. m / q) e ∙ mul-div_cancel n some

-- for a real of the profile
plain_turned : (r : WideReal) (n : ℕ) → Plain r → IsQuarters r n → r.num ≡ n * (90 * r.den)
plain_turned r n p q = sym p.num ∙ q.equal ∙ ap (λ m. n * (90 * m)) p.den

-- for a float
quarters_some : (r : WideReal) (n : ℕ) → IsQuarters r n → quarters_of r ≡ Some (n % 4)
quarters_some r n q =
    ap (λ b. if b then Some (num_of r / (90 * den_of r) % 4) else None)
    (and_both (nat_lt 0 r.den) _ (positive_by r.den q.some) (equal (divides n (90 * den_of r) (num_of r) q.equal)))
    ∙ ap (λ m. Some (m % 4)) (quotient n (90 * den_of r) (num_of r) (quarter_some r q.some) q.equal)

turns_same : (clockwise : Bool) (n : ℕ) → turns_by clockwise (n % 4) ≡ turns_by clockwise n
turns_same clockwise n =
    ap (λ k. if k == 0 then T0 else if k == 1 then (if clockwise then T3 else T1) else if k == 2 then T2 else if clockwise then T1 else T3) (mod-mod n 4)

angle_as : (r : WideReal) (n : ℕ) → is_plain r ≡ false → IsQuarters r n → angle_of r ≡ record { negative = r.negative; num = 90 * (n % 4); den = 1 }
angle_as r n float q = angle_float r float ∙ ap (λ (o : Option ℕ). let a : Real = record { negative = r.negative; num = degrees_by o; den = 1 } in a) (quarters_some r n q)

some_test : (b : Bool) (k : ℕ) → is_some (if b then Some k else None) ≡ b
some_test true k = refl
some_test false k = refl

whole_by : (negative : Bool) (o : Option ℕ) → drawn.is_quarters (Some (record { negative = negative; num = degrees_by o; den = 1 })) ≡ is_some o
whole_by negative None = refl
whole_by negative (Some k) = equal (mul-mod_right 90 k)

quarters_by_rest : (r : WideReal) → 0 < r.den → num_of r % (90 * den_of r) ≡ 0 → (n : ℕ) × IsQuarters r n
quarters_by_rest r some none = (num_of r / (90 * den_of r), record { some = some; equal = sym (halved_is (num_of r) (90 * den_of r) none) })

plain_says : (r : WideReal) → Plain r → drawn.is_quarters (Some (plain_of r)) ≡ true → (n : ℕ) × IsQuarters r n
plain_says r p e =
    let none : r.num % (90 * r.den) ≡ 0 = equals (r.num % (90 * r.den)) 0 (and_second (nat_lt 0 r.den) _ e) in
    quarters_by_rest r (ltb-true 0 r.den (and_first (nat_lt 0 r.den) _ e)) (ap (λ n. n % (90 * den_of r)) p.num ∙ ap (λ n. r.num % (90 * n)) p.den ∙ none)

plain_whole : (r : WideReal) (n : ℕ) → Plain r → IsQuarters r n → drawn.is_quarters (Some (plain_of r)) ≡ true
plain_whole r n p q = and_both (nat_lt 0 r.den) _ (positive_by r.den q.some) (equal (divides n (90 * r.den) r.num (plain_turned r n p q)))

float_says : (r : WideReal) → is_some (quarters_of r) ≡ true → (n : ℕ) × IsQuarters r n
float_says r e =
    let both = sym (some_test (nat_lt 0 r.den && (num_of r % (90 * den_of r) == 0)) (num_of r / (90 * den_of r) % 4)) ∙ e in
    quarters_by_rest r (ltb-true 0 r.den (and_first (nat_lt 0 r.den) _ both)) (equals (num_of r % (90 * den_of r)) 0 (and_second (nat_lt 0 r.den) _ both))

angle_whole : (r : WideReal) → is_plain r ≡ false → drawn.is_quarters (Some (angle_of r)) ≡ is_some (quarters_of r)
angle_whole r float = ap (λ a. drawn.is_quarters (Some a)) (angle_float r float) ∙ whole_by r.negative (quarters_of r)

pub multiple_exactly : (r : WideReal) → (IsTrue (drawn.is_quarters (Some (angle_of r)))) ↔ ((n : ℕ) × IsQuarters r n)
multiple_exactly r = elim (cases (is_plain r)) [
  | inl is ↦ (
    λ e. plain_says r (plain_parts r is) (ap (λ a. drawn.is_quarters (Some a)) (sym (angle_plain r is)) ∙ e),
    λ q. ap (λ a. drawn.is_quarters (Some a)) (angle_plain r is) ∙ plain_whole r q.0 (plain_parts r is) q.1,
  )
  | inr float ↦ (
    λ e. float_says r (sym (angle_whole r float) ∙ e),
    λ q. angle_whole r float ∙ ap is_some (quarters_some r q.0 q.1),
  )
]

turned_by : (a b : Real) (m : Option Real) → a ≡ b → turned (Degrees m (Some a)) ≡ turns_by b.negative (b.num / (90 * b.den))
turned_by a b m e = ap (λ (c : Real). turns_by c.negative (c.num / (90 * c.den))) e

pub turned_as : (r : WideReal) (n : ℕ) (m : Option Real) → IsQuarters r n → turned (Degrees m (Some (angle_of r))) ≡ turns_by r.negative n
turned_as r n m q = elim (cases (is_plain r)) [
  | inl is ↦ turned_by (angle_of r) (plain_of r) m (angle_plain r is)
      ∙ ap (λ k. turns_by r.negative k) (quotient n (90 * r.den) r.num (omega (arith, q.some)) (plain_turned r n (plain_parts r is) q))
  | inr float ↦ turned_by (angle_of r) (record { negative = r.negative; num = 90 * (n % 4); den = 1 }) m (angle_as r n float q)
      ∙ ap (λ k. turns_by r.negative k) (mul-div_cancel_left (n % 4) (omega arith)) ∙ turns_same r.negative n
]
