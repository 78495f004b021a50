-- Lowest terms: each fraction with positive parts has them, and only one.
use Rattle.std.proofs.Common.{◌≡◌, ℕ, ◌*◌, ◌/◌, zero, suc, ◌<◌, sym, ap, ◌∙◌, arith}
use Rattle.std.specs.Int.{IsGcd}
use Rattle.std.proofs.Math.Nat.{one-dvd, div-mul_cancel, dvd_of_mul-dvd-mul_right, mul-dvd-mul_right, pos_of_dvd_of_pos, eq_of_mul-eq-mul_right, one-mul}
use Rattle.std.proofs.lemmas.Nat.Gcd.{same_from_IsGcd}
use Rattle.oas_num.specs.Ratio.{Ratio, Reduces}

pub divisor_some : (a b g : ℕ) → 0 < a → IsGcd a b g → 0 < g
divisor_some a b g some h = pos_of_dvd_of_pos h.0 some

positive_part : (p q n : ℕ) → 0 < n → p * q ≡ n → 0 < p
positive_part zero q n some e = absurd (omega (arith, e))
positive_part (suc p) q n some e = omega arith

-- the quotients have no common divisor
pub coprime_parts : (p q a b g : ℕ) → 0 < g → p * g ≡ a → q * g ≡ b → IsGcd a b g → IsGcd p q 1
coprime_parts p q a b g some e f h = (
  one-dvd p,
  one-dvd q,
  λ d x y.
      let u = mul-dvd-mul_right d x g in
      let v = mul-dvd-mul_right d y g in
      let w = h.2 (d * g) (rw (← e) u) (rw (← f) v) in
      dvd_of_mul-dvd-mul_right {k = g} d {n = 1} some (rw (one-mul g) w),
)

pub value_same : (p q a b g : ℕ) → p * g ≡ a → q * g ≡ b → p * b ≡ a * q
value_same p q a b g e f = rw (← e, ← f) (grind arith)

reduced_by : (p q a b g : ℕ) → 0 < a → 0 < b → IsGcd a b g → p * g ≡ a → q * g ≡ b → Reduces a b (record { num = p; den = q })
reduced_by p q a b g some also h e f = record {
  lowest = record {
    num_some = positive_part p g a some e;
    den_some = positive_part q g b also f;
    coprime = coprime_parts p q a b g (divisor_some a b g some h) e f h;
  };
  same_value = value_same p q a b g e f;
  divisor = g;
  some = divisor_some a b g some h;
  greatest = h;
  num_is = e;
  den_is = f;
}

-- both parts divided by their greatest common divisor
pub quotients : (a b g : ℕ) → 0 < a → 0 < b → IsGcd a b g → Reduces a b (record { num = a / g; den = b / g })
quotients a b g some also h = reduced_by (a / g) (b / g) a b g some also h (div-mul_cancel g h.0) (div-mul_cancel g h.1)

abbrev ratio : ℕ → ℕ → Ratio
ratio n d = record { num = n; den = d }

same_parts : (a b : Ratio) → a.num ≡ b.num → a.den ≡ b.den → a ≡ b
same_parts a b p q = ap (λ n. ratio n a.den) p ∙ ap (λ d. ratio b.num d) q

-- only one fraction in lowest terms is the same
pub one_lowest : (num den : ℕ) (a b : Ratio) → Reduces num den a → Reduces num den b → a ≡ b
one_lowest num den a b p q =
    let same : p.divisor ≡ q.divisor = same_from_IsGcd num den p.divisor q.divisor p.greatest q.greatest in
    let n : a.num * q.divisor ≡ b.num * q.divisor = ap (λ k. a.num * k) (sym same) ∙ p.num_is ∙ sym q.num_is in
    let d : a.den * q.divisor ≡ b.den * q.divisor = ap (λ k. a.den * k) (sym same) ∙ p.den_is ∙ sym q.den_is in
    same_parts a b (eq_of_mul-eq-mul_right q.divisor q.some a.num b.num n) (eq_of_mul-eq-mul_right q.divisor q.some a.den b.den d)
