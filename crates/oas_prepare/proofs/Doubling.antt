-- Fractions in lowest terms, doubled and scaled.
use Rattle.std.proofs.Common.{◌≡◌, ℕ, zero, suc, ◌+◌, ◌-◌, ◌*◌, ◌/◌, ◌%◌, ◌^◌, ◌<◌, ◌≤◌, ◌⊎◌, inl, inr, sym, ap, subst, ◌∙◌, arith}
use Rattle.std.specs.Int.{◌∣◌, IsGcd}
use Rattle.std.specs.Prelude.{Option, None, Some, IfSome}
use Rattle.std.proofs.lemmas.Bool.{cases_lt}
use Rattle.std.proofs.lemmas.Nat.Gcd.{IsGcd-from_zero, IsGcd-from_sub, IsGcd-swap, same_from_IsGcd}
use Rattle.std.proofs.Math.Nat.{mul-sub, mul-le-mul_left, dvd-sub, dvd-mul_left, dvd-mul_left_of_dvd, mul-dvd-mul_left}
use Rattle.std.proofs.lemmas.Nat.{pow-add}
use Rattle.oas_num.specs.Ratio.{Ratio, Reduces}
use Rattle.oas_num.specs.Laws.RatioLaws.{one_lowest, coprime_parts, value_same}
use Rattle.oas_record.specs.Laws.HeadLaws.{itself}
use Rattle.oas_narrow.specs.WideReal.{WideReal}
use Rattle.oas_narrow.specs.Preparable.{IsUnitOf}
use Rattle.oas_prepare.specs.Units.{ratio, IsPast}

-- ---- common divisors of what is scaled

record Scaled (c a b : ℕ) : Type 0 where
  g : ℕ
  here : IsGcd a b g
  there : IsGcd (c * a) (c * b) (c * g)

scaled_none : (c a b : ℕ) → b ≤ 0 → Scaled c a b
scaled_none c a b none =
    let e : b ≡ 0 = omega (arith, none) in
    record { g = a; here = IsGcd-from_zero a b e; there = IsGcd-from_zero (c * a) (c * b) (ap (λ m. c * m) e ∙ omega arith) }

scaled_turned : (c a b : ℕ) → Scaled c b a → Scaled c a b
scaled_turned c a b s = record { g = s.g; here = IsGcd-swap b a s.g s.here; there = IsGcd-swap (c * b) (c * a) (c * s.g) s.there }

scaled_less : (c a b : ℕ) → b ≤ a → Scaled c (a - b) b → Scaled c a b
scaled_less c a b above s = record {
  g = s.g;
  here = IsGcd-from_sub a b s.g above s.here;
  there = IsGcd-from_sub (c * a) (c * b) (c * s.g) (mul-le-mul_left c above) (subst (λ m. IsGcd m (c * b) (c * s.g)) (mul-sub c a b) s.there);
}

scaled_step : (n c a b : ℕ) → a + b ≤ suc n → ((x y : ℕ) → x + y ≤ n → Scaled c x y) → Scaled c a b
scaled_step n c a b h less = elim (cases_lt 0 b) [
  | inr none ↦ scaled_none c a b none
  | inl some ↦ elim (cases_lt 0 a) [
    | inr nothing ↦ scaled_turned c a b (scaled_none c b a nothing)
    | inl positive ↦ elim (cases_lt a b) [
      | inr above ↦ scaled_less c a b above (less (a - b) b (omega (arith, h, some, above)))
      | inl below ↦ scaled_turned c a b (scaled_less c b a (omega (arith, below)) (less (b - a) a (omega (arith, h, positive, below))))
    ]
  ]
]

scaled_by : (n c a b : ℕ) → a + b ≤ n → Scaled c a b
scaled_by zero c a b h = scaled_none c a b (omega (arith, h))
scaled_by (suc n) c a b h = scaled_step n c a b h (λ x y k. scaled_by n c x y k)

scaled : (c a b g : ℕ) → IsGcd a b g → IsGcd (c * a) (c * b) (c * g)
scaled c a b g h = let s = scaled_by (a + b) c a b (omega arith) in subst (λ k. IsGcd (c * a) (c * b) (c * k)) (same_from_IsGcd a b s.g g s.here h) s.there

-- ---- lowest terms

reduces_of : (a b p q g : ℕ) → 0 < p → 0 < q → 0 < g → IsGcd a b g → p * g ≡ a → q * g ≡ b → Reduces a b (ratio p q)
reduces_of a b p q g num den some h e f = record {
  lowest = record { num_some = num; den_some = den; coprime = coprime_parts p q a b g some e f h };
  same_value = value_same p q a b g e f;
  divisor = g;
  some = some;
  greatest = h;
  num_is = e;
  den_is = f;
}

pub times_some : (c g : ℕ) → 0 < c → 0 < g → 0 < c * g
times_some zero g a b = absurd (omega (arith, a))
times_some (suc c) g a b = omega (arith, b)

regroup : (n c g a : ℕ) → n * g ≡ a → n * (c * g) ≡ c * a
regroup n c g a e = rw (← e) (grind arith)

-- both parts times the same
pub reduces_scaled : (c a b : ℕ) (f : Ratio) → 0 < c → Reduces a b f → Reduces (c * a) (c * b) f
reduces_scaled c a b f some r =
    reduces_of (c * a) (c * b) f.num f.den (c * r.divisor) r.lowest.num_some r.lowest.den_some (times_some c r.divisor some r.some)
    (scaled c a b r.divisor r.greatest) (regroup f.num c r.divisor a r.num_is) (regroup f.den c r.divisor b r.den_is)

-- the parts exchanged
pub reduces_turned : (a b : ℕ) (f : Ratio) → Reduces a b f → Reduces b a (ratio f.den f.num)
reduces_turned a b f r = reduces_of b a f.den f.num r.divisor r.lowest.den_some r.lowest.num_some r.some (IsGcd-swap a b r.divisor r.greatest) r.den_is r.num_is

-- ---- doubled

pub double_even : (a b n d m : ℕ) → Reduces a b (ratio n d) → d ≡ 2 * m → Reduces (2 * a) b (ratio n m)
double_even a b n d m r even =
    let g = r.divisor in
    let is : m * (2 * g) ≡ b = sym (ap (λ k. k * g) even ∙ grind arith) ∙ r.den_is in
    reduces_of (2 * a) b n m (2 * g) r.lowest.num_some (omega (arith, r.lowest.den_some, even)) (omega (arith, r.some))
    (mul-dvd-mul_left g 2 r.greatest.0, subst (λ k. (2 * g) ∣ k) is (dvd-mul_left (2 * g) m), λ d x y. (scaled 2 a b g r.greatest).2 d x (dvd-mul_left_of_dvd d y 2))
    (regroup n 2 g a r.num_is) is

pub double_odd : (a b n d m : ℕ) → Reduces a b (ratio n d) → d ≡ 2 * m + 1 → Reduces (2 * a) b (ratio (n * 2) d)
double_odd a b n d m r odd =
    let g = r.divisor in
    let is : b ≡ m * (2 * g) + g = sym r.den_is ∙ ap (λ k. k * g) odd ∙ grind arith in
    let num : (n * 2) * g ≡ 2 * a = rw (← r.num_is) (grind arith) in
    reduces_of (2 * a) b (n * 2) d g (omega (arith, r.lowest.num_some)) r.lowest.den_some r.some (
      dvd-mul_left_of_dvd g r.greatest.0 2,
      r.greatest.1,
      λ d x y.
          let twice = (scaled 2 a b g r.greatest).2 d x (dvd-mul_left_of_dvd d y 2) in
          let rest : d ∣ (b - m * (2 * g)) = dvd-sub d y (dvd-mul_left_of_dvd d twice m) in
          let same : b - m * (2 * g) ≡ g = omega (arith, is) in
          subst (λ k. d ∣ k) same rest,
    )
    num r.den_is

-- as often as needed: the numerator grows
abbrev Grown : ℕ → ℕ → ℕ → Ratio → Type 0
Grown k a b f = (r : Ratio) × Reduces (a * 2 ^ k) b r × (f.num ≤ r.num)

doubled_power : (a k : ℕ) → (2 * a) * 2 ^ k ≡ a * 2 ^ suc k
doubled_power a k =
    let e : 2 ^ suc k ≡ 2 ^ k * 2 = omega arith in
    grouped a (2 ^ k) ∙ ap (λ p. a * p) (sym e) where
      grouped : (a p : ℕ) → (2 * a) * p ≡ a * (p * 2)
      grouped a p = grind arith

grown_more : (k a b : ℕ) (f h : Ratio) → f.num ≤ h.num → Grown k (2 * a) b h → Grown (suc k) a b f
grown_more k a b f h le g = (g.0, subst (λ n. Reduces n b g.0) (doubled_power a k) g.1, omega (arith, le, g.2))

grown_step : (k a b : ℕ) (f : Ratio) → Reduces a b f → ((h : Ratio) → Reduces (2 * a) b h → Grown k (2 * a) b h) → Grown (suc k) a b f
grown_step k a b f r more = elim (cases_lt 0 (f.den % 2)) [
  | inr even ↦
      let h : Ratio = ratio f.num (f.den / 2) in
      grown_more k a b f h (omega arith) (more h (double_even a b f.num f.den (f.den / 2) r (omega (arith, even))))
  | inl odd ↦
      let h : Ratio = ratio (f.num * 2) f.den in
      grown_more k a b f h (omega arith) (more h (double_odd a b f.num f.den (f.den / 2) r (omega (arith, odd))))
]

pub grown : (k a b : ℕ) (f : Ratio) → Reduces a b f → Grown k a b f
grown zero a b f r = (f, subst (λ n. Reduces n b f) (let e : a ≡ a * 2 ^ 0 = omega arith in e) r, omega arith)
grown (suc k) a b f r = grown_step k a b f r (λ h s. grown k (2 * a) b h s)

-- ---- one turn of the loop

twice_more : (a i : ℕ) → 2 * (a * 2 ^ i) ≡ a * 2 ^ (i + 1)
twice_more a i = sym (ap (λ k. a * k) (pow-add 2 i 1) ∙ grind arith)

pub turn_even : (a b i n d : ℕ) → Reduces (a * 2 ^ i) b (ratio n d) → d % 2 ≡ 0 → Reduces (a * 2 ^ (i + 1)) b (ratio n (d / 2))
turn_even a b i n d r even = subst (λ k. Reduces k b (ratio n (d / 2))) (twice_more a i) (double_even (a * 2 ^ i) b n d (d / 2) r (omega (arith, even)))

pub turn_odd : (a b i n d : ℕ) → Reduces (a * 2 ^ i) b (ratio n d) → (d % 2 ≡ 0 → ⊥) → Reduces (a * 2 ^ (i + 1)) b (ratio (n * 2) d)
turn_odd a b i n d r odd = subst (λ k. Reduces k b (ratio (n * 2) d)) (twice_more a i) (double_odd (a * 2 ^ i) b n d (d / 2) r (odd_is d odd)) where
  odd_is : (d : ℕ) → (d % 2 ≡ 0 → ⊥) → d ≡ 2 * (d / 2) + 1
  odd_is d odd = omega (arith, odd)

-- the numerator has grown too large
pub turn_past : (a b i times n d : ℕ) → i < times → Reduces (a * 2 ^ i) b (ratio n d) → (d % 2 ≡ 0 → ⊥) → 2 ^ 64 ≤ n * 2 → IsPast (a * 2 ^ times) b
turn_past a b i times n d within r odd past =
    let g = grown (times - (i + 1)) (a * 2 ^ (i + 1)) b (ratio (n * 2) d) (turn_odd a b i n d r odd) in
    let e : (a * 2 ^ (i + 1)) * 2 ^ (times - (i + 1)) ≡ a * 2 ^ times =
    let whole : times ≡ (i + 1) + (times - (i + 1)) = omega (arith, within) in
    regrouped a (2 ^ (i + 1)) (2 ^ (times - (i + 1))) ∙ ap (λ k. a * k) (sym (pow-add 2 (i + 1) (times - (i + 1)))) ∙ ap (λ k. a * 2 ^ k) (sym whole) in
    record { lowest = g.0; reduces = subst (λ k. Reduces k b g.0) e g.1; past = omega (arith, past, g.2) } where
      regrouped : (a b c : ℕ) → (a * b) * c ≡ a * (b * c)
      regrouped a b c = grind arith

-- ---- doubled and halved

two_some : (k : ℕ) → 0 < 2 ^ k
two_some zero = omega arith
two_some (suc k) = omega (arith, two_some k)

pub less_halved : (num den d h : ℕ) (f : Ratio) → h ≤ d → Reduces (num * 2 ^ (d - h)) den f → Reduces (num * 2 ^ d) (den * 2 ^ h) f
less_halved num den d h f le r =
    let s = reduces_scaled (2 ^ h) (num * 2 ^ (d - h)) den f (two_some h) r in
    let whole : d ≡ (d - h) + h = omega (arith, le) in
    let n : 2 ^ h * (num * 2 ^ (d - h)) ≡ num * 2 ^ d = grouped num (2 ^ (d - h)) (2 ^ h) ∙ ap (λ k. num * k) (sym (pow-add 2 (d - h) h)) ∙ ap (λ k. num * 2 ^ k) (sym whole) in
    subst (λ k. Reduces k (den * 2 ^ h) f) n (subst (λ k. Reduces (2 ^ h * (num * 2 ^ (d - h))) k f) (let e : 2 ^ h * den ≡ den * 2 ^ h = grind arith in e) s) where
      grouped : (a b c : ℕ) → c * (a * b) ≡ a * (b * c)
      grouped a b c = grind arith

pub less_doubled : (num den d h : ℕ) (n p : ℕ) → d ≤ h → Reduces (den * 2 ^ (h - d)) num (ratio p n) → Reduces (num * 2 ^ d) (den * 2 ^ h) (ratio n p)
less_doubled num den d h n p le r = reduces_turned (den * 2 ^ h) (num * 2 ^ d) (ratio p n) (less_halved den num h d (ratio p n) le r)

-- what is in lowest terms is unchanged
pub kept_lowest : (a b : ℕ) (n d : ℕ) (f : Ratio) → Reduces a b (ratio n d) → Reduces n d f → Reduces a b f
kept_lowest a b n d f r s = subst (Reduces a b) (one_lowest n d (ratio n d) f (itself (ratio n d) r.lowest) s) r

-- a part that isn't below 2^64
pub past_num : {real : WideReal} {f unit : Ratio} → Reduces (real.num * 2 ^ real.doubled) (real.den * 2 ^ real.halved) f → 2 ^ 64 ≤ f.num → IsUnitOf real unit → ⊥
past_num {real = real} {f = f} {unit = unit} r past is =
    let same : f ≡ unit = one_lowest (real.num * 2 ^ real.doubled) (real.den * 2 ^ real.halved) f unit r is.reduces in
    absurd (omega (arith, past, is.num_fits, ap (λ (g : Ratio). g.num) same))

pub past_den : {real : WideReal} {f unit : Ratio} → Reduces (real.num * 2 ^ real.doubled) (real.den * 2 ^ real.halved) f → 2 ^ 64 ≤ f.den → IsUnitOf real unit → ⊥
past_den {real = real} {f = f} {unit = unit} r past is =
    let same : f ≡ unit = one_lowest (real.num * 2 ^ real.doubled) (real.den * 2 ^ real.halved) f unit r is.reduces in
    absurd (omega (arith, past, is.den_fits, ap (λ (g : Ratio). g.den) same))

-- ---- the unit

same_fits : (n d : ℕ) (f : Ratio) {a b : ℕ} → n < 2 ^ 64 → d < 2 ^ 64 → Reduces a b (ratio n d) → Reduces n d f → (f.num < 2 ^ 64) × (f.den < 2 ^ 64)
same_fits n d f num den r s =
    let same : ratio n d ≡ f = one_lowest n d (ratio n d) f (itself (ratio n d) r.lowest) s in
    subst (λ (g : Ratio). (g.num < 2 ^ 64) × (g.den < 2 ^ 64)) same (num, den)

unit_if : {real : WideReal} {n d : ℕ} (o : Option Ratio) → IfSome o (Reduces n d) → ((f : Ratio) → Reduces n d f → IsUnitOf real f) → IfSome o (IsUnitOf real)
unit_if None h make = tt
unit_if (Some f) h make = make f h

-- doubled, over all
pub unit_up : (real : WideReal) (n d : ℕ) → n < 2 ^ 64 → d < 2 ^ 64 → real.halved ≤ real.doubled → Reduces (real.num * 2 ^ (real.doubled - real.halved)) real.den (ratio n d) →
    (o : Option Ratio) → IfSome o (Reduces n d) → IfSome o (IsUnitOf real)
unit_up real n d num den le r o h = unit_if o h (λ f s.
    let fits = same_fits n d f num den r s in
    record {
      reduces = less_halved real.num real.den real.doubled real.halved f le (kept_lowest (real.num * 2 ^ (real.doubled - real.halved)) real.den n d f r s);
      num_fits = fits.0;
      den_fits = fits.1;
    })

-- halved
pub unit_down : (real : WideReal) (n d : ℕ) → n < 2 ^ 64 → d < 2 ^ 64 → real.doubled ≤ real.halved → Reduces (real.den * 2 ^ (real.halved - real.doubled)) real.num (ratio d n) →
    (o : Option Ratio) → IfSome o (Reduces n d) → IfSome o (IsUnitOf real)
unit_down real n d num den le r o h = unit_if o h (λ f s.
    let fits = same_fits n d f num den (reduces_turned (real.den * 2 ^ (real.halved - real.doubled)) real.num (ratio d n) r) s in
    record {
      reduces = kept_lowest (real.num * 2 ^ real.doubled) (real.den * 2 ^ real.halved) n d f (less_doubled real.num real.den real.doubled real.halved n d le r) s;
      num_fits = fits.0;
      den_fits = fits.1;
    })

-- no unit
pub past_up : {real : WideReal} {unit : Ratio} → real.halved ≤ real.doubled → IsPast (real.num * 2 ^ (real.doubled - real.halved)) real.den → IsUnitOf real unit → ⊥
past_up {real = real} le p is = past_num (less_halved real.num real.den real.doubled real.halved p.lowest le p.reduces) p.past is

pub past_down : {real : WideReal} {unit : Ratio} → real.doubled ≤ real.halved → IsPast (real.den * 2 ^ (real.halved - real.doubled)) real.num → IsUnitOf real unit → ⊥
past_down {real = real} le p is = past_den (less_doubled real.num real.den real.doubled real.halved p.lowest.den p.lowest.num le p.reduces) p.past is

-- no part is zero
pub no_zero : {a b : ℕ} (n d : ℕ) → Reduces a b (ratio n d) → (n ≡ 0) ⊎ (d ≡ 0) → ⊥
no_zero n d r (inl e) = absurd (omega (arith, r.lowest.num_some, e))
no_zero n d r (inr e) = absurd (omega (arith, r.lowest.den_some, e))
