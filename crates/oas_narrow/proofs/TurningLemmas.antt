-- Reals that are halved and doubled.
use Rattle.std.proofs.Common.{◌≡◌, ◌≢◌, ℕ, zero, suc, ◌+◌, ◌-◌, ◌*◌, ◌/◌, ◌%◌, ◌^◌, ◌<◌, ◌≤◌, Bool, true, false, inl, inr, refl, sym, ap, subst, ◌∙◌, arith}
use Rattle.std.specs.Option.{option_eq}
use Rattle.std.specs.Prelude.{◌==◌, ◌&&◌, nat_lt, not, nat_eq, if◌then◌else◌, IfSome, IsNone, Option, None, Some}
use Rattle.std.proofs.lemmas.Bool.{lt-ltb}
use Rattle.std.proofs.lemmas.Bool.Decides.{eqb_tells}
use Rattle.std.proofs.lemmas.Nat.{pow-add, pow_pos, mul-mod_first, mod-mul-add, div-mul-add}
use Rattle.std.proofs.Math.Arith.{mod-mul}
use Rattle.std.proofs.Math.Nat.{pow-suc, mod-lt, mod-mod, mod-eq_of_lt, div-add-mod, mul-le-mul_right, mul-div-mul_right, mul-div_cancel, mul-mod_left}
use Rattle.std.proofs.Math.Pow.{pow_mono}
use Rattle.oas_block.specs.WideReal.{WideReal}
use Rattle.oas_narrow.specs.Placements.{num_of, den_of, is_one, quarters_of}

-- ---- tests

pub equal : {a b : ℕ} → a ≡ b → (a == b) ≡ true
equal {a = a} {b = b} is = elim (eqb_tells a b) [ inl p ↦ p.0 | inr p ↦ absurd (p.1 is) ]

pub unequal : {a b : ℕ} → a ≢ b → (a == b) ≡ false
unequal {a = a} {b = b} isnt = elim (eqb_tells a b) [ inl p ↦ absurd (isnt p.1) | inr p ↦ p.0 ]

-- ---- powers of two

cancel : (a b p : ℕ) → 0 < p → a * p ≡ b * p → a ≡ b
cancel a b p some e = sym (mul-div_cancel a some) ∙ ap (λ n. n / p) e ∙ mul-div_cancel b some

grouped : (a b c : ℕ) → a * (b * c) ≡ a * b * c
grouped a b c = grind arith

-- doubled this often, of which some are the last
up : (n d h : ℕ) → h ≤ d → n * 2 ^ d ≡ n * 2 ^ (d - h) * 2 ^ h
up n d h less = ap (λ k. n * 2 ^ k) (omega (arith, less)) ∙ ap (λ k. n * k) (pow-add 2 (d - h) h) ∙ grouped n (2 ^ (d - h)) (2 ^ h)

-- ---- halving

pub halved_past : (half num times : ℕ) → 64 ≤ times → num ≢ 0 → num < 2 ^ 64 → half * 2 ^ times ≢ num
halved_past zero num times many some fits e = some (sym e ∙ omega arith)
halved_past (suc half) num times many some fits e =
    let large : 1 * 2 ^ times ≤ suc half * 2 ^ times = mul-le-mul_right (2 ^ times) (omega arith) in omega (arith, large, e, fits, pow_mono {i = 64} {j = times} many)

pub halved_is : (num unit : ℕ) → num % unit ≡ 0 → num / unit * unit ≡ num
halved_is num unit none = let e : unit * (num / unit) ≡ num / unit * unit = grind arith in omega (arith, e, none, div-add-mod num unit)

pub halved_odd : (half num unit : ℕ) → num % unit ≢ 0 → half * unit ≢ num
halved_odd half num unit odd e = odd (sym (ap (λ n. n % unit) e) ∙ mul-mod_left half unit)

-- ---- doubling, modulo multiples

doubled_less : (a w : ℕ) → 0 < w → a % w * 2 < w → a % w * 2 ≡ (a * 2) % w
doubled_less a w some less = sym (mod-eq_of_lt less) ∙ mul-mod_first a 2 w

doubled_more : (a w : ℕ) → 0 < w → w ≤ a % w * 2 → a % w * 2 - w ≡ (a * 2) % w
doubled_more a w some more =
    let small = mod-lt a some in
    let rest : a % w * 2 - w < w = omega (arith, small, more) in
    let split : a % w * 2 ≡ 1 * w + (a % w * 2 - w) = omega (arith, more) in
    sym (mod-mul-add 1 w (a % w * 2 - w) rest) ∙ ap (λ n. n % w) (sym split) ∙ mul-mod_first a 2 w

next_power : (n k : ℕ) → n * 2 ^ k * 2 ≡ n * 2 ^ (k + 1)
next_power n k = sym (grouped n (2 ^ k) 2) ∙ ap (λ m. n * m) (sym (pow-suc 2 k) ∙ ap (λ i. 2 ^ i) (omega arith))

pub doubled_once : (num k w rest : ℕ) → 0 < w → rest ≡ num * 2 ^ k % w → rest * 2 < w → rest * 2 ≡ num * 2 ^ (k + 1) % w
doubled_once num k w rest some is less =
    ap (λ n. n * 2) is ∙ doubled_less (num * 2 ^ k) w some (subst (λ n. n * 2 < w) is less) ∙ ap (λ n. n % w) (next_power num k)

pub doubled_over : (num k w rest : ℕ) → 0 < w → rest ≡ num * 2 ^ k % w → w ≤ rest * 2 → rest * 2 - w ≡ num * 2 ^ (k + 1) % w
doubled_over num k w rest some is more =
    ap (λ n. n * 2 - w) is ∙ doubled_more (num * 2 ^ k) w some (subst (λ n. w ≤ n * 2) is more) ∙ ap (λ n. n % w) (next_power num k)

-- ---- 1

test_by : (negative : Bool) (den : ℕ) (same : Bool) → negative ≡ false → 0 < den → (not negative && (nat_lt 0 den && same)) ≡ same
test_by true den same positive some = absurd cc
test_by false den same positive some = ap (λ b. b && same) (lt-ltb 0 den some)

pub one_is : (r : WideReal) → r.negative ≡ false → 0 < r.den → num_of r ≡ den_of r → true ≡ is_one r
one_is r positive some is = sym (test_by r.negative r.den _ positive some ∙ equal is)

pub one_isnt : (r : WideReal) → r.negative ≡ false → 0 < r.den → num_of r ≢ den_of r → false ≡ is_one r
one_isnt r positive some isnt = sym (test_by r.negative r.den _ positive some ∙ unequal isnt)

pub no_one : (r : WideReal) → r.negative ≡ true → false ≡ is_one r
no_one r negative = sym (ap (λ b. not b && (nat_lt 0 r.den && (num_of r == den_of r))) negative)

and_false : (b : Bool) → (b && false) ≡ false
and_false true = refl
and_false false = refl

pub no_parts : (r : WideReal) → r.den ≡ 0 → false ≡ is_one r
no_parts r none = sym (ap (λ n. not r.negative && (nat_lt 0 n && (num_of r == den_of r))) none ∙ and_false (not r.negative))

module _ (r : WideReal) where
  abbrev d : ℕ
  d = r.doubled

  abbrev h : ℕ
  h = r.halved

  pub equal_up : (half : ℕ) → h ≤ d → half * 2 ^ (d - h) ≡ r.den → half ≡ r.num → num_of r ≡ den_of r
  equal_up half less is same = up r.num d h less ∙ ap (λ n. n * 2 ^ h) (ap (λ n. n * 2 ^ (d - h)) (sym same) ∙ is)

  back_up : h ≤ d → num_of r ≡ den_of r → r.num * 2 ^ (d - h) ≡ r.den
  back_up less e = cancel (r.num * 2 ^ (d - h)) r.den (2 ^ h) (pow_pos h) (sym (up r.num d h less) ∙ e)

  pub unequal_up : (half : ℕ) → h ≤ d → half * 2 ^ (d - h) ≡ r.den → half ≢ r.num → num_of r ≢ den_of r
  unequal_up half less is other e = other (cancel half r.num (2 ^ (d - h)) (pow_pos (d - h)) (is ∙ sym (back_up less e)))

  pub odd_up : h ≤ d → ((half : ℕ) → half * 2 ^ (d - h) ≢ r.den) → num_of r ≢ den_of r
  odd_up less none e = none r.num (back_up less e)

  pub down : (half : ℕ) → d < h → half * 2 ^ (h - d) ≡ r.num → num_of r ≡ half * 2 ^ h
  down half less is = ap (λ n. n * 2 ^ d) (sym is) ∙ sym (up half h d (omega (arith, less)))

  pub equal_down : (half : ℕ) → d < h → half * 2 ^ (h - d) ≡ r.num → half ≡ r.den → num_of r ≡ den_of r
  equal_down half less is same = down half less is ∙ ap (λ n. n * 2 ^ h) same

  pub unequal_down : (half : ℕ) → d < h → half * 2 ^ (h - d) ≡ r.num → half ≢ r.den → num_of r ≢ den_of r
  unequal_down half less is other e = other (cancel half r.den (2 ^ h) (pow_pos h) (sym (down half less is) ∙ e))

  -- halved as often as it is
  pub back_down : (half : ℕ) → d < h → num_of r ≡ half * 2 ^ h → half * 2 ^ (h - d) ≡ r.num
  back_down half less e = sym (cancel r.num (half * 2 ^ (h - d)) (2 ^ d) (pow_pos d) (e ∙ up half h d (omega (arith, less))))

  pub odd_down : d < h → ((half : ℕ) → half * 2 ^ (h - d) ≢ r.num) → num_of r ≢ den_of r
  odd_down less none e = none r.den (back_down r.den less e)

-- ---- quarter turns

mods : (x q p : ℕ) → 0 < q → 0 < p → (x * p) % (q * p) ≡ (x % q) * p
mods x q p positive some =
    mod-mul (x * p) {m = q} {c = p} positive some ∙ ap (λ n. (n % q) * p + (x * p) % p) (mul-div_cancel x some) ∙ ap (λ n. (x % q) * p + n) (mul-mod_left x p) ∙ omega arith

zero_by : (a p : ℕ) → 0 < p → (a * p == 0) ≡ (a == 0)
zero_by zero p some = equal (omega arith)
zero_by (suc a) p some = let large : 1 * p ≤ suc a * p = mul-le-mul_right p (omega arith) in unequal (λ e. omega (arith, large, some, e)) ∙ sym (unequal (λ e. omega (arith, e)))

abbrev pub quarters_by : ℕ → ℕ → Option ℕ
quarters_by x q = if x % q == 0 then Some (x / q % 4) else None

-- an angle of x / den, by its parts or by others of the same value
pub quarters_is : (r : WideReal) (x : ℕ) → 0 < r.den → num_of r ≡ x * 2 ^ r.halved → quarters_of r ≡ quarters_by x (90 * r.den)
quarters_is r x some e =
    let q : ℕ = 90 * r.den in
    let p : ℕ = 2 ^ r.halved in
    let positive : 0 < q = omega (arith, some) in
    ap (λ n. if nat_lt 0 r.den && (n % (90 * den_of r) == 0) then Some (n / (90 * den_of r) % 4) else None) e
    ∙ ap (λ m. if nat_lt 0 r.den && ((x * p) % m == 0) then Some ((x * p) / m % 4) else None) (grouped 90 r.den p)
    ∙ ap (λ n. if nat_lt 0 r.den && (n == 0) then Some ((x * p) / (q * p) % 4) else None) (mods x q p positive (pow_pos r.halved))
    ∙ ap (λ n. if nat_lt 0 r.den && ((x % q) * p == 0) then Some (n % 4) else None) (mul-div-mul_right x q (pow_pos r.halved))
    ∙ ap (λ b. if nat_lt 0 r.den && b then Some (x / q % 4) else None) (zero_by (x % q) p (pow_pos r.halved))
    ∙ ap (λ b. if b && (x % q == 0) then Some (x / q % 4) else None) (lt-ltb 0 r.den some)

some_by : (x q : ℕ) → x % q ≡ 0 → quarters_by x q ≡ Some (x / q % 4)
some_by x q is = ap (λ b. if b then Some (x / q % 4) else None) (equal is)

none_by : (x q : ℕ) → x % q ≢ 0 → quarters_by x q ≡ None
none_by x q isnt = ap (λ b. if b then Some (x / q % 4) else None) (unequal isnt)

pub no_quarters : (r : WideReal) → r.den ≡ 0 → None ≡ quarters_of r
no_quarters r none = sym (ap (λ n. if nat_lt 0 n && (num_of r % (90 * den_of r) == 0) then Some (num_of r / (90 * den_of r) % 4) else None) none)

-- modulo whole turns it has as many quarter turns, and as many degrees above
module _ (x q : ℕ) (some : 0 < q) where
  turn : x % (4 * q) ≡ (x / q % 4) * q + x % q
  turn = mod-mul x {m = 4} {c = q} (omega arith) some

  within_rest : x % (4 * q) % q ≡ x % q
  within_rest = ap (λ n. n % q) turn ∙ mod-mul-add (x / q % 4) q (x % q) (mod-lt x some)

  within_quarters : x % (4 * q) / q % 4 ≡ x / q % 4
  within_quarters = ap (λ n. n / q % 4) turn ∙ ap (λ n. n % 4) (div-mul-add (x / q % 4) q (x % q) (mod-lt x some)) ∙ mod-mod (x / q) 4

-- ---- what is returned

module _ (r : WideReal) (degrees : ℕ) (some : 0 < r.den) where
  abbrev q : ℕ
  q = 90 * r.den

  positive : 0 < q
  positive = omega (arith, some)

  pub some_up : r.halved ≤ r.doubled → degrees ≡ r.num * 2 ^ (r.doubled - r.halved) % (4 * q) → degrees % q ≡ 0 → Some (degrees / q % 4) ≡ quarters_of r
  some_up less is none =
      let x : ℕ = r.num * 2 ^ (r.doubled - r.halved) in
      let whole : x % q ≡ 0 = sym (within_rest x q positive) ∙ ap (λ n. n % q) (sym is) ∙ none in
      ap (λ n. Some (n / q % 4)) is ∙ ap (λ n. Some n) (within_quarters x q positive) ∙ sym (some_by x q whole) ∙ sym (quarters_is r x some (up r.num r.doubled r.halved less))

  pub none_up : r.halved ≤ r.doubled → degrees ≡ r.num * 2 ^ (r.doubled - r.halved) % (4 * q) → degrees % q ≢ 0 → None ≡ quarters_of r
  none_up less is rest =
      let x : ℕ = r.num * 2 ^ (r.doubled - r.halved) in
      sym (quarters_is r x some (up r.num r.doubled r.halved less) ∙ none_by x q (λ e. rest (ap (λ n. n % q) is ∙ within_rest x q positive ∙ e)))

  pub some_down : r.doubled < r.halved → degrees * 2 ^ (r.halved - r.doubled) ≡ r.num → degrees % q ≡ 0 → Some (degrees / q % 4) ≡ quarters_of r
  some_down less is none = sym (quarters_is r degrees some (down r degrees less is) ∙ some_by degrees q none)

  pub none_down : r.doubled < r.halved → degrees * 2 ^ (r.halved - r.doubled) ≡ r.num → degrees % q ≢ 0 → None ≡ quarters_of r
  none_down less is rest = sym (quarters_is r degrees some (down r degrees less is) ∙ none_by degrees q rest)

-- it isn't halved this often, so it is no whole number of degrees
pub halfway : (r : WideReal) → 0 < r.den → r.doubled < r.halved → ((half : ℕ) → half * 2 ^ (r.halved - r.doubled) ≢ r.num) → None ≡ quarters_of r
halfway r some less none =
    let q : ℕ = 90 * r.den in
    let p : ℕ = 2 ^ r.halved in
    let n : ℕ = num_of r in
    let apart : n % (90 * den_of r) ≢ 0 =
    λ e.
    let whole : n ≡ n / (90 * den_of r) * (90 * den_of r) = sym (halved_is n (90 * den_of r) e) in
    let same : n / (90 * den_of r) * (90 * den_of r) ≡ n / (90 * den_of r) * q * p = ap (λ m. n / (90 * den_of r) * m) (grouped 90 r.den p) ∙ grouped (n / (90 * den_of r)) q p in
    none (n / (90 * den_of r) * q) (back_down r (n / (90 * den_of r) * q) less (whole ∙ same)) in
    sym (ap (λ b. if nat_lt 0 r.den && b then Some (n / (90 * den_of r) % 4) else None) (unequal apart) ∙ ap (λ b. if b && false then Some (n / (90 * den_of r) % 4) else None) (lt-ltb 0 r.den some))

-- ---- whether it is 1, by what is halved

abbrev pub Halves : ℕ → ℕ → Option ℕ → Type 0
Halves num times o = IfSome o (λ half. half * 2 ^ times ≡ num)

abbrev pub HalvesNone : ℕ → ℕ → Option ℕ → Type 0
HalvesNone num times o = IsNone o → (half : ℕ) → half * 2 ^ times ≢ num

pub one_up : (r : WideReal) (o : Option ℕ) → r.negative ≡ false → 0 < r.den → r.halved ≤ r.doubled → Halves r.den (r.doubled - r.halved) o
    → HalvesNone r.den (r.doubled - r.halved) o → option_eq nat_eq o (Some r.num) ≡ is_one r
one_up r None positive some less is none = one_isnt r positive some (odd_up r less (none refl))
one_up r (Some half) positive some less is none = elim (eqb_tells half r.num) [
  | inl p ↦ p.0 ∙ one_is r positive some (equal_up r half less is p.1)
  | inr p ↦ p.0 ∙ one_isnt r positive some (unequal_up r half less is p.1)
]

pub one_down : (r : WideReal) (o : Option ℕ) → r.negative ≡ false → 0 < r.den → r.doubled < r.halved → Halves r.num (r.halved - r.doubled) o
    → HalvesNone r.num (r.halved - r.doubled) o → option_eq nat_eq o (Some r.den) ≡ is_one r
one_down r None positive some less is none = one_isnt r positive some (odd_down r less (none refl))
one_down r (Some half) positive some less is none = elim (eqb_tells half r.den) [
  | inl p ↦ p.0 ∙ one_is r positive some (equal_down r half less is p.1)
  | inr p ↦ p.0 ∙ one_isnt r positive some (unequal_down r half less is p.1)
]
