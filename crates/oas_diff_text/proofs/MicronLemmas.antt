-- The digits of a fraction, one at a time.
use Rattle.std.proofs.Common.{◌≡◌, ℕ, ℤ, zero, suc, ◌+◌, ◌*◌, ◌<◌, true, false, List, [], ◌∷◌, ◌++◌, decimal, refl, sym, ap, ◌∙◌, subst, arith, SFits, to_z, of_z, w64}
use Rattle.std.specs.Int.{w128}
use Rattle.std.specs.Prelude.{◌/◌, ◌%◌, pos, nat_abs, if◌then◌else◌}
use Rattle.std.specs.Int.Signed.{lt_z}
use Rattle.std.proofs.Math.Nat.{mod-lt}
use Rattle.std.proofs.lemmas.Int.{to_z-of_z}
use Rattle.oas_num.specs.Ratio.{Ratio}
use Rattle.oas_diff_text.specs.Microns.{decimals, pointed, quotient, counted_to, length_in, microns}

pub no_rest : (den k : ℕ) → decimals den k 0 ≡ []
no_rest den zero = refl
no_rest den (suc k) = refl

pub one_digit : (den k j rest : ℕ) → k ≡ suc j → 0 < rest → decimals den k rest ≡ (48 + (10 * rest) / den) ∷ decimals den j ((10 * rest) % den)
one_digit den k j zero e q = absurd (omega (arith, q))
one_digit den k j (suc r) e q = ap (λ (n : ℕ). decimals den n (suc r)) e

pub pointed_digits : (den rest : ℕ) → 0 < rest → pointed (decimals den 64 rest) ≡ 46 ∷ decimals den 64 rest
pointed_digits den rest some =
    let e : decimals den 64 rest ≡ (48 + (10 * rest) / den) ∷ decimals den 63 ((10 * rest) % den) = one_digit den 64 63 rest refl some in
    ap pointed e ∙ ap (λ (ds : List ℕ). 46 ∷ ds) (sym e)

-- the same, for what the parts denote
pub digit_of : (den k j rest m d e : ℕ) → k ≡ suc j → 0 < rest → m ≡ rest → d ≡ den → e ≡ den → decimals den k rest ≡ (48 + (10 * m) / d) ∷ decimals den j ((10 * m) % e)
digit_of den k j rest m d e less some p q r = one_digit den k j rest less some ∙ (λ i. (48 + (10 * sym p i) / sym q i) ∷ decimals den j ((10 * sym p i) % sym r i))

pub below_den : (n e den : ℕ) → e ≡ den → 0 < den → n % e < den
below_den n e den h some = subst (λ (x : ℕ). n % e < x) h (mod-lt n (subst (λ (x : ℕ). 0 < x) (sym h) some))

pub quotient_of : (num den d e : ℕ) → d ≡ den → e ≡ den → quotient num den ≡ decimal (num / d) ++ pointed (decimals den 64 (num % e))
quotient_of num den d e p q = λ i. decimal (num / sym p i) ++ pointed (decimals den 64 (num % sym q i))

pub length_of : (unit : Ratio) (n m d u : ℕ) → m ≡ counted_to n → d ≡ unit.den → u ≡ unit.num → quotient (m * d) u ≡ length_in unit n
length_of unit n m d u p q r = λ i. quotient (p i * q i) (r i)

pub coordinate_of : (unit : Ratio) (x y : ℤ) → SFits w64 x → SFits w128 y → y ≡ to_z w64 (of_z w64 x) → microns unit (to_z w128 (of_z w128 y)) ≡ microns unit x
coordinate_of unit x y f g e = ap (microns unit) (to_z-of_z w128 y g ∙ e ∙ to_z-of_z w64 x f)

below_zero : (unit : Ratio) (z : ℤ) → lt_z z (pos 0) ≡ true → microns unit z ≡ 45 ∷ length_in unit (nat_abs z)
below_zero unit z h = ap (λ b. if b then 45 ∷ length_in unit (nat_abs z) else length_in unit (nat_abs z)) h

not_below : (unit : Ratio) (z : ℤ) → lt_z z (pos 0) ≡ false → microns unit z ≡ length_in unit (nat_abs z)
not_below unit z h = ap (λ b. if b then 45 ∷ length_in unit (nat_abs z) else length_in unit (nat_abs z)) h

pub negative_of : (unit : Ratio) (z : ℤ) (n : ℕ) → SFits w128 z → n ≡ nat_abs (to_z w128 (of_z w128 z)) → lt_z (to_z w128 (of_z w128 z)) (pos 0) ≡ true → microns unit z ≡ 45 ∷ length_in unit n
negative_of unit z n f a h =
    let e = to_z-of_z w128 z f in
    below_zero unit z (subst (λ (x : ℤ). lt_z x (pos 0) ≡ true) e h) ∙ ap (λ (m : ℕ). 45 ∷ length_in unit m) (sym (a ∙ ap nat_abs e))

pub other_of : (unit : Ratio) (z : ℤ) (n : ℕ) → SFits w128 z → n ≡ nat_abs (to_z w128 (of_z w128 z)) → lt_z (to_z w128 (of_z w128 z)) (pos 0) ≡ false → microns unit z ≡ length_in unit n
other_of unit z n f a h =
    let e = to_z-of_z w128 z f in
    not_below unit z (subst (λ (x : ℤ). lt_z x (pos 0) ≡ false) e h) ∙ ap (length_in unit) (sym (a ∙ ap nat_abs e))
