-- One more digit.
use Rattle.std.proofs.Common.{◌≡◌, ℕ, suc, ◌+◌, ◌*◌, ◌/◌, ◌%◌, ◌^◌, ◌<◌, List, [], ◌∷◌, ◌++◌, refl, sym, ap, ◌∙◌, append_assoc, arith}
use Rattle.std.proofs.lemmas.Nat.{pow_pos, mod_below, mod-mul-add, div-mul-add, mod-pow-add}
use Rattle.oas_keys.specs.Numbers.{digits}

-- a rest by one more weight, in parts
rest_parts : (n k : ℕ) → n % 2 ^ (8 * suc k) ≡ (n / 2 ^ (8 * k) % 256) * 2 ^ (8 * k) + n % 2 ^ (8 * k)
rest_parts n k =
    let e : 8 * suc k ≡ 8 + 8 * k = omega arith in
    ap (λ (t : ℕ). n % 2 ^ t) e ∙ mod-pow-add n 8 (8 * k)

-- the digits of such a rest
pub next_digit : (n k : ℕ) → digits (suc k) (n % 2 ^ (8 * suc k)) ≡ (n / 2 ^ (8 * k) % 256) ∷ digits k (n % 2 ^ (8 * k))
next_digit n k =
    let w : ℕ = 2 ^ (8 * k) in
    let b : n % w < w = mod_below n w (pow_pos (8 * k)) in
    let e = rest_parts n k in
    let top : n % 2 ^ (8 * suc k) / w ≡ n / w % 256 = ap (λ (t : ℕ). t / w) e ∙ div-mul-add (n / w % 256) w (n % w) b in
    let low : n % 2 ^ (8 * suc k) % w ≡ n % w = ap (λ (t : ℕ). t % w) e ∙ mod-mul-add (n / w % 256) w (n % w) b in
    rw (top, low) refl

-- a step of the loop that puts them
pub step : (n k left : ℕ) (before now : List ℕ) → left ≡ suc k
    → before ≡ now ++ digits left (n % 2 ^ (8 * left)) → before ≡ (now ++ (n / 2 ^ (8 * k) % 256) ∷ []) ++ digits k (n % 2 ^ (8 * k))
step n k left before now e h =
    let f : before ≡ now ++ digits (suc k) (n % 2 ^ (8 * suc k)) = rw e at h in
    f ∙ ap (λ (t : List ℕ). now ++ t) (next_digit n k) ∙ sym (append_assoc now ((n / 2 ^ (8 * k) % 256) ∷ []) (digits k (n % 2 ^ (8 * k))))
