-- What a number's bytes are read as.
use Rattle.std.proofs.Common.{◌≡◌, ℕ, zero, suc, ◌+◌, ◌-◌, ◌*◌, ◌/◌, ◌%◌, ◌^◌, ◌<◌, ◌≤◌, nat_lt, true, false, List, [], ◌∷◌, ◌++◌, length, take, drop, refl, sym, ap, ◌∙◌, subst, ⊎_elim, arith}
use Rattle.std.proofs.lemmas.Bool.{cases_lt, lt-ltb, cond-true, cond-false, le-ltb}
use Rattle.std.proofs.lemmas.Nat.{div-add-mod', mod_below, pow_pos, pow-add}
use Rattle.std.proofs.lemmas.List.{length-append}
use Rattle.std.proofs.Math.Nat.{add-mul}
use Rattle.std.proofs.Math.Pow.{pow_mono}
use Rattle.std.proofs.Math.Seq.{take-append_seam, drop-append_seam}
use Rattle.oas_keys.specs.declared.classes.Class.{Class}
use Rattle.oas_keys.specs.Numbers.{digits, AreClasses, first_of, more_of, number_in}
use Rattle.oas_keys.specs.Reading.{joined_digits, least_with, more_with}
use Rattle.oas_keys.specs.Laws.NumberLaws.{begins, first_above, first_within}

-- ---- digits

-- digits have their number's length
pub length-digits : (k n : ℕ) → length (digits k n) ≡ k
length-digits zero n = refl
length-digits (suc k) n = ap suc (length-digits k (n % 2 ^ (8 * k)))

-- one more weight
weight_more : (k : ℕ) → 2 ^ (8 * suc k) ≡ 256 * 2 ^ (8 * k)
weight_more k = let e : 8 * suc k ≡ 8 + 8 * k = omega arith in ap (λ (t : ℕ). 2 ^ t) e ∙ pow-add 2 8 (8 * k)

regroup : (acc q r n w : ℕ) → q * w + r ≡ n → (acc * 256 + q) * w + r ≡ acc * (256 * w) + n
regroup acc q r n w e =
    let a : (acc * 256 + q) * w ≡ acc * 256 * w + q * w = add-mul (acc * 256) q w in
    let b : acc * 256 * w ≡ acc * (256 * w) = grind arith in
    omega arith

-- digits are joined to their number
pub joined_more : (k n acc : ℕ) → n < 2 ^ (8 * k) → joined_digits acc (digits k n) ≡ acc * 2 ^ (8 * k) + n
joined_more zero n acc h = omega arith
joined_more (suc k) n acc h =
    let w : ℕ = 2 ^ (8 * k) in
    joined_more k (n % w) (acc * 256 + n / w) (mod_below n w (pow_pos (8 * k)))
    ∙ regroup acc (n / w) (n % w) n w (div-add-mod' n w)
    ∙ ap (λ (t : ℕ). acc * t + n) (sym (weight_more k))

-- ---- the first byte

-- the number is among those that begin with its first byte, and what follows that byte says which it is
pub record Stands (least more n : ℕ) (bytes : List ℕ) : Type 0 where
  pub low : least ≤ n
  pub within : n - least < 2 ^ (8 * more)
  pub written : bytes ≡ digits more (n - least)
  pub few : more ≤ 8

-- the same for equal numbers
stands_as : (a b k l n : ℕ) (bytes : List ℕ) → a ≡ b → k ≡ l → Stands b l n bytes → Stands a k n bytes
stands_as a b k l n bytes e f h = subst (λ (t : ℕ). Stands t k n bytes) (sym e) (subst (λ (t : ℕ). Stands b t n bytes) (sym f) h)

pub stands : (cs : List Class) (base n : ℕ) → AreClasses cs → n < 2 ^ 64 → Stands (least_with cs base (first_of cs base n)) (more_with cs base (first_of cs base n)) n (more_of cs n)
stands [] base n fits h =
    let same : n ≡ n - 0 = omega arith in
    record { low = omega arith; within = omega arith; written = ap (digits 8) same; few = omega arith }
stands (c ∷ cs) base n fits h =
    let w : ℕ = 2 ^ (8 * c.more) in
    let some : 0 < w = pow_pos (8 * c.more) in
    ⊎_elim
    (λ (a : n < c.size).
    let l = first_within c n fits.0 a in
    let whole : n / w * w + n % w ≡ n = div-add-mod' n w in
    let below : n % w < w = mod_below n w some in
    let f : first_of (c ∷ cs) base n ≡ base + n / w = cond-true _ _ _ (lt-ltb n c.size a) in
    let g : nat_lt (base + n / w) (base + c.firsts) ≡ true = lt-ltb (base + n / w) (base + c.firsts) (omega arith) in
    let top : base + n / w - base ≡ n / w = omega arith in
    let least : least_with (c ∷ cs) base (first_of (c ∷ cs) base n) ≡ n / w * w =
    ap (least_with (c ∷ cs) base) f ∙ cond-true _ _ _ g ∙ ap (λ (t : ℕ). t * w) top in
    let more : more_with (c ∷ cs) base (first_of (c ∷ cs) base n) ≡ c.more = ap (more_with (c ∷ cs) base) f ∙ cond-true _ _ _ g in
    let left : n - n / w * w ≡ n % w = omega arith in
    let written : more_of (c ∷ cs) n ≡ digits c.more (n % w) = cond-true _ _ _ (lt-ltb n c.size a) in
    stands_as _ _ _ _ n _ least more
    (record { low = omega arith; within = omega arith; written = written ∙ ap (digits c.more) (sym left); few = fits.1.0 }))
    (λ (a : c.size ≤ n).
    let l = first_above cs (base + c.firsts) (n - c.size) in
    let h' = stands cs (base + c.firsts) (n - c.size) fits.1.1 (omega arith) in
    let f : first_of (c ∷ cs) base n ≡ first_of cs (base + c.firsts) (n - c.size) = cond-false _ _ _ (le-ltb n c.size a) in
    let g : nat_lt (first_of cs (base + c.firsts) (n - c.size)) (base + c.firsts) ≡ false = le-ltb _ (base + c.firsts) l in
    let least : least_with (c ∷ cs) base (first_of (c ∷ cs) base n) ≡ c.size + least_with cs (base + c.firsts) (first_of cs (base + c.firsts) (n - c.size)) =
    ap (least_with (c ∷ cs) base) f ∙ cond-false _ _ _ g in
    let more : more_with (c ∷ cs) base (first_of (c ∷ cs) base n) ≡ more_with cs (base + c.firsts) (first_of cs (base + c.firsts) (n - c.size)) =
    ap (more_with (c ∷ cs) base) f ∙ cond-false _ _ _ g in
    let low = h'.low in
    let left : n - (c.size + least_with cs (base + c.firsts) (first_of cs (base + c.firsts) (n - c.size))) ≡ n - c.size - least_with cs (base + c.firsts) (first_of cs (base + c.firsts) (n - c.size)) = omega arith in
    let written : more_of (c ∷ cs) n ≡ more_of cs (n - c.size) = cond-false _ _ _ (le-ltb n c.size a) in
    stands_as _ _ _ _ n _ least more
    (record { low = omega arith; within = omega (arith, h'.within); written = written ∙ h'.written ∙ ap (digits (more_with cs (base + c.firsts) (first_of cs (base + c.firsts) (n - c.size)))) (sym left); few = h'.few }))
    (cases_lt n c.size)

-- ---- a number

-- a first byte and what follows it are this number and a rest
pub record Reads (cs : List Class) (n first : ℕ) (rest after : List ℕ) : Type 0 where
  pub some : 1 ≤ first
  pub low : least_with cs 1 first ≤ n
  pub few : more_with cs 1 first ≤ 8
  pub long : more_with cs 1 first ≤ length after
  pub value : least_with cs 1 first + joined_digits 0 (take (more_with cs 1 first) after) ≡ n
  pub rest_is : drop (more_with cs 1 first) after ≡ rest

front : (k n : ℕ) (rest : List ℕ) → take k (digits k n ++ rest) ≡ digits k n
front k n rest = (λ i. take (sym (length-digits k n) i) (digits k n ++ rest)) ∙ take-append_seam (digits k n) rest

back : (k n : ℕ) (rest : List ℕ) → drop k (digits k n ++ rest) ≡ rest
back k n rest = (λ i. drop (sym (length-digits k n) i) (digits k n ++ rest)) ∙ drop-append_seam (digits k n) rest

read_by : (cs : List Class) (least more n first : ℕ) (rest after : List ℕ) → least ≡ least_with cs 1 first → more ≡ more_with cs 1 first → 1 ≤ first
    → Stands least more n (digits more (n - least)) → after ≡ digits more (n - least) ++ rest → Reads cs n first rest after
read_by cs least more n first rest after e f some h is =
    let t : take more after ≡ digits more (n - least) = ap (take more) is ∙ front more (n - least) rest in
    let d : drop more after ≡ rest = ap (drop more) is ∙ back more (n - least) rest in
    let value : joined_digits 0 (take more after) ≡ 0 * 2 ^ (8 * more) + (n - least) = ap (joined_digits 0) t ∙ joined_more more (n - least) 0 h.within in
    let size : length after ≡ more + length rest = ap length is ∙ length-append (digits more (n - least)) rest ∙ ap (λ (t : ℕ). t + length rest) (length-digits more (n - least)) in
    let low = h.low in
    let few = h.few in
    let sum : least + joined_digits 0 (take more after) ≡ n = omega arith in
    record {
      some = some;
      low = omega arith;
      few = omega arith;
      long = omega arith;
      value = (λ i. sym e i + joined_digits 0 (take (sym f i) after)) ∙ sum;
      rest_is = (λ i. drop (sym f i) after) ∙ d;
    }

pub reads : (cs : List Class) (n first : ℕ) (bytes rest after : List ℕ) → AreClasses cs → n < 2 ^ 64 → bytes ≡ number_in cs 1 n ++ rest → bytes ≡ first ∷ after → Reads cs n first rest after
reads cs n first bytes rest after fits small is was =
    let h = stands cs 1 n fits small in
    let above = first_above cs 1 n in
    let both : first ∷ after ≡ first_of cs 1 n ∷ (more_of cs n ++ rest) = sym was ∙ is ∙ ap (λ (t : List ℕ). t ++ rest) (begins cs 1 n) in
    let e : first ≡ first_of cs 1 n = cc in
    let f : after ≡ more_of cs n ++ rest = cc in
    read_by cs _ _ n first rest after (ap (least_with cs 1) (sym e)) (ap (more_with cs 1) (sym e)) (omega arith)
    (subst (Stands _ _ n) h.written h) (f ∙ ap (λ (t : List ℕ). t ++ rest) h.written)

-- no number is spelled by no bytes
pub never_empty : (cs : List Class) (n : ℕ) (bytes rest : List ℕ) → bytes ≡ number_in cs 1 n ++ rest → bytes ≡ [] → ⊥
never_empty cs n bytes rest is none =
    let both : [] ≡ first_of cs 1 n ∷ (more_of cs n ++ rest) = sym none ∙ is ∙ ap (λ (t : List ℕ). t ++ rest) (begins cs 1 n) in
    cc

-- ---- joining digits

-- a number with fewer digits has room for one more
pub joins : (n i b : ℕ) → n < 2 ^ (8 * i) → b < 256 → n * 256 + b < 2 ^ (8 * (i + 1))
joins n i b h small =
    let e : 8 * (i + 1) ≡ 8 * suc i = omega arith in
    let f : 2 ^ (8 * (i + 1)) ≡ 256 * 2 ^ (8 * i) = ap (λ (t : ℕ). 2 ^ t) e ∙ weight_more i in
    omega arith

-- eight digits fit
pub joins_fit : (n i : ℕ) → n < 2 ^ (8 * i) → i < 8 → n * 256 < 2 ^ 64
joins_fit n i h small =
    let few : 8 * i ≤ 56 = omega arith in
    let e : 2 ^ (8 * i) ≤ 2 ^ 56 = pow_mono {i = 8 * i} {j = 56} few in
    omega arith
