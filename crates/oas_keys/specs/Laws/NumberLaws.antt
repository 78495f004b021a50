-- Numbers are ordered as their bytes are, whatever follows them.
use Rattle.std.proofs.Common.{◌≡◌, ℕ, zero, suc, ◌+◌, ◌-◌, ◌*◌, ◌/◌, ◌%◌, ◌^◌, ◌<◌, ◌≤◌, nat_lt, cond, ℤ, pos, negsuc, unsigned_abs, ◌+ℤ◌, ◌<ℤ◌, ◌≤ℤ◌, true, false}
use Rattle.std.proofs.Common.{◌↔◌, ◌⊎◌, List, [], ◌∷◌, ◌++◌, refl, sym, ap, ◌∙◌, ⊎_elim, arith}
use Rattle.std.specs.Ordering.{nat_cmp, int_cmp, ordering_then, MatchOrdering}
use Rattle.std.specs.declared.cmp.Ordering.{Ordering}
use Rattle.std.specs.declared.cmp.Ordering.TheVariants.{Less, Equal, Greater}
use Rattle.std.specs.Cmp.{nat_cmp_is, int_cmp_is, ranks}
use Rattle.std.specs.Cmp.Lexicographic.{slice_cmp}
use Rattle.std.proofs.lemmas.Bool.{cases_order, cases_lt, lt-ltb, cond-true, cond-false, le-ltb}
use Rattle.std.proofs.lemmas.Nat.{div-add-mod', mod_below}
use Rattle.std.proofs.lemmas.Nat.{pow_pos}
use Rattle.std.proofs.lemmas.Int.{ints}
use Rattle.std.proofs.Math.Nat.{mul-le-mul_right, div-lt_iff_lt-mul}
use Rattle.oas_keys.specs.declared.classes.Class.{Class}
use Rattle.oas_keys.specs.Numbers.{digits, AreClasses, room, first_of, more_of, number_in, unsigned_classes, signed_classes, unsigned_key, signed_key, signed_start, place, IsStep}

-- two codes followed by anything are ordered by what they encode, and then by what follows
abbrev pub Decided : Ordering → List ℕ → List ℕ → Type 0
Decided o a b = (us vs : List ℕ) → slice_cmp nat_cmp (a ++ us) (b ++ vs) ≡ ordering_then o (slice_cmp nat_cmp us vs)

less : (n m : ℕ) → n < m → nat_cmp n m ≡ Less
less n m h = sym (nat_cmp_is n m Less h)

more : (n m : ℕ) → m < n → nat_cmp n m ≡ Greater
more n m h = sym (nat_cmp_is n m Greater h)

same : (n : ℕ) → nat_cmp n n ≡ Equal
same n = sym (nat_cmp_is n n Equal refl)

-- a number with a lower quotient is lower
lower : (a b c d p : ℕ) → b < p → a < c → a * p + b < c * p + d
lower a b c d p h l =
    let k : suc a * p ≤ c * p = mul-le-mul_right p (omega arith) in
    let e : suc a * p ≡ a * p + p = omega arith in
    omega arith

-- two numbers are compared by their quotients, and then by their rests
pub by_parts : (a b c d p : ℕ) → b < p → d < p
    → nat_cmp (a * p + b) (c * p + d) ≡ ordering_then (nat_cmp a c) (nat_cmp b d)
by_parts a b c d p h k =
    ⊎_elim
    (λ (e : a ≡ c). ⊎_elim
    (λ (f : b ≡ d).
    let g : a * p + b ≡ c * p + d = cc in
    rw (e, f) (same (c * p + d) ∙ sym (ap (λ o. ordering_then o (nat_cmp d d)) (same c) ∙ same d)))
    (λ (s : (b < d) ⊎ (d < b)). ⊎_elim
    (λ (f : b < d).
    let g : a * p + b < c * p + d = rw e (omega arith) in
    less _ _ g ∙ sym (rw e (ap (λ o. ordering_then o (nat_cmp b d)) (same c) ∙ less b d f)))
    (λ (f : d < b).
    let g : c * p + d < a * p + b = rw e (omega arith) in
    more _ _ g ∙ sym (rw e (ap (λ o. ordering_then o (nat_cmp b d)) (same c) ∙ more b d f)))
    s)
    (cases_order b d))
    (λ (s : (a < c) ⊎ (c < a)). ⊎_elim
    (λ (f : a < c). less _ _ (lower a b c d p h f) ∙ sym (ap (λ o. ordering_then o (nat_cmp b d)) (less a c f)))
    (λ (f : c < a). more _ _ (lower c d a b p k f) ∙ sym (ap (λ o. ordering_then o (nat_cmp b d)) (more a c f)))
    s)
    (cases_order a c)

-- the same for any two numbers
by_division : (n m p : ℕ) → 0 < p → nat_cmp n m ≡ ordering_then (nat_cmp (n / p) (m / p)) (nat_cmp (n % p) (m % p))
by_division n m p some =
    let parts = by_parts (n / p) (n % p) (m / p) (m % p) p (mod_below n p some) (mod_below m p some) in
    let e : n / p * p + n % p ≡ n = div-add-mod' n p in
    let f : m / p * p + m % p ≡ m = div-add-mod' m p in
    ap (λ t. nat_cmp t m) (sym e) ∙ ap (λ t. nat_cmp (n / p * p + n % p) t) (sym f) ∙ parts

-- the comparison of three parts
pub then_assoc : (r s t : Ordering) → ordering_then (ordering_then r s) t ≡ ordering_then r (ordering_then s t)
then_assoc Less s t = refl
then_assoc Equal s t = refl
then_assoc Greater s t = refl

-- digits are ordered as the numbers are
digits_order : (k n m : ℕ) → n < 2 ^ (8 * k) → m < 2 ^ (8 * k) → Decided (nat_cmp n m) (digits k n) (digits k m)
digits_order zero n m p q us vs =
    let e : n ≡ 0 = omega arith in
    let f : m ≡ 0 = omega arith in
    let g : nat_cmp n m ≡ Equal = rw (e, f) refl in
    sym (ap (λ (o : Ordering). ordering_then o (slice_cmp nat_cmp us vs)) g)
digits_order (suc k) n m p q us vs =
    let w : ℕ = 2 ^ (8 * k) in
    let some : 0 < w = pow_pos (8 * k) in
    let rest = digits_order k (n % w) (m % w) (mod_below n w some) (mod_below m w some) us vs in
    ap (λ (o : Ordering). ordering_then (nat_cmp (n / w) (m / w)) o) rest
    ∙ sym (ap (λ (o : Ordering). ordering_then o (slice_cmp nat_cmp us vs)) (by_division n m w some) ∙ then_assoc (nat_cmp (n / w) (m / w)) (nat_cmp (n % w) (m % w)) (slice_cmp nat_cmp us vs))

-- a number begins with its first byte
pub begins : (cs : List Class) (first n : ℕ) → number_in cs first n ≡ first_of cs first n ∷ more_of cs n
begins [] first n = refl
begins (c ∷ cs) first n =
    elim (nat_lt n c.size) as (λ b. cond b ((first + n / 2 ^ (8 * c.more)) ∷ digits c.more (n % 2 ^ (8 * c.more))) (number_in cs (first + c.firsts) (n - c.size))
    ≡ cond b (first + n / 2 ^ (8 * c.more)) (first_of cs (first + c.firsts) (n - c.size)) ∷ cond b (digits c.more (n % 2 ^ (8 * c.more))) (more_of cs (n - c.size))) [
      | true ↦ refl
      | false ↦ begins cs (first + c.firsts) (n - c.size)
    ]

-- which is not below those of the classes
pub first_above : (cs : List Class) (first n : ℕ) → first ≤ first_of cs first n
first_above [] first n = omega arith
first_above (c ∷ cs) first n =
    elim (nat_lt n c.size) as (λ b. first ≤ cond b (first + n / 2 ^ (8 * c.more)) (first_of cs (first + c.firsts) (n - c.size))) [
      | true ↦ omega arith
      | false ↦ let h = first_above cs (first + c.firsts) (n - c.size) in omega arith
    ]

-- a number of the class has a first byte of the class
pub first_within : (c : Class) (n : ℕ) → c.size ≤ c.firsts * 2 ^ (8 * c.more) → n < c.size → n / 2 ^ (8 * c.more) < c.firsts
first_within c n fits h =
    let within : n < c.firsts * 2 ^ (8 * c.more) = omega arith in
    let law : (n / 2 ^ (8 * c.more) < c.firsts) ↔ (n < c.firsts * 2 ^ (8 * c.more)) = div-lt_iff_lt-mul (pow_pos (8 * c.more)) in
    law.1 within

-- where a byte is lower, so is the list that it begins
byte_below : (a b : ℕ) (xs ys us vs : List ℕ) → a < b → slice_cmp nat_cmp ((a ∷ xs) ++ us) ((b ∷ ys) ++ vs) ≡ Less
byte_below a b xs ys us vs h = ap (λ (o : Ordering). ordering_then o (slice_cmp nat_cmp (xs ++ us) (ys ++ vs))) (less a b h)

byte_above : (a b : ℕ) (xs ys us vs : List ℕ) → b < a → slice_cmp nat_cmp ((a ∷ xs) ++ us) ((b ∷ ys) ++ vs) ≡ Greater
byte_above a b xs ys us vs h = ap (λ (o : Ordering). ordering_then o (slice_cmp nat_cmp (xs ++ us) (ys ++ vs))) (more a b h)

-- adding the same on both sides changes no comparison
pub added : (a n m : ℕ) → nat_cmp (a + n) (a + m) ≡ nat_cmp n m
added a n m =
    ⊎_elim
    (λ (e : n ≡ m). rw e (same (a + m) ∙ sym (same m)))
    (λ (s : (n < m) ⊎ (m < n)). ⊎_elim
    (λ (f : n < m). less (a + n) (a + m) (omega arith) ∙ sym (less n m f))
    (λ (f : m < n). more (a + n) (a + m) (omega arith) ∙ sym (more n m f))
    s)
    (cases_order n m)

-- nor does subtracting it
taken : (a n m : ℕ) → a ≤ n → a ≤ m → nat_cmp (n - a) (m - a) ≡ nat_cmp n m
taken a n m p q =
    let e : a + (n - a) ≡ n = omega arith in
    let f : a + (m - a) ≡ m = omega arith in
    let g = added a (n - a) (m - a) in
    sym g ∙ rw (e, f) refl

-- two numbers of one class
within_order : (c : Class) (first n m : ℕ)
    → Decided (nat_cmp n m) ((first + n / 2 ^ (8 * c.more)) ∷ digits c.more (n % 2 ^ (8 * c.more))) ((first + m / 2 ^ (8 * c.more)) ∷ digits c.more (m % 2 ^ (8 * c.more)))
within_order c first n m us vs =
    let w : ℕ = 2 ^ (8 * c.more) in
    let some : 0 < w = pow_pos (8 * c.more) in
    let rest = digits_order c.more (n % w) (m % w) (mod_below n w some) (mod_below m w some) us vs in
    ap (λ (o : Ordering). ordering_then o (slice_cmp nat_cmp (digits c.more (n % w) ++ us) (digits c.more (m % w) ++ vs))) (added first (n / w) (m / w))
    ∙ ap (λ (o : Ordering). ordering_then (nat_cmp (n / w) (m / w)) o) rest
    ∙ sym (ap (λ (o : Ordering). ordering_then o (slice_cmp nat_cmp us vs)) (by_division n m w some) ∙ then_assoc (nat_cmp (n / w) (m / w)) (nat_cmp (n % w) (m % w)) (slice_cmp nat_cmp us vs))

-- a number of the first class
in_class : (c : Class) (cs : List Class) (first n : ℕ) → n < c.size
    → number_in (c ∷ cs) first n ≡ (first + n / 2 ^ (8 * c.more)) ∷ digits c.more (n % 2 ^ (8 * c.more))
in_class c cs first n h = cond-true _ _ _ (lt-ltb n c.size h)

-- a number of those after it
past_class : (c : Class) (cs : List Class) (first n : ℕ) → c.size ≤ n
    → number_in (c ∷ cs) first n ≡ number_in cs (first + c.firsts) (n - c.size)
past_class c cs first n h = cond-false _ _ _ (le-ltb n c.size h)

-- numbers are ordered as their bytes are
pub number_order : (cs : List Class) (first n m : ℕ) → AreClasses cs → n < room cs → m < room cs
    → Decided (nat_cmp n m) (number_in cs first n) (number_in cs first m)
number_order [] first n m fits p q us vs =
    ap (λ (o : Ordering). ordering_then o (slice_cmp nat_cmp (digits 8 n ++ us) (digits 8 m ++ vs))) (same first)
    ∙ digits_order 8 n m p q us vs
number_order (c ∷ cs) first n m fits p q us vs =
    let w : ℕ = 2 ^ (8 * c.more) in
    ⊎_elim
    (λ (a : n < c.size). ⊎_elim
    (λ (b : m < c.size).
    rw (in_class c cs first n a, in_class c cs first m b) (within_order c first n m us vs))
    (λ (b : c.size ≤ m).
    let h = first_above cs (first + c.firsts) (m - c.size) in
    let k = first_within c n fits.0 a in
    let l : first + n / w < first_of cs (first + c.firsts) (m - c.size) = omega arith in
    rw (in_class c cs first n a, past_class c cs first m b, begins cs (first + c.firsts) (m - c.size))
    (byte_below _ _ (digits c.more (n % w)) (more_of cs (m - c.size)) us vs l ∙ sym (ap (λ (o : Ordering). ordering_then o (slice_cmp nat_cmp us vs)) (less n m (omega arith)))))
    (cases_lt m c.size))
    (λ (a : c.size ≤ n). ⊎_elim
    (λ (b : m < c.size).
    let h = first_above cs (first + c.firsts) (n - c.size) in
    let k = first_within c m fits.0 b in
    let l : first + m / w < first_of cs (first + c.firsts) (n - c.size) = omega arith in
    rw (past_class c cs first n a, in_class c cs first m b, begins cs (first + c.firsts) (n - c.size))
    (byte_above _ _ (more_of cs (n - c.size)) (digits c.more (m % w)) us vs l ∙ sym (ap (λ (o : Ordering). ordering_then o (slice_cmp nat_cmp us vs)) (more n m (omega arith)))))
    (λ (b : c.size ≤ m).
    rw (past_class c cs first n a, past_class c cs first m b)
    (number_order cs (first + c.firsts) (n - c.size) (m - c.size) fits.1.1 (omega arith) (omega arith) us vs
    ∙ ap (λ (o : Ordering). ordering_then o (slice_cmp nat_cmp us vs)) (taken c.size n m a b)))
    (cases_lt m c.size))
    (cases_lt n c.size)

-- the classes that are used
pub unsigned_fit : AreClasses unsigned_classes
unsigned_fit = (omega arith, (omega arith, (omega arith, (omega arith, (omega arith, (omega arith, (omega arith, (omega arith, (omega arith, (omega arith, tt))))))))))

pub signed_fit : AreClasses signed_classes
signed_fit = (
  omega arith,
  (
    omega arith,
    (
      omega arith,
      (
        omega arith,
        (
          omega arith,
          (
            omega arith,
            (
              omega arith,
              (
                omega arith,
                (
                  omega arith,
                  (
                    omega arith,
                    (omega arith, (omega arith, (omega arith, (omega arith, (omega arith, (omega arith, (omega arith, (omega arith, (omega arith, (omega arith, tt)))))))))),
                  ),
                ),
              ),
            ),
          ),
        ),
      ),
    ),
  ),
)

-- what an unsigned number is written as
pub unsigned_is : (n : ℕ) → unsigned_key n ≡ number_in unsigned_classes 1 n
unfolding unsigned_key
unsigned_is n = refl

-- and a signed one
pub signed_is : (x : ℤ) → signed_key x ≡ number_in signed_classes 1 (place x)
unfolding signed_key
signed_is x = refl

-- unsigned numbers are ordered as their bytes are
pub unsigned_order : (n m : ℕ) → n < 2 ^ 64 → m < 2 ^ 64 → Decided (nat_cmp n m) (unsigned_key n) (unsigned_key m)
unsigned_order n m p q us vs =
    rw (unsigned_is n, unsigned_is m) (number_order unsigned_classes 1 n m unsigned_fit (omega arith) (omega arith) us vs)

-- a number is its place, counted from the start
place_from : (s : ℕ) (x : ℤ) → negsuc s ≤ℤ x → pos (unsigned_abs (x +ℤ pos (s + 1))) ≡ x +ℤ pos (s + 1)
place_from s x p = grind (arith, ints)

-- places are ordered as the numbers are
places_order : (s : ℕ) (x y : ℤ) (a b : ℕ) → pos a ≡ x +ℤ pos s → pos b ≡ y +ℤ pos s → nat_cmp a b ≡ int_cmp x y
places_order s x y a b p q = int_cmp_is x y (nat_cmp a b) (match_of (nat_cmp a b) (ranks a b))
  where
    match_of : (r : Ordering) → MatchOrdering r (a < b) (a ≡ b) (b < a) → MatchOrdering r (x <ℤ y) (x ≡ y) (y <ℤ x)
    match_of Less h = omega (arith, ints)
    match_of Equal h = omega (arith, ints)
    match_of Greater h = omega (arith, ints)

-- a step's place is within the classes
pub place_is : (x : ℤ) → IsStep x → (pos (place x) ≡ x +ℤ pos signed_start) × (place x < room signed_classes)
place_is x step =
    let e : pos (place x) ≡ x +ℤ pos signed_start = place_from (signed_start - 1) x (omega (arith, ints, step.above)) in
    (e, omega (arith, ints, step.below))

-- signed numbers are ordered as their bytes are
pub signed_order : (x y : ℤ) → IsStep x → IsStep y → Decided (int_cmp x y) (signed_key x) (signed_key y)
signed_order x y p q us vs =
    let a = place_is x p in
    let b = place_is y q in
    rw (signed_is x, signed_is y)
    (number_order signed_classes 1 (place x) (place y) signed_fit a.1 b.1 us vs
    ∙ ap (λ (o : Ordering). ordering_then o (slice_cmp nat_cmp us vs)) (places_order signed_start x y (place x) (place y) a.0 b.0))

-- a byte that isn't 0, and what follows it
pub record Begun (key : List ℕ) : Type 0 where
  pub byte : ℕ
  pub rest : List ℕ
  pub some : 0 < byte
  pub is : key ≡ byte ∷ rest

-- no signed number begins with 0
pub signed_begins : (x : ℤ) → Begun (signed_key x)
signed_begins x =
    let h = first_above signed_classes 1 (place x) in
    record {
      byte = first_of signed_classes 1 (place x);
      rest = more_of signed_classes (place x);
      some = omega arith;
      is = signed_is x ∙ begins signed_classes 1 (place x);
    }
