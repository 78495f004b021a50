-- Eight bytes of two keys, compared as numbers.
use Rattle.std.specs.Prelude.{◌≡◌, ◌≢◌, ℕ, ◌+◌, ◌*◌, ◌<◌, ◌≤◌, List, [], ◌∷◌, ◌++◌, length, take, drop, zero, suc, refl}
use Rattle.std.specs.Int.{w64, from_be_bytes}
use Rattle.std.specs.List.{AllByRecursion}
use Rattle.std.specs.Cmp.{ranked, nat_cmp_is, nat_cmp_total, tied_itself}
use Rattle.std.specs.Cmp.Lexicographic.{slice_cmp}
use Rattle.std.specs.Ordering.{nat_cmp, ordering_then}
use Rattle.std.specs.declared.cmp.Ordering.TheVariants.{Less, Equal, Greater}
use Rattle.std.proofs.Common.{sym, ◌∙◌, ap, arith, get_or}

abbrev AreBytes : List ℕ → Type 0
AreBytes xs = AllByRecursion (λ x. x < 256) xs

bytes-take : (n : ℕ) (xs : List ℕ) → ((k : ℕ) → get_or xs k 0 < 256) → AreBytes (take n xs)
bytes-take zero xs h = tt
bytes-take (suc n) [] h = tt
bytes-take (suc n) (x ∷ xs) h = (h 0, bytes-take n xs (λ k. h (suc k)))

-- a number, followed by bytes, the first of them highest
abbrev number_on : ℕ → List ℕ → ℕ
number_on n [] = n
number_on n (x ∷ xs) = number_on (n * 256 + x) xs

less_on : (m n : ℕ) (xs ys : List ℕ) → length xs ≡ length ys → AreBytes xs → m < n → number_on m xs < number_on n ys
less_on m n [] [] l b h = h
less_on m n [] (y ∷ ys) l b h = absurd (omega (arith, l))
less_on m n (x ∷ xs) [] l b h = absurd (omega (arith, l))
less_on m n (x ∷ xs) (y ∷ ys) l b h = less_on (m * 256 + x) (n * 256 + y) xs ys (omega (arith, l)) b.1 (omega (arith, b.0, h))

-- equally many bytes are ordered as their numbers, and where these tie what follows decides
order_on : (n : ℕ) (xs ys us vs : List ℕ) → length xs ≡ length ys → AreBytes xs → AreBytes ys
    → slice_cmp nat_cmp (xs ++ us) (ys ++ vs) ≡ ordering_then (nat_cmp (number_on n xs) (number_on n ys)) (slice_cmp nat_cmp us vs)
order_on n [] [] us vs l a b = sym (ap (λ r. ordering_then r (slice_cmp nat_cmp us vs)) (tied_itself nat_cmp_total n))
order_on n [] (y ∷ ys) us vs l a b = absurd (omega (arith, l))
order_on n (x ∷ xs) [] us vs l a b = absurd (omega (arith, l))
order_on n (x ∷ xs) (y ∷ ys) us vs l a b =
    let long : length xs ≡ length ys = omega (arith, l) in
    elim (nat_cmp x y) as (λ r. nat_cmp x y ≡ r → ordering_then r (slice_cmp nat_cmp (xs ++ us) (ys ++ vs))
    ≡ ordering_then (nat_cmp (number_on (n * 256 + x) xs) (number_on (n * 256 + y) ys)) (slice_cmp nat_cmp us vs)) [
      | Less ↦ λ e.
          let h : x < y = ranked x y Less (sym e) in
          let k = less_on (n * 256 + x) (n * 256 + y) xs ys long a.1 (omega (arith, h)) in
          ap (λ r. ordering_then r (slice_cmp nat_cmp us vs)) (nat_cmp_is (number_on (n * 256 + x) xs) (number_on (n * 256 + y) ys) Less k)
      | Equal ↦ λ e.
          let h : x ≡ y = ranked x y Equal (sym e) in
          order_on (n * 256 + x) xs ys us vs long a.1 b.1
          ∙ ap (λ (z : ℕ). ordering_then (nat_cmp (number_on (n * 256 + x) xs) (number_on (n * 256 + z) ys)) (slice_cmp nat_cmp us vs)) h
      | Greater ↦ λ e.
          let h : y < x = ranked x y Greater (sym e) in
          let k = less_on (n * 256 + y) (n * 256 + x) ys xs (sym long) b.1 (omega (arith, h)) in
          ap (λ r. ordering_then r (slice_cmp nat_cmp us vs)) (nat_cmp_is (number_on (n * 256 + x) xs) (number_on (n * 256 + y) ys) Greater k)
    ] refl

-- the first eight, and the rest
record Eight (xs : List ℕ) : Type 0 where
  long : length (take 8 xs) ≡ 8
  whole : xs ≡ take 8 xs ++ drop 8 xs
  number : from_be_bytes w64 (take 8 xs) ≡ number_on 0 (take 8 xs)

eight : (xs : List ℕ) → 8 ≤ length xs → Eight xs
eight [] h = absurd (omega (arith, h))
eight (a ∷ []) h = absurd (omega (arith, h))
eight (a ∷ b ∷ []) h = absurd (omega (arith, h))
eight (a ∷ b ∷ c ∷ []) h = absurd (omega (arith, h))
eight (a ∷ b ∷ c ∷ d ∷ []) h = absurd (omega (arith, h))
eight (a ∷ b ∷ c ∷ d ∷ e ∷ []) h = absurd (omega (arith, h))
eight (a ∷ b ∷ c ∷ d ∷ e ∷ f ∷ []) h = absurd (omega (arith, h))
eight (a ∷ b ∷ c ∷ d ∷ e ∷ f ∷ g ∷ []) h = absurd (omega (arith, h))
eight (a ∷ b ∷ c ∷ d ∷ e ∷ f ∷ g ∷ i ∷ xs) h = record { long = refl; whole = refl; number = omega arith }

order_by : (xs ys : List ℕ) (m n : ℕ) → ((k : ℕ) → get_or xs k 0 < 256) → ((k : ℕ) → get_or ys k 0 < 256) → 8 ≤ length xs → 8 ≤ length ys
    → m ≡ from_be_bytes w64 (take 8 xs) → n ≡ from_be_bytes w64 (take 8 ys)
    → slice_cmp nat_cmp xs ys ≡ ordering_then (nat_cmp m n) (slice_cmp nat_cmp (drop 8 xs) (drop 8 ys))
order_by xs ys m n a b h k e f =
    let one = eight xs h in
    let other = eight ys k in
    (λ i. slice_cmp nat_cmp (one.whole i) (other.whole i))
    ∙ order_on 0 (take 8 xs) (take 8 ys) (drop 8 xs) (drop 8 ys) (one.long ∙ sym other.long) (bytes-take 8 xs a) (bytes-take 8 ys b)
    ∙ sym (λ i. ordering_then (nat_cmp ((e ∙ one.number) i) ((f ∙ other.number) i)) (slice_cmp nat_cmp (drop 8 xs) (drop 8 ys)))

-- where the numbers differ, they decide
pub order_apart : (xs ys : List ℕ) (m n : ℕ) → ((k : ℕ) → get_or xs k 0 < 256) → ((k : ℕ) → get_or ys k 0 < 256) → 8 ≤ length xs → 8 ≤ length ys
    → m ≡ from_be_bytes w64 (take 8 xs) → n ≡ from_be_bytes w64 (take 8 ys) → m ≢ n → nat_cmp m n ≡ slice_cmp nat_cmp xs ys
order_apart xs ys m n a b h k e f d =
    let rest = slice_cmp nat_cmp (drop 8 xs) (drop 8 ys) in
    let is : ordering_then (nat_cmp m n) rest ≡ nat_cmp m n =
    elim (nat_cmp m n) as (λ r. nat_cmp m n ≡ r → ordering_then r rest ≡ r) [
      | Less ↦ λ u. refl
      | Equal ↦ λ u. absurd (d (ranked m n Equal (sym u)))
      | Greater ↦ λ u. refl
    ] refl in
    sym (order_by xs ys m n a b h k e f ∙ is)

-- and where they are the same, what follows does
pub order_behind : (xs ys : List ℕ) (m n : ℕ) → ((k : ℕ) → get_or xs k 0 < 256) → ((k : ℕ) → get_or ys k 0 < 256) → 8 ≤ length xs → 8 ≤ length ys
    → m ≡ from_be_bytes w64 (take 8 xs) → n ≡ from_be_bytes w64 (take 8 ys) → m ≡ n → slice_cmp nat_cmp (drop 8 xs) (drop 8 ys) ≡ slice_cmp nat_cmp xs ys
order_behind xs ys m n a b h k e f s =
    let rest = slice_cmp nat_cmp (drop 8 xs) (drop 8 ys) in
    let is : nat_cmp m n ≡ Equal = ap (λ (z : ℕ). nat_cmp z n) s ∙ tied_itself nat_cmp_total n in
    sym (order_by xs ys m n a b h k e f ∙ ap (λ r. ordering_then r rest) is)
