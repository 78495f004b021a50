-- The division bit by bit is one of polynomials.
use Rattle.std.proofs.Common.{◌≡◌, ℕ, zero, suc, ◌+◌, ◌*◌, ◌/◌, ◌%◌, ◌^◌, ◌<◌, List, [], ◌∷◌, ◌++◌, map, length, refl, sym, ap, subst, ◌∙◌, arith}
use Rattle.std.specs.Prelude.{bit_xor, fold}
use Rattle.std.specs.Int.Bits.{xor_zero_l, xor_zero_r}
use Rattle.std.specs.List.{All}
use Rattle.std.proofs.Math.Nat.{mul_assoc, mul_comm}
use Rattle.std.proofs.lemmas.Nat.{xor_comm, xor_block, pow-add, pow_pos, xor_of_32}
use Rattle.std.proofs.lemmas.List.Elements.{All-append, All-map, All-weaker, All-nil, All-cons, All-head, All-tail}
use Rattle.oas_checksum.specs.Crc.{divisor, all_ones, after_bit, after_bits, after_byte, register_of}
use Rattle.oas_checksum.specs.Division.{whole_divisor, times, IsDivided, number_of, Leaves}
use Rattle.oas_checksum.proofs.CrcLemmas.{taken, xor_assoc}

-- ---- shifts

shift_sum : (n a b : ℕ) → 2 ^ n * bit_xor a b ≡ bit_xor (2 ^ n * a) (2 ^ n * b)
shift_sum n a b =
    let block = xor_block n a b 0 0 (omega (arith, pow_pos n)) (omega (arith, pow_pos n)) in
    let x : a * 2 ^ n + 0 ≡ 2 ^ n * a = omega (arith, mul_comm a (2 ^ n)) in
    let y : b * 2 ^ n + 0 ≡ 2 ^ n * b = omega (arith, mul_comm b (2 ^ n)) in
    let z : bit_xor a b * 2 ^ n + 0 ≡ 2 ^ n * bit_xor a b = omega (arith, mul_comm (bit_xor a b) (2 ^ n)) in
    sym z ∙ sym block ∙ ap (λ t. bit_xor t (b * 2 ^ n + 0)) x ∙ ap (bit_xor (2 ^ n * a)) y

shift_twice : (m n x : ℕ) → 2 ^ m * (2 ^ n * x) ≡ 2 ^ (m + n) * x
shift_twice m n x = sym (mul_assoc (2 ^ m) (2 ^ n) x) ∙ ap (λ p. p * x) (sym (pow-add 2 m n))

times-shift : (n : ℕ) (shifts : List ℕ) → 2 ^ n * times shifts ≡ times (map (λ s. n + s) shifts)
times-shift n [] = omega arith
times-shift n (s ∷ shifts) =
    shift_sum n (2 ^ s * whole_divisor) (times shifts) ∙ ap (λ x. bit_xor x (2 ^ n * times shifts)) (shift_twice n s whole_divisor)
    ∙ ap (bit_xor (2 ^ (n + s) * whole_divisor)) (times-shift n shifts)

times-append : (p q : List ℕ) → times (p ++ q) ≡ bit_xor (times p) (times q)
times-append [] q = refl
times-append (s ∷ p) q =
    ap (bit_xor (2 ^ s * whole_divisor)) (times-append p q) ∙ sym (xor_assoc (2 ^ s * whole_divisor) (times p) (times q))

-- ---- steps

-- the division of a dividend goes on with what is left of it
pub divided_then : (m n x y z : ℕ) → IsDivided m x y → IsDivided n y z → IsDivided (m + n) x z
divided_then m n x y z a b = record {
  quotient = a.quotient ++ map (λ s. m + s) b.quotient;
  short = All-append (λ s. s < m + n) a.quotient (map (λ s. m + s) b.quotient)
      (All-weaker (λ s. s < m) (λ s. s < m + n) (λ s h. omega arith) a.quotient a.short)
      (All-map (λ s. s < m + n) (λ s. m + s) b.quotient (All-weaker (λ s. s < n) (λ s. m + s < m + n) (λ s h. omega arith) b.quotient b.short));
  divided =
      a.divided ∙ ap (λ t. bit_xor (times a.quotient) (2 ^ m * t)) b.divided
      ∙ ap (bit_xor (times a.quotient)) (shift_sum m (times b.quotient) (2 ^ n * z) ∙ ap (λ t. bit_xor t (2 ^ m * (2 ^ n * z))) (times-shift m b.quotient)
      ∙ ap (bit_xor (times (map (λ s. m + s) b.quotient))) (shift_twice m n z))
      ∙ sym (xor_assoc (times a.quotient) (times (map (λ s. m + s) b.quotient)) (2 ^ (m + n) * z))
      ∙ ap (λ t. bit_xor t (2 ^ (m + n) * z)) (sym (times-append a.quotient (map (λ s. m + s) b.quotient)));
}

-- where no place of a quotient was looked for
divided_none : (x : ℕ) → IsDivided 0 x x
divided_none x = record { quotient = []; short = All-nil (λ s. s < 0); divided = omega arith }

-- what is not looked at is kept
divided_beside : (n x y z : ℕ) → IsDivided n x y → IsDivided n (bit_xor x (2 ^ n * z)) (bit_xor y z)
divided_beside n x y z h = record {
  quotient = h.quotient;
  short = h.short;
  divided =
      ap (λ t. bit_xor t (2 ^ n * z)) h.divided ∙ xor_assoc (times h.quotient) (2 ^ n * y) (2 ^ n * z)
      ∙ ap (bit_xor (times h.quotient)) (sym (shift_sum n y z));
}

-- ---- bits and bytes

divided_even : (half : ℕ) → IsDivided 1 (half * 2 + 0) half
divided_even half = record { quotient = []; short = All-nil (λ s. s < 1); divided = omega arith }

divided_odd : (half : ℕ) → IsDivided 1 (half * 2 + 1) (bit_xor half divisor)
divided_odd half =
    let block = xor_block 1 divisor (bit_xor half divisor) 1 0 (omega arith) (omega arith) in
    let back = ap (bit_xor divisor) (xor_comm half divisor) ∙ sym (xor_assoc divisor divisor half) in
    record {
      quotient = 0 ∷ [];
      short = All-cons (λ s. s < 1) 0 [] (omega arith) (All-nil (λ s. s < 1));
      divided = sym (ap (λ t. bit_xor (divisor * 2 + 1) t) (omega arith) ∙ block ∙ ap (λ t. t * 2 + 1) back);
    }

divided_by : (half bit : ℕ) → bit < 2 → IsDivided 1 (half * 2 + bit) (taken bit half)
divided_by half zero h = divided_even half
divided_by half (suc zero) h = divided_odd half
divided_by half (suc (suc bit)) h = absurd (omega arith)

divided_bit : (x : ℕ) → IsDivided 1 x (after_bit x)
divided_bit x =
    let whole : x / 2 * 2 + x % 2 ≡ x = omega arith in
    subst (λ y. IsDivided 1 y (after_bit x)) whole (divided_by (x / 2) (x % 2) (omega arith))

divided_bits : (n x : ℕ) → IsDivided n x (after_bits n x)
unfolding after_bits
divided_bits zero x = divided_none x
divided_bits (suc n) x =
    subst (λ m. IsDivided m x (after_bits n (after_bit x))) (omega arith) (divided_then 1 n x (after_bit x) (after_bits n (after_bit x)) (divided_bit x) (divided_bits n (after_bit x)))

divided_byte : (register byte rest : ℕ) → byte < 256 → IsDivided 8 (bit_xor (byte + 256 * rest) register) (bit_xor rest (after_byte register byte))
divided_byte register byte rest h =
    let both = divided_beside 8 (bit_xor register byte) (after_byte register byte) rest (divided_bits 8 (bit_xor register byte)) in
    let whole : byte + 256 * rest ≡ bit_xor byte (256 * rest) =
    sym (ap (λ t. bit_xor t (256 * rest)) (omega arith) ∙ ap (bit_xor (0 * 2 ^ 8 + byte)) (omega arith)
    ∙ xor_block 8 0 rest byte 0 (omega arith) (omega arith) ∙ ap (λ t. t * 2 ^ 8 + bit_xor byte 0) (xor_zero_l rest)
    ∙ ap (λ t. rest * 2 ^ 8 + t) (xor_zero_r byte) ∙ (omega arith)) in
    let ordered : bit_xor (bit_xor register byte) (2 ^ 8 * rest) ≡ bit_xor (byte + 256 * rest) register =
    xor_assoc register byte (256 * rest) ∙ ap (bit_xor register) (sym whole) ∙ xor_comm register (byte + 256 * rest) in
    subst (λ t. IsDivided 8 t (bit_xor rest (after_byte register byte))) ordered
    (subst (λ t. IsDivided 8 (bit_xor (bit_xor register byte) (2 ^ 8 * rest)) t) (xor_comm (after_byte register byte) rest) both)

-- ---- messages

abbrev IsByte : ℕ → Type 0
IsByte byte = byte < 256

divided_message : (bytes : List ℕ) (register : ℕ) → All IsByte bytes → IsDivided (8 * length bytes) (bit_xor (number_of bytes) register) (fold after_byte register bytes)
divided_message [] register h = divided_none register
divided_message (byte ∷ bytes) register h =
    subst (λ m. IsDivided m (bit_xor (number_of (byte ∷ bytes)) register) (fold after_byte register (byte ∷ bytes))) (omega arith)
    (divided_then 8 (8 * length bytes) (bit_xor (byte + 256 * number_of bytes) register) (bit_xor (number_of bytes) (after_byte register byte)) (fold after_byte register (byte ∷ bytes))
    (divided_byte register byte (number_of bytes) (All-head IsByte byte bytes h)) (divided_message bytes (after_byte register byte) (All-tail IsByte byte bytes h)))

-- ---- the remainder's powers

taken_below : (bit rest : ℕ) → bit < 2 → rest < 2 ^ 32 → taken bit rest < 2 ^ 32
taken_below zero rest h p = p
taken_below (suc zero) rest h p = xor_of_32 rest divisor p (omega arith)
taken_below (suc (suc bit)) rest h p = absurd (omega arith)

bits_below : (n x : ℕ) → x < 2 ^ 32 → after_bits n x < 2 ^ 32
unfolding after_bits
bits_below zero x h = h
bits_below (suc n) x h = bits_below n (after_bit x) (taken_below (x % 2) (x / 2) (omega arith) (omega arith))

message_below : (bytes : List ℕ) (register : ℕ) → All IsByte bytes → register < 2 ^ 32 → fold after_byte register bytes < 2 ^ 32
message_below [] register h p = p
message_below (byte ∷ bytes) register h p =
    let b = All-head IsByte byte bytes h in
    message_below bytes (after_byte register byte) (All-tail IsByte byte bytes h) (bits_below 8 (bit_xor register byte) (xor_of_32 register byte p (omega arith)))

pub leaves : (bytes : List ℕ) → All (λ byte. byte < 2 ^ 8) bytes → Leaves bytes (register_of bytes)
leaves bytes h = (divided_message bytes all_ones h, message_below bytes all_ones h (omega arith))
