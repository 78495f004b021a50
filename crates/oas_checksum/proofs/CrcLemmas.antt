-- The division of a byte is one look-up in the table.
use Rattle.std.proofs.Common.{◌≡◌, ℕ, zero, suc, ◌+◌, ◌*◌, ◌/◌, ◌%◌, ◌^◌, ◌<◌, map, get_or, refl, sym, ap, ◌∙◌, arith}
use Rattle.std.specs.Prelude.{bit_xor, if◌then◌else◌, ◌==◌}
use Rattle.std.specs.Int.{bit_at}
use Rattle.std.specs.Int.Bits.{xor_self, xor_zero_l, xor_zero_r}
use Rattle.std.specs.List.{range_with_len}
use Rattle.std.proofs.lemmas.Nat.{xor_comm, xor_shr, xor_block}
use Rattle.std.proofs.lemmas.Nat.Bits.{bit_at_xor, bit_at_lowest, same_from_bits}
use Rattle.std.proofs.Math.Nat.{pow-succ', mul_assoc}
use Rattle.std.proofs.lemmas.List.FromFn.{get_or-map-range_with_len}
use Rattle.oas_checksum.specs.Crc.{divisor, after_bit, after_bits, after_byte}
use Rattle.oas_checksum.specs.declared.table.TheConstants.{TABLE}

-- ---- sums of polynomials

sums : (a b c : ℕ) → ((a + b) % 2 + c) % 2 ≡ (a + (b + c) % 2) % 2
sums a b c = omega arith

pub xor_assoc : (a b c : ℕ) → bit_xor (bit_xor a b) c ≡ bit_xor a (bit_xor b c)
xor_assoc a b c = same_from_bits (bit_xor (bit_xor a b) c) (bit_xor a (bit_xor b c)) (λ i.
    bit_at_xor (bit_xor a b) c i ∙ ap (λ x. (x + bit_at c i) % 2) (bit_at_xor a b i) ∙ sums (bit_at a i) (bit_at b i) (bit_at c i)
    ∙ sym (bit_at_xor a (bit_xor b c) i ∙ ap (λ x. (bit_at a i + x) % 2) (bit_at_xor b c i)))

-- the sum of two sums, with the second and third parts exchanged
pub xor_exchange : (a b c d : ℕ) → bit_xor (bit_xor a b) (bit_xor c d) ≡ bit_xor (bit_xor a c) (bit_xor b d)
xor_exchange a b c d =
    xor_assoc a b (bit_xor c d) ∙ ap (bit_xor a) (sym (xor_assoc b c d) ∙ ap (λ x. bit_xor x d) (xor_comm b c) ∙ xor_assoc c b d)
    ∙ sym (xor_assoc a c (bit_xor b d))

-- ---- one bit

-- the divisor, subtracted where the bit is 1
abbrev pub taken : ℕ → ℕ → ℕ
taken bit rest = if bit == 1 then bit_xor rest divisor else rest

taken_sum : (a b x y : ℕ) → a < 2 → b < 2 → taken ((a + b) % 2) (bit_xor x y) ≡ bit_xor (taken a x) (taken b y)
taken_sum zero zero x y p q = refl
taken_sum zero (suc zero) x y p q = xor_assoc x y divisor
taken_sum (suc zero) zero x y p q =
    xor_assoc x y divisor ∙ ap (bit_xor x) (xor_comm y divisor) ∙ sym (xor_assoc x divisor y)
taken_sum (suc zero) (suc zero) x y p q =
    sym (xor_exchange x divisor y divisor ∙ ap (bit_xor (bit_xor x y)) (xor_self divisor) ∙ xor_zero_r (bit_xor x y))
taken_sum (suc (suc a)) b x y p q = absurd (omega arith)
taken_sum zero (suc (suc b)) x y p q = absurd (omega arith)
taken_sum (suc zero) (suc (suc b)) x y p q = absurd (omega arith)

xor_lowest : (x y : ℕ) → bit_xor x y % 2 ≡ (x % 2 + y % 2) % 2
xor_lowest x y =
    sym (bit_at_lowest (bit_xor x y)) ∙ bit_at_xor x y 0 ∙ ap (λ a. (a + bit_at y 0) % 2) (bit_at_lowest x)
    ∙ ap (λ b. (x % 2 + b) % 2) (bit_at_lowest y)

pub after_bit-xor : (x y : ℕ) → after_bit (bit_xor x y) ≡ bit_xor (after_bit x) (after_bit y)
after_bit-xor x y =
    ap (λ b. taken b (bit_xor x y / 2)) (xor_lowest x y) ∙ ap (taken ((x % 2 + y % 2) % 2)) (xor_shr x y 1)
    ∙ taken_sum (x % 2) (y % 2) (x / 2) (y / 2) (omega arith) (omega arith)

pub after_bit-double : (x : ℕ) → after_bit (2 * x) ≡ x
after_bit-double x =
    let even : 2 * x % 2 ≡ 0 = omega arith in
    let half : 2 * x / 2 ≡ x = omega arith in
    ap (λ b. taken b (2 * x / 2)) even ∙ half

-- ---- several bits

pub after_bits-xor : (n x y : ℕ) → after_bits n (bit_xor x y) ≡ bit_xor (after_bits n x) (after_bits n y)
unfolding after_bits
after_bits-xor zero x y = refl
after_bits-xor (suc n) x y = ap (after_bits n) (after_bit-xor x y) ∙ after_bits-xor n (after_bit x) (after_bit y)

pub after_bits-shift : (n x : ℕ) → after_bits n (2 ^ n * x) ≡ x
unfolding after_bits
after_bits-shift zero x = omega arith
after_bits-shift (suc n) x =
    let e : 2 ^ suc n * x ≡ 2 * (2 ^ n * x) = ap (λ p. p * x) (pow-succ' 2 n) ∙ mul_assoc 2 (2 ^ n) x in
    ap (λ z. after_bits n (after_bit z)) e ∙ ap (after_bits n) (after_bit-double (2 ^ n * x)) ∙ after_bits-shift n x

-- ---- one byte

split : (x : ℕ) → x ≡ bit_xor (x % 256) (256 * (x / 256))
split x =
    let both = xor_block 8 0 (x / 256) (x % 256) 0 (omega arith) (omega arith) in
    let low = xor_zero_r (x % 256) in
    let high = xor_zero_l (x / 256) in
    let a : 0 * 2 ^ 8 + x % 256 ≡ x % 256 = omega arith in
    let b : x / 256 * 2 ^ 8 + 0 ≡ 256 * (x / 256) = omega arith in
    sym (ap (λ z. bit_xor z (256 * (x / 256))) (sym a) ∙ ap (bit_xor (0 * 2 ^ 8 + x % 256)) (sym b) ∙ both
    ∙ ap (λ z. z * 2 ^ 8 + bit_xor (x % 256) 0) high ∙ ap (λ z. x / 256 * 2 ^ 8 + z) low ∙ (omega arith))

-- the division looks only at what leaves the register
pub after_eight : (x : ℕ) → after_bits 8 x ≡ bit_xor (x / 256) (after_bits 8 (x % 256))
after_eight x =
    ap (after_bits 8) (split x) ∙ after_bits-xor 8 (x % 256) (256 * (x / 256))
    ∙ ap (bit_xor (after_bits 8 (x % 256))) (after_bits-shift 8 (x / 256)) ∙ xor_comm (after_bits 8 (x % 256)) (x / 256)

pub high_part : (register byte : ℕ) → byte < 256 → bit_xor register byte / 256 ≡ register / 256
high_part register byte h =
    let none : byte / 256 ≡ 0 = omega arith in
    xor_shr register byte 8 ∙ ap (bit_xor (register / 256)) none ∙ xor_zero_r (register / 256)

-- each entry of the table is what division makes of its place
table_is : TABLE.now ≡ map (after_bits 8) (range_with_len 0 256)
unfolding after_bits
table_is = refl

pub table_at : (i : ℕ) → i < 256 → get_or TABLE.now i 0 ≡ after_bits 8 i
table_at i h = ap (λ t. get_or t i 0) table_is ∙ get_or-map-range_with_len (after_bits 8) 0 256 i i 0 h (omega arith)

pub by_table : (register byte : ℕ) → byte < 256 → bit_xor (register / 256) (get_or TABLE.now (bit_xor register byte % 256) 0) ≡ after_byte register byte
by_table register byte h =
    let x = bit_xor register byte in
    ap (bit_xor (register / 256)) (table_at (x % 256) (omega arith)) ∙ ap (λ z. bit_xor z (after_bits 8 (x % 256))) (sym (high_part register byte h))
    ∙ sym (after_eight x)
