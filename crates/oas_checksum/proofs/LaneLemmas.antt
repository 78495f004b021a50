-- Vectors of four words, lane by lane.
use Rattle.std.proofs.Common.{◌≡◌, ℕ, ◌+◌, ◌-◌, ◌*◌, ◌/◌, ◌%◌, ◌^◌, ◌<◌, ◌≤◌, ◌++◌, List, [], ◌∷◌, length, map, slice_index, take, drop, length-drop, bit_or, bit_xor, refl, sym, ap, ◌∙◌, arith, Fits, w8, w32}
use Rattle.std.proofs.lemmas.List.{get_or_append_left, get_or-drop, get_or-take, length-take-le}
use Rattle.std.proofs.lemmas.Simd.{get_or-chunk, length-chunk}
use Rattle.std.specs.Int.{from_be_bytes}
use Rattle.std.specs.Simd.Lanes.{Each1, chunk, digits_l, number_l, zip2}
use Rattle.sha2.specs.Sha256.{small_sigma0, small_sigma1, word_at}
use Rattle.oas_checksum.specs.Schedule.{with_high, with_low, words}
use Rattle.oas_checksum.proofs.WordLemmas.{doubled_sigma1}

-- what holds of each list of four
pub of_four : (P : List ℕ → Type 0) → ((a b c d : ℕ) → P (a ∷ b ∷ c ∷ d ∷ [])) → (xs : List ℕ) → length xs ≡ 4 → P xs
of_four P all (a ∷ b ∷ c ∷ d ∷ []) four = all a b c d
of_four P all [] four = absurd (omega arith)
of_four P all (a ∷ []) four = absurd (omega arith)
of_four P all (a ∷ b ∷ []) four = absurd (omega arith)
of_four P all (a ∷ b ∷ c ∷ []) four = absurd (omega arith)
of_four P all (a ∷ b ∷ c ∷ d ∷ e ∷ more) four = absurd (omega arith)

abbrev pub lowered : List ℕ → ℕ → List ℕ
lowered xs k = zip2 (λ x n. x / 2 ^ n) xs (k ∷ k ∷ k ∷ k ∷ [])

abbrev pub raised : List ℕ → ℕ → List ℕ
raised xs k = zip2 (λ x n. x * 2 ^ n % 2 ^ 32) xs (k ∷ k ∷ k ∷ k ∷ [])

pub sigma0_lanes : (xs : List ℕ) → length xs ≡ 4
    → zip2 bit_xor (zip2 bit_xor (zip2 bit_or (lowered xs 7) (raised xs 25)) (zip2 bit_or (lowered xs 18) (raised xs 14))) (lowered xs 3)
    ≡ map small_sigma0 xs
sigma0_lanes = of_four _ (λ a b c d. refl)

-- four lanes are the same where each is
pub same_four : (a b c d p q r s : ℕ) → a ≡ p → b ≡ q → c ≡ r → d ≡ s → a ∷ b ∷ c ∷ d ∷ [] ≡ p ∷ q ∷ r ∷ s ∷ []
same_four a b c d p q r s ea eb ec ed = rw (ea, eb, ec, ed) refl

abbrev pub rotated_pairs : List ℕ → List ℕ
rotated_pairs y = zip2 bit_xor (zip2 (λ v n. v / 2 ^ n) y (17 ∷ 17 ∷ [])) (zip2 (λ v n. v / 2 ^ n) y (19 ∷ 19 ∷ []))

-- σ 1 of two words, from pairs of a word beside itself
pub sigma1_lanes : (x y z : List ℕ) (a b : ℕ) → x ≡ a ∷ a ∷ b ∷ b ∷ [] → Each1 (Fits w32) x
    → y ≡ (slice_index x 0 + 2 ^ 32 * slice_index x 1) ∷ (slice_index x 2 + 2 ^ 32 * slice_index x 3) ∷ []
    → z ≡ slice_index (rotated_pairs y) 0 % 2 ^ 32 ∷ slice_index (rotated_pairs y) 0 / 2 ^ 32 ∷ slice_index (rotated_pairs y) 1 % 2 ^ 32 ∷ slice_index (rotated_pairs y) 1 / 2 ^ 32 ∷ []
    → (slice_index (zip2 bit_xor z (lowered x 10)) 0 ≡ small_sigma1 a) × (slice_index (zip2 bit_xor z (lowered x 10)) 2 ≡ small_sigma1 b)
sigma1_lanes x y z a b ex fits ey ez =
    let f : Each1 (Fits w32) (a ∷ a ∷ b ∷ b ∷ []) = rw ex at fits in
    rw (ez, ey, ex) (doubled_sigma1 a f.0.fits, doubled_sigma1 b f.1.1.0.fits)

-- the two words that are spread over four lanes
pub spread_last : (d : List ℕ) → length d ≡ 4
    → slice_index (d ++ d) 2 ∷ slice_index (d ++ d) 2 ∷ slice_index (d ++ d) 3 ∷ slice_index (d ++ d) 3 ∷ []
    ≡ slice_index d 2 ∷ slice_index d 2 ∷ slice_index d 3 ∷ slice_index d 3 ∷ []
spread_last = of_four _ (λ a b c d. refl)

pub spread_first : (d : List ℕ) → length d ≡ 4
    → slice_index (d ++ d) 0 ∷ slice_index (d ++ d) 0 ∷ slice_index (d ++ d) 1 ∷ slice_index (d ++ d) 1 ∷ []
    ≡ slice_index d 0 ∷ slice_index d 0 ∷ slice_index d 1 ∷ slice_index d 1 ∷ []
spread_first = of_four _ (λ a b c d. refl)

abbrev pub plus : List ℕ → List ℕ → List ℕ
plus = zip2 (λ x y. (x + y) % 2 ^ 32)

abbrev pub with_zeros : List ℕ → List ℕ
with_zeros sigma = sigma ++ 0 ∷ 0 ∷ 0 ∷ 0 ∷ []

-- σ 1 added to the first two lanes
pub low_lanes : (d sigma : List ℕ) → length sigma ≡ 4
    → slice_index sigma 0 ≡ small_sigma1 (slice_index d 2) → slice_index sigma 2 ≡ small_sigma1 (slice_index d 3)
    → (known : List ℕ) → length known ≡ 4 → Each1 (Fits w32) known
    → plus known (slice_index (with_zeros sigma) 0 ∷ slice_index (with_zeros sigma) 2 ∷ slice_index (with_zeros sigma) 4 ∷ slice_index (with_zeros sigma) 5 ∷ [])
    ≡ with_low known d
low_lanes d =
    of_four (λ sigma. slice_index sigma 0 ≡ small_sigma1 (slice_index d 2) → slice_index sigma 2 ≡ small_sigma1 (slice_index d 3)
    → (known : List ℕ) → length known ≡ 4 → Each1 (Fits w32) known
    → plus known (slice_index (with_zeros sigma) 0 ∷ slice_index (with_zeros sigma) 2 ∷ slice_index (with_zeros sigma) 4 ∷ slice_index (with_zeros sigma) 5 ∷ [])
    ≡ with_low known d)
    (λ s0 s1 s2 s3 e0 e2. of_four (λ known. Each1 (Fits w32) known → plus known (s0 ∷ s2 ∷ 0 ∷ 0 ∷ []) ≡ with_low known d)
    (λ k0 k1 k2 k3 fits.
    let third : k2 < 2 ^ 32 = fits.1.1.0.fits in
    let fourth : k3 < 2 ^ 32 = fits.1.1.1.0.fits in
    same_four _ _ _ _ _ _ _ _ (rw e0 refl) (rw e2 refl) (omega arith) (omega arith)))

-- σ 1 added to the last two lanes
pub high_lanes : (sigma : List ℕ) → length sigma ≡ 4 → (low : List ℕ) → length low ≡ 4 → Each1 (Fits w32) low
    → slice_index sigma 0 ≡ small_sigma1 (slice_index low 0) → slice_index sigma 2 ≡ small_sigma1 (slice_index low 1)
    → plus low (slice_index (with_zeros sigma) 4 ∷ slice_index (with_zeros sigma) 5 ∷ slice_index (with_zeros sigma) 0 ∷ slice_index (with_zeros sigma) 2 ∷ [])
    ≡ with_high low
high_lanes =
    of_four (λ sigma. (low : List ℕ) → length low ≡ 4 → Each1 (Fits w32) low
    → slice_index sigma 0 ≡ small_sigma1 (slice_index low 0) → slice_index sigma 2 ≡ small_sigma1 (slice_index low 1)
    → plus low (slice_index (with_zeros sigma) 4 ∷ slice_index (with_zeros sigma) 5 ∷ slice_index (with_zeros sigma) 0 ∷ slice_index (with_zeros sigma) 2 ∷ [])
    ≡ with_high low)
    (λ s0 s1 s2 s3. of_four (λ low. Each1 (Fits w32) low → s0 ≡ small_sigma1 (slice_index low 0) → s2 ≡ small_sigma1 (slice_index low 1)
    → plus low (0 ∷ 0 ∷ s0 ∷ s2 ∷ []) ≡ with_high low)
    (λ k0 k1 k2 k3 fits e0 e2.
    let first : k0 < 2 ^ 32 = fits.0.fits in
    let second : k1 < 2 ^ 32 = fits.1.0.fits in
    same_four _ _ _ _ _ _ _ _ (omega arith) (omega arith) (rw e0 refl) (rw e2 refl)))

-- four words out of the number that they make
four_digits : (a b c d n : ℕ) → n ≡ a + 2 ^ 32 * (b + 2 ^ 32 * (c + 2 ^ 32 * d)) → a < 2 ^ 32 → b < 2 ^ 32 → c < 2 ^ 32 → d < 2 ^ 32
    → digits_l (2 ^ 32) 4 n ≡ a ∷ b ∷ c ∷ d ∷ []
four_digits a b c d n e fa fb fc fd =
    let rest : n / 2 ^ 32 ≡ b + 2 ^ 32 * (c + 2 ^ 32 * d) = omega arith in
    let more : n / 2 ^ 32 / 2 ^ 32 ≡ c + 2 ^ 32 * d = omega arith in
    let top : n / 2 ^ 32 / 2 ^ 32 / 2 ^ 32 ≡ d = omega arith in
    same_four _ _ _ _ a b c d (omega arith) (rw rest (omega arith)) (rw more (omega arith)) (rw top (omega arith))

-- sixteen bytes, each word's last byte first, as words
words_of_bytes : (r0 r1 r2 r3 r4 r5 r6 r7 r8 r9 r10 r11 r12 r13 r14 r15 : ℕ)
    → r0 < 256 → r1 < 256 → r2 < 256 → r3 < 256 → r4 < 256 → r5 < 256 → r6 < 256 → r7 < 256 → r8 < 256 → r9 < 256 → r10 < 256 → r11 < 256 → r12 < 256 → r13 < 256 → r14 < 256 → r15 < 256
    → digits_l (2 ^ 32) 4 (number_l 256 (r3 ∷ r2 ∷ r1 ∷ r0 ∷ r7 ∷ r6 ∷ r5 ∷ r4 ∷ r11 ∷ r10 ∷ r9 ∷ r8 ∷ r15 ∷ r14 ∷ r13 ∷ r12 ∷ []))
    ≡ from_be_bytes w32 (r0 ∷ r1 ∷ r2 ∷ r3 ∷ []) ∷ from_be_bytes w32 (r4 ∷ r5 ∷ r6 ∷ r7 ∷ [])
    ∷ from_be_bytes w32 (r8 ∷ r9 ∷ r10 ∷ r11 ∷ []) ∷ from_be_bytes w32 (r12 ∷ r13 ∷ r14 ∷ r15 ∷ []) ∷ []
words_of_bytes r0 r1 r2 r3 r4 r5 r6 r7 r8 r9 r10 r11 r12 r13 r14 r15 f0 f1 f2 f3 f4 f5 f6 f7 f8 f9 f10 f11 f12 f13 f14 f15 =
    four_digits (from_be_bytes w32 (r0 ∷ r1 ∷ r2 ∷ r3 ∷ [])) (from_be_bytes w32 (r4 ∷ r5 ∷ r6 ∷ r7 ∷ [])) (from_be_bytes w32 (r8 ∷ r9 ∷ r10 ∷ r11 ∷ [])) (from_be_bytes w32 (r12 ∷ r13 ∷ r14 ∷ r15 ∷ [])) _
    (omega arith) (omega arith) (omega arith) (omega arith) (omega arith)

abbrev pub part_at : List ℕ → ℕ → ℕ → List ℕ
part_at xs at n = chunk 0 n (take (at + n - at) (drop at xs))

length-part : (xs : List ℕ) (at n : ℕ) → at + n ≤ length xs → length (part_at xs at n) ≡ n
length-part xs at n room =
    let within : length (take (at + n - at) (drop at xs)) ≡ n = length-take-le (at + n - at) (drop at xs) (omega (arith, length-drop at xs)) ∙ omega arith in
    length-chunk 0 n (take (at + n - at) (drop at xs)) (omega arith)

-- an element of a part
part_read : (xs : List ℕ) (at n j k : ℕ) → j < n → k ≡ at + j → slice_index (part_at xs at n) j ≡ slice_index xs k
part_read xs at n j k low e =
    let plain : 0 + j ≡ j = omega arith in
    get_or-chunk 0 n (take (at + n - at) (drop at xs)) j 0 low
    ∙ ap (slice_index (take (at + n - at) (drop at xs))) plain
    ∙ get_or-take (at + n - at) (drop at xs) j 0 (omega arith) ∙ get_or-drop at xs j 0 ∙ ap (slice_index xs) (sym e)

abbrev pub sixteen_at : List ℕ → ℕ → List ℕ
sixteen_at b at = part_at b at 16

-- a byte as a swizzle reads it
sixteen_read : (b : List ℕ) (at j k : ℕ) → at + 16 ≤ length b → j < 16 → k ≡ at + j → slice_index (sixteen_at b at ++ sixteen_at b at) j ≡ slice_index b k
sixteen_read b at j k room low e =
    get_or_append_left (sixteen_at b at) (sixteen_at b at) 0 j (omega (arith, length-part b at 16 room)) ∙ part_read b at 16 j k low e

same_word : (p q r s x y z w : ℕ) → p ≡ x → q ≡ y → r ≡ z → s ≡ w → from_be_bytes w32 (p ∷ q ∷ r ∷ s ∷ []) ≡ from_be_bytes w32 (x ∷ y ∷ z ∷ w ∷ [])
same_word p q r s x y z w ep eq er es = rw (ep, eq, er, es) refl

-- four words of a block
pub block_words : (b : List ℕ) (at : ℕ) → at + 16 ≤ length b → ((k : ℕ) → Fits w8 (slice_index b k))
    → digits_l (2 ^ 32) 4 (number_l 256 (slice_index (sixteen_at b at ++ sixteen_at b at) 3 ∷ slice_index (sixteen_at b at ++ sixteen_at b at) 2 ∷ slice_index (sixteen_at b at ++ sixteen_at b at) 1 ∷ slice_index (sixteen_at b at ++ sixteen_at b at) 0 ∷ slice_index (sixteen_at b at ++ sixteen_at b at) 7 ∷ slice_index (sixteen_at b at ++ sixteen_at b at) 6 ∷ slice_index (sixteen_at b at ++ sixteen_at b at) 5 ∷ slice_index (sixteen_at b at ++ sixteen_at b at) 4 ∷ slice_index (sixteen_at b at ++ sixteen_at b at) 11 ∷ slice_index (sixteen_at b at ++ sixteen_at b at) 10 ∷ slice_index (sixteen_at b at ++ sixteen_at b at) 9 ∷ slice_index (sixteen_at b at ++ sixteen_at b at) 8 ∷ slice_index (sixteen_at b at ++ sixteen_at b at) 15 ∷ slice_index (sixteen_at b at ++ sixteen_at b at) 14 ∷ slice_index (sixteen_at b at ++ sixteen_at b at) 13 ∷ slice_index (sixteen_at b at ++ sixteen_at b at) 12 ∷ []))
    ≡ word_at b at ∷ word_at b (at + 4) ∷ word_at b (at + 8) ∷ word_at b (at + 12) ∷ []
block_words b at room fits =
    let r = λ (j : ℕ). slice_index (sixteen_at b at ++ sixteen_at b at) j in
    let is : (j k : ℕ) → j < 16 → k ≡ at + j → r j ≡ slice_index b k = λ j k low e. sixteen_read b at j k room low e in
    let small : (j : ℕ) → j < 16 → r j < 256 = λ j low. rw (is j (at + j) low refl) ((fits (at + j)).fits) in
    words_of_bytes (r 0) (r 1) (r 2) (r 3) (r 4) (r 5) (r 6) (r 7) (r 8) (r 9) (r 10) (r 11) (r 12) (r 13) (r 14) (r 15)
    (small 0 (omega arith)) (small 1 (omega arith)) (small 2 (omega arith)) (small 3 (omega arith)) (small 4 (omega arith)) (small 5 (omega arith)) (small 6 (omega arith)) (small 7 (omega arith)) (small 8 (omega arith)) (small 9 (omega arith)) (small 10 (omega arith)) (small 11 (omega arith)) (small 12 (omega arith)) (small 13 (omega arith)) (small 14 (omega arith)) (small 15 (omega arith))
    ∙ same_four _ _ _ _ _ _ _ _
    (same_word _ _ _ _ _ _ _ _ (is 0 _ (omega arith) (omega arith)) (is 1 _ (omega arith) (omega arith)) (is 2 _ (omega arith) (omega arith)) (is 3 _ (omega arith) (omega arith)))
    (same_word _ _ _ _ _ _ _ _ (is 4 _ (omega arith) (omega arith)) (is 5 _ (omega arith) (omega arith)) (is 6 _ (omega arith) (omega arith)) (is 7 _ (omega arith) (omega arith)))
    (same_word _ _ _ _ _ _ _ _ (is 8 _ (omega arith) (omega arith)) (is 9 _ (omega arith) (omega arith)) (is 10 _ (omega arith) (omega arith)) (is 11 _ (omega arith) (omega arith)))
    (same_word _ _ _ _ _ _ _ _ (is 12 _ (omega arith) (omega arith)) (is 13 _ (omega arith) (omega arith)) (is 14 _ (omega arith) (omega arith)) (is 15 _ (omega arith) (omega arith)))

-- four elements
pub part_words : (xs : List ℕ) (at : ℕ) → at + 4 ≤ length xs → part_at xs at 4 ≡ words xs at
part_words xs at room =
    let part : List ℕ = part_at xs at 4 in
    let read : part ≡ slice_index part 0 ∷ slice_index part 1 ∷ slice_index part 2 ∷ slice_index part 3 ∷ [] =
    of_four (λ p. p ≡ slice_index p 0 ∷ slice_index p 1 ∷ slice_index p 2 ∷ slice_index p 3 ∷ []) (λ a b c d. refl) part (length-part xs at 4 room) in
    read ∙ same_four _ _ _ _ _ _ _ _ (part_read xs at 4 0 at (omega arith) (omega arith)) (part_read xs at 4 1 (at + 1) (omega arith) (omega arith))
    (part_read xs at 4 2 (at + 2) (omega arith) (omega arith)) (part_read xs at 4 3 (at + 3) (omega arith) (omega arith))
