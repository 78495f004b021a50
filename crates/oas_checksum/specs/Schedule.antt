-- The schedule of a block's words, four at a time, and how far the rounds follow it (FIPS 180-4, 6.2.2).
use Rattle.std.specs.Prelude.{◌≡◌, ℕ, ◌+◌, ◌<◌, List, [], ◌∷◌, length, slice_index}
use Rattle.sha2.specs.Sha256.{add32, round_constants, rounds, schedule, small_sigma0, small_sigma1}

-- W t, …, W (t + 3)
abbrev pub words : List ℕ → ℕ → List ℕ
words w t = slice_index w t ∷ slice_index w (t + 1) ∷ slice_index w (t + 2) ∷ slice_index w (t + 3) ∷ []

-- the sum of W (t - 16), W (t - 7) and σ 0 of W (t - 15)
abbrev pub known_word : ℕ → ℕ → ℕ → ℕ
known_word sixteenth seventh fifteenth = add32 (add32 sixteenth seventh) (small_sigma0 fifteenth)

-- that sum for four new words, from the sixteen words before them
abbrev pub known_part : List ℕ → List ℕ → List ℕ → List ℕ → List ℕ
known_part a b c d =
    known_word (slice_index a 0) (slice_index c 1) (slice_index a 1)
    ∷ known_word (slice_index a 1) (slice_index c 2) (slice_index a 2)
    ∷ known_word (slice_index a 2) (slice_index c 3) (slice_index a 3)
    ∷ known_word (slice_index a 3) (slice_index d 0) (slice_index b 0) ∷ []

-- the first two words with σ 1 of the words two before them, which are the last two of d
abbrev pub with_low : List ℕ → List ℕ → List ℕ
with_low known d =
    add32 (slice_index known 0) (small_sigma1 (slice_index d 2)) ∷ add32 (slice_index known 1) (small_sigma1 (slice_index d 3))
    ∷ slice_index known 2 ∷ slice_index known 3 ∷ []

-- the last two words with σ 1 of the first two
abbrev pub with_high : List ℕ → List ℕ
with_high low =
    slice_index low 0 ∷ slice_index low 1 ∷ add32 (slice_index low 2) (small_sigma1 (slice_index low 0))
    ∷ add32 (slice_index low 3) (small_sigma1 (slice_index low 1)) ∷ []

-- the first n words of block b's schedule are at hand, each with its round's constant added
abbrev pub HasSums : List ℕ → List ℕ → ℕ → Type 0
HasSums b sums n = (length sums ≡ 64)
    × ((i : ℕ) → i < n → slice_index sums i ≡ add32 (slice_index (schedule b 48) i) (slice_index round_constants i))

-- after t rounds of block b from the hash value h: the working variables, and the sixteen words from W t on
abbrev pub IsAhead : List ℕ → List ℕ → List ℕ → List ℕ → List ℕ → List ℕ → List ℕ → List ℕ → ℕ → Type 0
IsAhead b h sums v first second third last t =
    HasSums b sums (t + 16) × (v ≡ rounds h (schedule b 48) t) × (first ≡ words (schedule b 48) t)
    × (second ≡ words (schedule b 48) (t + 4)) × (third ≡ words (schedule b 48) (t + 8)) × (last ≡ words (schedule b 48) (t + 12))
