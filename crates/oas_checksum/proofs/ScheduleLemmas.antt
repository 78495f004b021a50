-- How the words that are kept and the rounds follow the standard's schedule.
use Rattle.std.proofs.Common.{◌≡◌, ℕ, zero, suc, ◌+◌, ◌-◌, ◌*◌, ◌<◌, ◌≤◌, ◌++◌, List, [], ◌∷◌, length, slice_index, take, drop, refl, sym, ap, ◌∙◌, arith, inl, inr, subst, length-drop}
use Rattle.std.proofs.lemmas.Bool.{cases_lt}
use Rattle.std.proofs.lemmas.List.{get_or-append_right, get_or-take, get_or_append_left, length-take-le}
use Rattle.std.proofs.lemmas.Simd.{put_chunk_whole}
use Rattle.std.specs.Simd.Lanes.{put_chunk}
use Rattle.sha2.specs.Sha256.{add32, round, round_constants, rounds, schedule, small_sigma0, small_sigma1, word_at}
use Rattle.sha2.proofs.Schedule256.{rounds_next, slice_index-schedule_first, slice_index-schedule_next}
use Rattle.oas_checksum.specs.Schedule.{HasSums, IsAhead, known_part, with_high, with_low, words}
use Rattle.oas_checksum.proofs.LaneLemmas.{part_at, part_words, plus, same_four}
use borrow.Rule.Slice.PartMut.{mid_of, post_of, put_mid, same_len_mid}

-- what holds at each of four places
of_places : (P : ℕ → Type 0) → P 0 → P 1 → P 2 → P 3 → (j : ℕ) → j < 4 → P j
of_places P p q r s zero low = p
of_places P p q r s (suc zero) low = q
of_places P p q r s (suc (suc zero)) low = r
of_places P p q r s (suc (suc (suc zero))) low = s
of_places P p q r s (suc (suc (suc (suc more)))) low = absurd (omega arith)

abbrev pub four_sums : List ℕ → ℕ → List ℕ
four_sums b at = plus (words (schedule b 48) at) (words round_constants at)

-- four more words, each with its constant, put in their places
put_sums : (b sums : List ℕ) (at : ℕ) → at + 4 ≤ 64 → HasSums b sums at → HasSums b (put_mid at (at + 4 - at) sums (four_sums b at)) (at + 4)
put_sums b sums at room held =
    let n : ℕ = at + 4 - at in
    let front : length (take at sums) ≡ at = length-take-le at sums (omega (arith, held.0)) in
    let middle : length (mid_of at n sums) ≡ 4 = length-take-le n (drop at sums) (omega (arith, length-drop at sums, held.0)) ∙ omega arith in (
      same_len_mid at n sums (four_sums b at) (sym middle) ∙ held.0,
      λ i low. elim (cases_lt i at) [
        | inl less ↦
            get_or_append_left (take at sums) (four_sums b at ++ post_of at n sums) 0 i (omega arith)
            ∙ get_or-take at sums i 0 less ∙ held.1 i less
        | inr more ↦
            let place : i ≡ at + (i - at) = omega arith in
            get_or-append_right (take at sums) (four_sums b at ++ post_of at n sums) at i 0 front more
            ∙ get_or_append_left (four_sums b at) (post_of at n sums) 0 (i - at) (omega arith)
            ∙ of_places (λ j. slice_index (four_sums b at) j ≡ add32 (slice_index (schedule b 48) (at + j)) (slice_index round_constants (at + j)))
            (ap (λ (k : ℕ). add32 (slice_index (schedule b 48) k) (slice_index round_constants k)) (omega arith)) refl refl refl (i - at) (omega arith)
            ∙ ap (λ (k : ℕ). add32 (slice_index (schedule b 48) k) (slice_index round_constants k)) (sym place)
      ],
    )

-- the same, as the code puts them
pub kept : (b sums x : List ℕ) (at : ℕ) → at + 4 ≤ 64 → HasSums b sums at → x ≡ words (schedule b 48) at
    → HasSums b (put_mid at (at + 4 - at) sums (put_chunk 0 (mid_of at (at + 4 - at) sums) (plus x (part_at round_constants at 4)))) (at + 4)
kept b sums x at room held is =
    let n : ℕ = at + 4 - at in
    let middle : length (mid_of at n sums) ≡ 4 = length-take-le n (drop at sums) (omega (arith, length-drop at sums, held.0)) ∙ omega arith in
    let added : plus x (part_at round_constants at 4) ≡ four_sums b at = rw (is, part_words round_constants at room) refl in
    let whole : put_chunk 0 (mid_of at n sums) (four_sums b at) ≡ four_sums b at = put_chunk_whole (mid_of at n sums) (four_sums b at) middle in
    rw (added, whole) (put_sums b sums at room held)

-- fewer words
pub fewer : (b sums : List ℕ) (n m : ℕ) → m ≤ n → HasSums b sums n → HasSums b sums m
fewer b sums n m le held = (held.0, λ i low. held.1 i (omega arith))

-- no words
pub none_kept : (b sums : List ℕ) → length sums ≡ 64 → HasSums b sums 0
none_kept b sums e = (e, λ i low. absurd (omega arith))

-- one more round
pub one_more : (h ws v next : List ℕ) (t s : ℕ) → s ≡ t + 1 → v ≡ rounds h ws t
    → next ≡ round v (slice_index round_constants t) (slice_index ws t) → next ≡ rounds h ws s
one_more h ws v next t s e ev en = rw (e, rounds_next h ws t, ← ev) en

-- the four terms of a new word, in another order
reordered : (p q r s : ℕ) → add32 (add32 (add32 p q) r) s ≡ add32 (add32 (add32 s q) r) p
reordered p q r s = omega arith

-- a new word from those 16, 7, 15 and 2 places before it
new_word : (b : List ℕ) (u sixteenth seventh fifteenth second : ℕ) → 16 ≤ u → u < 64
    → sixteenth ≡ slice_index (schedule b 48) (u - 16) → seventh ≡ slice_index (schedule b 48) (u - 7)
    → fifteenth ≡ slice_index (schedule b 48) (u - 15) → second ≡ slice_index (schedule b 48) (u - 2)
    → add32 (add32 (add32 sixteenth seventh) (small_sigma0 fifteenth)) (small_sigma1 second) ≡ slice_index (schedule b 48) u
new_word b u sixteenth seventh fifteenth second low high ea es ef el =
    rw (ea, es, ef, el) (reordered _ _ _ _ ∙ sym (slice_index-schedule_next b 48 u low (omega arith)))

-- four new words from the sixteen before them
pub next_words : (b first second third last : List ℕ) (t : ℕ) → t + 20 ≤ 64
    → first ≡ words (schedule b 48) t → second ≡ words (schedule b 48) (t + 4)
    → third ≡ words (schedule b 48) (t + 8) → last ≡ words (schedule b 48) (t + 12)
    → with_high (with_low (known_part first second third last) last) ≡ words (schedule b 48) (t + 16)
next_words b first second third last t room ea eb ec ed =
    let at = λ (i j : ℕ) (e : i ≡ j). ap (slice_index (schedule b 48)) e in
    let word_0 = new_word b (t + 16) _ _ _ _ (omega arith) (omega arith)
    (at t (t + 16 - 16) (omega arith)) (at (t + 8 + 1) (t + 16 - 7) (omega arith)) (at (t + 1) (t + 16 - 15) (omega arith)) (at (t + 12 + 2) (t + 16 - 2) (omega arith)) in
    let word_1 = new_word b (t + 16 + 1) _ _ _ _ (omega arith) (omega arith)
    (at (t + 1) (t + 16 + 1 - 16) (omega arith)) (at (t + 8 + 2) (t + 16 + 1 - 7) (omega arith)) (at (t + 2) (t + 16 + 1 - 15) (omega arith)) (at (t + 12 + 3) (t + 16 + 1 - 2) (omega arith)) in
    let word_2 = new_word b (t + 16 + 2) _ _ _ _ (omega arith) (omega arith)
    (at (t + 2) (t + 16 + 2 - 16) (omega arith)) (at (t + 8 + 3) (t + 16 + 2 - 7) (omega arith)) (at (t + 3) (t + 16 + 2 - 15) (omega arith))
    (word_0 ∙ at (t + 16) (t + 16 + 2 - 2) (omega arith)) in
    let word_3 = new_word b (t + 16 + 3) _ _ _ _ (omega arith) (omega arith)
    (at (t + 3) (t + 16 + 3 - 16) (omega arith)) (at (t + 12) (t + 16 + 3 - 7) (omega arith)) (at (t + 4) (t + 16 + 3 - 15) (omega arith))
    (word_1 ∙ at (t + 16 + 1) (t + 16 + 3 - 2) (omega arith)) in
    rw (ea, eb, ec, ed) (same_four _ _ _ _ _ _ _ _ word_0 word_1 word_2 word_3)

-- the block's own words
pub block_start : (b x : List ℕ) (t : ℕ) → t + 4 ≤ 16
    → x ≡ word_at b (4 * t) ∷ word_at b (4 * t + 4) ∷ word_at b (4 * t + 8) ∷ word_at b (4 * t + 12) ∷ [] → x ≡ words (schedule b 48) t
block_start b x t room e =
    let word : (j k : ℕ) → j < 16 → k ≡ 4 * j → word_at b k ≡ slice_index (schedule b 48) j =
    λ j k low place. ap (word_at b) place ∙ sym (slice_index-schedule_first b 48 j low) in
    e ∙ same_four _ _ _ _ _ _ _ _ (word t (4 * t) (omega arith) refl) (word (t + 1) (4 * t + 4) (omega arith) (omega arith))
    (word (t + 2) (4 * t + 8) (omega arith) (omega arith)) (word (t + 3) (4 * t + 12) (omega arith) (omega arith))

-- the same round, spelled another way
pub ahead_at : (b h sums v first second third last : List ℕ) (t s : ℕ) → t ≡ s
    → IsAhead b h sums v first second third last t → IsAhead b h sums v first second third last s
ahead_at b h sums v first second third last t s e held = subst (IsAhead b h sums v first second third last) e held
