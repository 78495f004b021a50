-- What was written is read.
use Rattle.std.specs.Prelude.{◌≡◌, ℕ, ◌+◌, ◌-◌, ◌<◌, ◌≤◌, ◌^◌, List, [], ◌∷◌, ◌++◌, length, take, drop, cond, nat_lt, slice_index, zero, suc, true, false, refl}
use Rattle.std.proofs.Common.{sym, ◌∙◌, ap, arith, subst, append_assoc, append-nil, length-append, length-drop}
use Rattle.std.proofs.Math.Seq.{drop-append_seam, take-append_seam, drop-append-add}
use Rattle.std.proofs.lemmas.Nat.{from_le_bytes-to_le_bytes_8}
use Rattle.std.specs.Int.{w64, to_le_bytes, from_le_bytes}
use Rattle.std.specs.List.{AllByRecursion}
use Rattle.oas_runs.specs.Entries.{Entry, number_bytes, entry_bytes, block_bytes, Fits, number_at, number_size, key_start, entry_end, entry_at, entries_after, entries, IsBlock}

-- ---- numbers

-- what was written is what is there, whatever comes after it
pub number-read : (n : ℕ) (rest : List ℕ) → n < 2 ^ 64 → number_at (number_bytes n ++ rest) ≡ n
number-read n rest fits =
    elim (nat_lt n 255) as (λ b. nat_lt n 255 ≡ b → number_at (cond b (n ∷ []) (255 ∷ to_le_bytes w64 n) ++ rest) ≡ n) [
      | true ↦ λ e. ap (λ b. cond b n (from_le_bytes w64 (take 8 rest))) e
      | false ↦ λ e. from_le_bytes-to_le_bytes_8 n fits
    ] refl

pub number_size-read : (n : ℕ) (rest : List ℕ) → number_size (number_bytes n ++ rest) ≡ length (number_bytes n)
number_size-read n rest =
    elim (nat_lt n 255) as (λ b. nat_lt n 255 ≡ b → number_size (cond b (n ∷ []) (255 ∷ to_le_bytes w64 n) ++ rest) ≡ length (cond b (n ∷ []) (255 ∷ to_le_bytes w64 n))) [
      | true ↦ λ e. ap (λ b. cond b 1 9) e
      | false ↦ λ e. refl
    ] refl

pub number_size-some : (bytes : List ℕ) → 0 < number_size bytes
number_size-some bytes = elim (nat_lt (slice_index bytes 0) 255) as (λ b. 0 < cond b 1 9) [
  | true ↦ omega arith
  | false ↦ omega arith
]

pub number_size-most : (bytes : List ℕ) → number_size bytes ≤ 9
number_size-most bytes = elim (nat_lt (slice_index bytes 0) 255) as (λ b. cond b 1 9 ≤ 9) [
  | true ↦ omega arith
  | false ↦ omega arith
]

-- ---- entries

-- skipping skips what is skipped
pub entries_after-drop : (s : ℕ) (bytes : List ℕ) → entries_after s bytes ≡ entries (drop s bytes)
entries_after-drop zero [] = refl
entries_after-drop (suc s) [] = refl
entries_after-drop zero (b ∷ bytes) = refl
entries_after-drop (suc s) (b ∷ bytes) = entries_after-drop s bytes

drop-less : (n : ℕ) (b : ℕ) (bytes : List ℕ) → 0 < n → drop (n - 1) bytes ≡ drop n (b ∷ bytes)
drop-less zero b bytes h = absurd (omega (arith, h))
drop-less (suc n) b bytes h = let e : suc n - 1 ≡ n = omega arith in ap (λ (m : ℕ). drop m bytes) e

-- where bytes are left, there is an entry, and then the rest
pub entries-some : (bytes : List ℕ) → 0 < length bytes → entries bytes ≡ entry_at bytes ∷ entries (drop (entry_end bytes) bytes)
entries-some [] h = absurd (omega (arith, h))
entries-some (b ∷ bytes) h =
    let some : 0 < entry_end (b ∷ bytes) = omega (arith, number_size-some (b ∷ bytes)) in
    ap (λ (ps : List Entry). entry_at (b ∷ bytes) ∷ ps) (entries_after-drop (entry_end (b ∷ bytes) - 1) bytes ∙ ap entries (drop-less (entry_end (b ∷ bytes)) b bytes some))

pub entries-none : (bytes : List ℕ) → length bytes ≡ 0 → entries bytes ≡ []
entries-none [] h = refl
entries-none (b ∷ bytes) h = absurd (omega (arith, h))

-- what the parts of an entry say about where they are
pub record IsRead (bytes key others : List ℕ) (times : ℕ) : Type 0 where
  pub is : entry_at bytes ≡ (key, times)
  pub rest : drop (entry_end bytes) bytes ≡ others

parts-read : (bytes size count key rest : List ℕ) (times : ℕ) → bytes ≡ size ++ (count ++ (key ++ rest)) → number_size bytes ≡ length size → number_at bytes
    ≡ length key → number_size (count ++ (key ++ rest)) ≡ length count → number_at (count ++ (key ++ rest)) ≡ times → IsRead bytes key rest times
parts-read bytes size count key rest times e s l t n =
    let after : drop (number_size bytes) bytes ≡ count ++ (key ++ rest) = (λ i. drop (s i) (e i)) ∙ drop-append_seam size (count ++ (key ++ rest)) in
    let start : key_start bytes ≡ length size + length count = omega (arith, s, ap number_size after, t) in
    let at_key : drop (key_start bytes) bytes ≡ key ++ rest = (λ i. drop (start i) (e i)) ∙ drop-append-add size (count ++ (key ++ rest)) (length count) ∙ drop-append_seam count (key ++ rest) in
    let end : entry_end bytes ≡ length size + (length count + length key) = omega (arith, start, l) in
    let is_key : take (number_at bytes) (drop (key_start bytes) bytes) ≡ key = (λ i. take (l i) (at_key i)) ∙ take-append_seam key rest in
    let is_count : number_at (drop (number_size bytes) bytes) ≡ times = ap number_at after ∙ n in
    record {
      is = λ i. (is_key i, is_count i);
      rest = (λ i. drop (end i) (e i)) ∙ drop-append-add size (count ++ (key ++ rest)) (length count + length key) ∙ drop-append-add count (key ++ rest) (length key) ∙ drop-append_seam key rest;
    }

entry_bytes-apart : (p : Entry) (rest : List ℕ) → entry_bytes p ++ rest ≡ number_bytes (length p.0) ++ (number_bytes p.1 ++ (p.0 ++ rest))
entry_bytes-apart p rest = append_assoc (number_bytes (length p.0) ++ number_bytes p.1) p.0 rest ∙ append_assoc (number_bytes (length p.0)) (number_bytes p.1) (p.0 ++ rest)

-- an entry that was written is what is read
pub entry-read : (p : Entry) (rest : List ℕ) → Fits p → IsRead (entry_bytes p ++ rest) p.0 rest p.1
entry-read p rest fits =
    let apart = entry_bytes-apart p rest in
    parts-read (entry_bytes p ++ rest) (number_bytes (length p.0)) (number_bytes p.1) p.0 rest p.1 apart
    (ap number_size apart ∙ number_size-read (length p.0) (number_bytes p.1 ++ (p.0 ++ rest)))
    (ap number_at apart ∙ number-read (length p.0) (number_bytes p.1 ++ (p.0 ++ rest)) fits.0)
    (number_size-read p.1 (p.0 ++ rest))
    (number-read p.1 (p.0 ++ rest) fits.1)

pub number_bytes-some : (n : ℕ) → 0 < length (number_bytes n)
number_bytes-some n = elim (nat_lt n 255) as (λ b. 0 < length (cond b (n ∷ []) (255 ∷ to_le_bytes w64 n))) [
  | true ↦ omega arith
  | false ↦ omega arith
]

entry_bytes-some : (p : Entry) (rest : List ℕ) → 0 < length (entry_bytes p ++ rest)
entry_bytes-some p rest = omega (arith, number_bytes-some (length p.0), ap length (entry_bytes-apart p rest), length-append (number_bytes (length p.0)) (number_bytes p.1 ++ (p.0 ++ rest)))

pub entries-cons : (p : Entry) (rest : List ℕ) → Fits p → entries (entry_bytes p ++ rest) ≡ p ∷ entries rest
entries-cons p rest fits =
    let r = entry-read p rest fits in
    entries-some (entry_bytes p ++ rest) (entry_bytes-some p rest) ∙ (λ i. r.is i ∷ entries (r.rest i))

-- entries that were written are what is read
pub entries-block : (ps : List Entry) → AllByRecursion Fits ps → entries (block_bytes ps) ≡ ps
entries-block [] fits = refl
entries-block (p ∷ ps) fits = entries-cons p (block_bytes ps) fits.0 ∙ ap (λ (qs : List Entry). p ∷ qs) (entries-block ps fits.1)

pub IsBlock-written : (bytes : List ℕ) (ps : List Entry) → AllByRecursion Fits ps → bytes ≡ block_bytes ps → IsBlock bytes
IsBlock-written bytes ps fits e =
    let read : entries bytes ≡ ps = ap entries e ∙ entries-block ps fits in
    record { fits = subst (AllByRecursion Fits) (sym read) fits; is = e ∙ ap block_bytes (sym read) }

pub entries-written : (bytes : List ℕ) (ps : List Entry) → AllByRecursion Fits ps → bytes ≡ block_bytes ps → entries bytes ≡ ps
entries-written bytes ps fits e = ap entries e ∙ entries-block ps fits

pub block_bytes-append : (ps qs : List Entry) → block_bytes (ps ++ qs) ≡ block_bytes ps ++ block_bytes qs
block_bytes-append [] qs = refl
block_bytes-append (p ∷ ps) qs = ap (λ (bytes : List ℕ). entry_bytes p ++ bytes) (block_bytes-append ps qs) ∙ sym (append_assoc (entry_bytes p) (block_bytes ps) (block_bytes qs))

fits_append : (ps : List Entry) (p : Entry) → AllByRecursion Fits ps → Fits p → AllByRecursion Fits (ps ++ p ∷ [])
fits_append [] p h f = (f, tt)
fits_append (q ∷ qs) p h f = (h.0, fits_append qs p h.1 f)

-- one more entry
pub record IsMore (bytes : List ℕ) (ps : List Entry) : Type 0 where
  pub block : IsBlock bytes
  pub entries : entries bytes ≡ ps

pub block-append : (bytes : List ℕ) (p : Entry) → IsBlock bytes → Fits p → IsMore (bytes ++ entry_bytes p) (entries bytes ++ p ∷ [])
block-append bytes p b fits =
    let one : block_bytes (p ∷ []) ≡ entry_bytes p = append-nil (entry_bytes p) in
    let all = fits_append (entries bytes) p b.fits fits in
    let written : bytes ++ entry_bytes p ≡ block_bytes (entries bytes ++ p ∷ []) = (λ i. b.is i ++ sym one i) ∙ sym (block_bytes-append (entries bytes) (p ∷ [])) in
    record { block = IsBlock-written _ _ all written; entries = entries-written _ _ all written }

fits_all : (ps qs : List Entry) → AllByRecursion Fits ps → AllByRecursion Fits qs → AllByRecursion Fits (ps ++ qs)
fits_all [] qs h k = k
fits_all (p ∷ ps) qs h k = (h.0, fits_all ps qs h.1 k)

-- the entries of another block
pub block-append_all : (bytes more : List ℕ) → IsBlock bytes → IsBlock more → IsMore (bytes ++ more) (entries bytes ++ entries more)
block-append_all bytes more b m =
    let all = fits_all (entries bytes) (entries more) b.fits m.fits in
    let written : bytes ++ more ≡ block_bytes (entries bytes ++ entries more) = (λ i. b.is i ++ m.is i) ∙ sym (block_bytes-append (entries bytes) (entries more)) in
    record { block = IsBlock-written _ _ all written; entries = entries-written _ _ all written }

-- ---- reading the first entry of a block

-- what reading it requires, and what is read
pub record Stands (bytes : List ℕ) : Type 0 where
  pub long : slice_index bytes 0 ≡ 255 → 9 ≤ length bytes
  pub after : number_size bytes ≤ length bytes
  pub count : 0 < length (drop (number_size bytes) bytes)
  pub long_count : slice_index (drop (number_size bytes) bytes) 0 ≡ 255 → 9 ≤ length (drop (number_size bytes) bytes)
  pub end : entry_end bytes ≤ length bytes
  pub rest : IsBlock (drop (entry_end bytes) bytes)
  pub read : entries bytes ≡ entry_at bytes ∷ entries (drop (entry_end bytes) bytes)

size_long : (bytes : List ℕ) → slice_index bytes 0 ≡ 255 → number_size bytes ≡ 9
size_long bytes e = ap (λ (b : ℕ). cond (nat_lt b 255) 1 9) e

length-rest : (n : ℕ) (bytes rest : List ℕ) → drop n bytes ≡ rest → 0 < length rest → n ≤ length bytes
length-rest n bytes rest e h = omega (arith, length-drop n bytes, ap length e, h)

pub stands : (bytes : List ℕ) → 0 < length bytes → IsBlock bytes → Stands bytes
stands bytes h b =
    let read = entries-some bytes h in
    let p = entry_at bytes in
    let rest = drop (entry_end bytes) bytes in
    let fits : AllByRecursion Fits (p ∷ entries rest) = subst (AllByRecursion Fits) read b.fits in
    let written : bytes ≡ entry_bytes p ++ block_bytes (entries rest) = b.is ∙ ap block_bytes read in
    let apart : bytes ≡ number_bytes (length p.0) ++ (number_bytes p.1 ++ (p.0 ++ block_bytes (entries rest))) = written ∙ entry_bytes-apart p (block_bytes (entries rest)) in
    let size : number_size bytes ≡ length (number_bytes (length p.0)) = ap number_size apart ∙ number_size-read (length p.0) _ in
    let after : drop (number_size bytes) bytes ≡ number_bytes p.1 ++ (p.0 ++ block_bytes (entries rest)) = (λ i. drop (size i) (apart i)) ∙ drop-append_seam (number_bytes (length p.0)) _ in
    let count_size : number_size (drop (number_size bytes) bytes) ≡ length (number_bytes p.1) = ap number_size after ∙ number_size-read p.1 _ in
    let number : number_at bytes ≡ length p.0 = ap number_at apart ∙ number-read (length p.0) _ fits.0.0 in
    let again : IsRead bytes p.0 (block_bytes (entries rest)) p.1 =
    subst (λ (bs : List ℕ). IsRead bs p.0 (block_bytes (entries rest)) p.1) (sym written) (entry-read p (block_bytes (entries rest)) fits.0) in
    let long_all : length bytes ≡ length (number_bytes (length p.0)) + (length (number_bytes p.1) + (length p.0 + length (block_bytes (entries rest)))) =
    ap length apart ∙ length-append (number_bytes (length p.0)) _
    ∙ ap (λ (n : ℕ). length (number_bytes (length p.0)) + n) (length-append (number_bytes p.1) _ ∙ ap (λ (n : ℕ). length (number_bytes p.1) + n) (length-append p.0 _)) in
    let long_after : length (drop (number_size bytes) bytes) ≡ length (number_bytes p.1) + (length p.0 + length (block_bytes (entries rest))) =
    ap length after ∙ length-append (number_bytes p.1) _ ∙ ap (λ (n : ℕ). length (number_bytes p.1) + n) (length-append p.0 _) in
    record {
      long = λ e. omega (arith, size_long bytes e, size, long_all);
      after = omega (arith, size, long_all);
      count = omega (arith, long_after, number_bytes-some p.1);
      long_count = λ e. omega (arith, size_long (drop (number_size bytes) bytes) e, count_size, long_after);
      end = omega (arith, size, count_size, number, long_all);
      rest = IsBlock-written rest (entries rest) fits.1 again.rest;
      read = read;
    }
