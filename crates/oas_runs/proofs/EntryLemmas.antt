-- Reading the first entry, as the code does.
use Rattle.std.specs.Prelude.{◌≡◌, ℕ, ◌+◌, ◌<◌, ◌≤◌, List, [], ◌∷◌, ◌++◌, length, take, drop, cond, nat_lt, slice_index, suc, zero, refl, true}
use Rattle.std.specs.Int.{w64, from_le_bytes}
use Rattle.std.proofs.lemmas.Bool.{lt-ltb}
use Rattle.std.proofs.Common.{sym, ◌∙◌, ap, arith, subst}
use Rattle.std.proofs.lemmas.List.{drop-append-le}
use Rattle.oas_runs.specs.Entries.{Entry, number_size, number_at, key_start, entry_end, entries, entry_bytes, block_bytes, Fits, FirstHas, IsBlock}
use Rattle.std.proofs.Common.{length-append, length-drop}
use Rattle.std.proofs.Math.Seq.{drop-append_seam}
use Rattle.std.specs.List.{AllByRecursion}
use Rattle.oas_runs.specs.Laws.EntryLaws.{Stands, IsMore, block-append, block-append_all, stands, IsBlock-written, entries-written}

pub record Reads (bytes key : List ℕ) (times end : ℕ) : Type 0 where
  pub within : end ≤ length bytes
  pub some : entries bytes ≡ (key, times) ∷ entries (drop end bytes)
  pub rest : IsBlock (drop end bytes)

pub reads : (bytes others key : List ℕ) (size len count_size times : ℕ) → Stands bytes → size ≡ number_size bytes → len ≡ number_at bytes → others
    ≡ drop size bytes → count_size ≡ number_size others → times ≡ number_at others → key ≡ take len (drop (size + count_size) bytes) →
    Reads bytes key times (size + count_size + len)
reads bytes others key size len count_size times s a b c d e f =
    let after : others ≡ drop (number_size bytes) bytes = c ∙ ap (λ (n : ℕ). drop n bytes) a in
    let start : size + count_size ≡ key_start bytes = omega (arith, a, d, ap number_size after) in
    let end : size + count_size + len ≡ entry_end bytes = omega (arith, start, b) in
    let is_key : key ≡ take (number_at bytes) (drop (key_start bytes) bytes) = f ∙ (λ i. take (b i) (drop (start i) bytes)) in
    let is_count : times ≡ number_at (drop (number_size bytes) bytes) = e ∙ ap number_at after in
    record {
      within = omega (arith, s.end, end);
      some = s.read ∙ sym (λ i. (is_key i, is_count i) ∷ entries (drop (end i) bytes));
      rest = subst (λ (n : ℕ). IsBlock (drop n bytes)) (sym end) s.rest;
    }

-- the numbers are a byte each
pub reads_short : (bytes key : List ℕ) (len times : ℕ) → 0 < length bytes → IsBlock bytes → len ≡ slice_index bytes 0 → times ≡ slice_index bytes 1 → len < 255
    → times < 255 → key ≡ take len (drop 2 bytes) → Reads bytes key times (2 + len)
reads_short [] key len times h b l t m n k = absurd (omega (arith, h))
reads_short (x ∷ xs) key len times h b l t m n k =
    let size : nat_lt x 255 ≡ true = ap (λ (y : ℕ). nat_lt y 255) (sym l) ∙ lt-ltb len 255 m in
    let count : nat_lt (slice_index xs 0) 255 ≡ true = ap (λ (y : ℕ). nat_lt y 255) (sym t) ∙ lt-ltb times 255 n in
    reads (x ∷ xs) xs key 1 len 1 times (stands (x ∷ xs) h b)
    (sym (ap (λ c. cond c 1 9) size))
    (l ∙ sym (ap (λ c. cond c x (from_le_bytes w64 (take 8 xs))) size))
    refl
    (sym (ap (λ c. cond c 1 9) count))
    (t ∙ sym (ap (λ c. cond c (slice_index xs 0) (from_le_bytes w64 (take 8 (drop 1 xs)))) count))
    k

drop-nil : (n : ℕ) → drop {A = ℕ} n [] ≡ []
drop-nil zero = refl
drop-nil (suc n) = refl

-- the bytes of a block after some were taken
drop-drop : (m n : ℕ) (bytes : List ℕ) → drop n (drop m bytes) ≡ drop (m + n) bytes
drop-drop zero n bytes = let e : n ≡ 0 + n = omega arith in ap (λ (m : ℕ). drop m bytes) e
drop-drop (suc m) n [] = drop-nil n ∙ sym (drop-nil (suc m + n))
drop-drop (suc m) n (b ∷ bytes) = let e : suc (m + n) ≡ suc m + n = omega arith in drop-drop m n bytes ∙ ap (λ (k : ℕ). drop k (b ∷ bytes)) e

pub later : (m n : ℕ) (bytes others : List ℕ) → others ≡ drop m bytes → drop n others ≡ drop (m + n) bytes
later m n bytes others e = ap (λ (bs : List ℕ). drop n bs) e ∙ drop-drop m n bytes

-- one more entry, at the end of a block from which some were taken
pub appended : (start : ℕ) (olds news : List ℕ) (p : Entry) → start ≤ length olds → IsBlock (drop start olds) → Fits p → news ≡ olds ++ entry_bytes p →
    IsMore (drop start news) (entries (drop start olds) ++ p ∷ [])
appended start olds news p h b fits e =
    let is : drop start news ≡ drop start olds ++ entry_bytes p = ap (λ (bs : List ℕ). drop start bs) e ∙ drop-append-le start olds (entry_bytes p) h in
    subst (λ (bs : List ℕ). IsMore bs (entries (drop start olds) ++ p ∷ [])) (sym is) (block-append (drop start olds) p b fits)

-- the entries of another block, at the end of such a block
pub appended_all : (start : ℕ) (olds news more : List ℕ) → start ≤ length olds → IsBlock (drop start olds) → IsBlock more → news ≡ olds ++ more →
    IsMore (drop start news) (entries (drop start olds) ++ entries more)
appended_all start olds news more h b m e =
    let is : drop start news ≡ drop start olds ++ more = ap (λ (bs : List ℕ). drop start bs) e ∙ drop-append-le start olds more h in
    subst (λ (bs : List ℕ). IsMore bs (entries (drop start olds) ++ entries more)) (sym is) (block-append_all (drop start olds) more b m)

-- no entries are no bytes
pub none-left : (bytes : List ℕ) → entries bytes ≡ [] → length bytes ≡ 0
none-left [] e = refl
none-left (b ∷ bytes) e = absurd (cons-nil _ _ e) where
  cons-nil : (p : Entry) (ps : List Entry) → p ∷ ps ≡ [] → ⊥
  cons-nil p ps e = let l = ap length e in omega (arith, l)

-- ---- how many bytes the first entry has

-- what reading an entry says of its end
pub first_has : (bytes key : List ℕ) (times end : ℕ) (es : List Entry) → IsBlock bytes → end ≤ length bytes → entries bytes ≡ (key, times) ∷ entries (drop end bytes)
    → IsBlock (drop end bytes) → entries bytes ≡ es → FirstHas end es
first_has bytes key times end es b h e r v =
    let rest = drop end bytes in
    let whole : length bytes ≡ length (entry_bytes (key, times)) + length rest =
    ap length (b.is ∙ ap block_bytes e) ∙ length-append (entry_bytes (key, times)) (block_bytes (entries rest))
    ∙ ap (λ (bs : List ℕ). length (entry_bytes (key, times)) + length bs) (sym r.is) in
    let is : end ≡ length (entry_bytes (key, times)) = omega (arith, whole, length-drop end bytes, h) in
    subst (FirstHas end) (sym e ∙ v) is

-- what is left when so many are taken
pub record Passes (start end : ℕ) (bytes : List ℕ) (es : List Entry) : Type 0 where
  pub within : start + end ≤ length bytes
  pub block : IsBlock (drop (start + end) bytes)
  pub some : (p : Entry) × (es ≡ p ∷ entries (drop (start + end) bytes))

pub passes : (start end : ℕ) (bytes : List ℕ) (es : List Entry) → start ≤ length bytes → IsBlock (drop start bytes) → entries (drop start bytes) ≡ es → FirstHas end es
    → Passes start end bytes es
passes start end bytes [] h b e f = absurd f
passes start end bytes (p ∷ ps) h b e f =
    let left = drop start bytes in
    let written : left ≡ entry_bytes p ++ block_bytes ps = b.is ∙ ap block_bytes e in
    let fits : AllByRecursion Fits (p ∷ ps) = subst (AllByRecursion Fits) e b.fits in
    let after : drop end left ≡ block_bytes ps = (λ i. drop (f i) (written i)) ∙ drop-append_seam (entry_bytes p) (block_bytes ps) in
    let rest : drop (start + end) bytes ≡ block_bytes ps = sym (later start end bytes left refl) ∙ after in
    record {
      within = omega (arith, h, f, ap length written, length-append (entry_bytes p) (block_bytes ps), length-drop start bytes);
      block = IsBlock-written _ ps fits.1 rest;
      some = (p, ap (λ (qs : List Entry). p ∷ qs) (sym (entries-written _ ps fits.1 rest)));
    }

-- a first entry has its bytes in what it comes before
pub first_has_front : (n : ℕ) (es fs whole : List Entry) → es ++ fs ≡ whole → (es ≡ [] → fs ≡ []) → FirstHas n whole → FirstHas n es
first_has_front n [] fs whole e h f = subst (FirstHas n) (sym e ∙ h refl) f
first_has_front n (p ∷ ps) fs whole e h f = subst (FirstHas n) (sym e) f

pub first_has_whole : (n : ℕ) (es fs whole : List Entry) → es ++ fs ≡ whole → FirstHas n es → FirstHas n whole
first_has_whole n [] fs whole e f = absurd f
first_has_whole n (p ∷ ps) fs whole e f = subst (FirstHas n) e f
