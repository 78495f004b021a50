-- The last entry: where it begins, and its count.
use Rattle.std.specs.Prelude.{◌≡◌, ℕ, ◌+◌, ◌-◌, ◌<◌, ◌≤◌, ◌^◌, List, [], ◌∷◌, ◌++◌, length, take, drop, cond, refl, Option, Some, None, IfNone}
use Rattle.std.specs.Int.{w64, to_le_bytes}
use Rattle.std.specs.List.{AllByRecursion}
use Rattle.std.proofs.Common.{sym, ◌∙◌, ap, arith, subst, append_assoc, append-nil, length-append, length-drop, length-take}
use Rattle.std.proofs.Math.ListN.{set}
use Rattle.std.proofs.Math.Seq.{drop-append_seam, take-append_seam, drop-append-add, set-append_seam}
use Rattle.std.proofs.lemmas.Bool.{lt-ltb, le-ltb}
use Rattle.std.proofs.lemmas.List.{drop-append-le, drop-take, take-append-drop, same_from_push}
use Rattle.oas_runs.specs.Entries.{Entry, number_bytes, entry_bytes, block_bytes, entries, Fits, FirstHas, IsBlock, but_last, LastBegins}
use Rattle.oas_runs.specs.Blocks.{joined}
use Rattle.oas_runs.specs.Laws.EntryLaws.{IsMore, block_bytes-append, block-append, IsBlock-written, entries-written}
use Rattle.oas_runs.proofs.EntryLemmas.{later, first_has}

-- ---- a list without its last item, and that item

abbrev pub last_of : List Entry → List Entry
last_of [] = []
last_of (p ∷ []) = p ∷ []
last_of (p ∷ q ∷ ps) = last_of (q ∷ ps)

apart : (es : List Entry) → es ≡ but_last es ++ last_of es
apart [] = refl
apart (p ∷ []) = refl
apart (p ∷ q ∷ ps) = ap (λ (qs : List Entry). p ∷ qs) (apart (q ∷ ps))

fits_last : (es : List Entry) → AllByRecursion Fits es → AllByRecursion Fits (last_of es)
fits_last [] h = tt
fits_last (p ∷ []) h = h
fits_last (p ∷ q ∷ ps) h = fits_last (q ∷ ps) h.1

fits_front : (es : List Entry) → AllByRecursion Fits es → AllByRecursion Fits (but_last es)
fits_front [] h = tt
fits_front (p ∷ []) h = tt
fits_front (p ∷ q ∷ ps) h = (h.0, fits_front (q ∷ ps) h.1)

-- only an empty list has none
pub last-none : (es : List Entry) → last_of es ≡ [] → es ≡ []
last-none [] e = refl
last-none (p ∷ []) e = e
last-none (p ∷ q ∷ ps) e = let l = ap length (last-none (q ∷ ps) e) in absurd (omega (arith, l))

pub last-some : (es : List Entry) → (es ≡ [] → ⊥) → (p : Entry) × (last_of es ≡ p ∷ [])
last-some [] h = absurd (h refl)
last-some (p ∷ []) h = (p, refl)
last-some (p ∷ q ∷ ps) h = last-some (q ∷ ps) (λ e. let l = ap length e in omega (arith, l))

-- and there is one at most
last-one : (es ps : List Entry) (p : Entry) → last_of es ≡ p ∷ ps → es ≡ but_last es ++ p ∷ []
last-one [] ps p e = let l = ap length e in absurd (omega (arith, l))
last-one (x ∷ []) ps p e = ap (λ (xs : List Entry). head_of p xs ∷ []) e where
  head_of : Entry → List Entry → Entry
  head_of d [] = d
  head_of d (y ∷ ys) = y
last-one (x ∷ y ∷ xs) ps p e = ap (λ (qs : List Entry). x ∷ qs) (last-one (y ∷ xs) ps p e)

-- without it the rest is left
pub but_last-push : (es ps : List Entry) (p : Entry) → es ≡ ps ++ p ∷ [] → but_last es ≡ ps
but_last-push [] ps p e = let l = ap length e ∙ length-append ps (p ∷ []) in absurd (omega (arith, l))
but_last-push (x ∷ xs) ps p e =
    let some = last-some (x ∷ xs) (λ n. let l = ap length n in omega (arith, l)) in
    (same_from_push (but_last (x ∷ xs)) ps some.0 p (sym (last-one (x ∷ xs) [] some.0 some.1) ∙ e)).0

-- ---- where the last entry begins

-- what reading it requires, and what is read
pub record StandsLast (at : ℕ) (left : List ℕ) (es : List Entry) : Type 0 where
  pub within : at ≤ length left
  pub block : IsBlock (drop at left)
  pub read : entries (drop at left) ≡ last_of es
  pub front : take at left ≡ block_bytes (but_last es)

pub stands_last : (at : ℕ) (left : List ℕ) (es : List Entry) → IsBlock left → entries left ≡ es → LastBegins at es → StandsLast at left es
stands_last at left es b e h =
    let front = block_bytes (but_last es) in
    let last = block_bytes (last_of es) in
    let whole : left ≡ front ++ last = b.is ∙ ap block_bytes (e ∙ apart es) ∙ block_bytes-append (but_last es) (last_of es) in
    let rest : drop at left ≡ last = (λ i. drop (h i) (whole i)) ∙ drop-append_seam front last in
    let fits = fits_last es (subst (AllByRecursion Fits) e b.fits) in
    record {
      within = omega (arith, h, ap length whole, length-append front last);
      block = IsBlock-written (drop at left) (last_of es) fits rest;
      read = entries-written (drop at left) (last_of es) fits rest;
      front = (λ i. take (h i) (whole i)) ∙ take-append_seam front last;
    }

-- what was read is the last
pub last_read : (others : List ℕ) (es ps : List Entry) (p : Entry) → entries others ≡ last_of es → entries others ≡ p ∷ ps → (qs : List Entry) × (es ≡ qs ++ p ∷ [])
last_read others es ps p r e = (but_last es, last-one es ps p (sym r ∙ e))

pub none_read : (others : List ℕ) (es : List Entry) → entries others ≡ last_of es → entries others ≡ [] → es ≡ []
none_read others es r e = last-none es (sym r ∙ e)

-- what follows where there is none
pub none_then : {X P Q : Type 0} (r : Option X) → IfNone r P → (P → Q) → IfNone r Q
none_then None h f = f h
none_then (Some x) h f = tt

-- in bytes of which some were taken
pub record StandsBehind (at start : ℕ) (bytes : List ℕ) (es : List Entry) : Type 0 where
  pub within : start + at ≤ length bytes
  pub block : IsBlock (drop (start + at) bytes)
  pub read : entries (drop (start + at) bytes) ≡ last_of es
  pub front : drop start (take (start + at) bytes) ≡ block_bytes (but_last es)

pub stands_behind : (at start : ℕ) (bytes : List ℕ) (es : List Entry) → start ≤ length bytes → IsBlock (drop start bytes) → entries (drop start bytes) ≡ es → LastBegins at es
    → StandsBehind at start bytes es
stands_behind at start bytes es w b e h =
    let s = stands_last at (drop start bytes) es b e h in
    let same : drop at (drop start bytes) ≡ drop (start + at) bytes = later start at bytes (drop start bytes) refl in
    record {
      within = omega (arith, w, s.within, length-drop start bytes);
      block = subst IsBlock same s.block;
      read = ap entries (sym same) ∙ s.read;
      front = drop-take start at bytes ∙ s.front;
    }

-- ---- its count

-- what counting it requires
pub counts_last : (others : List ℕ) (es : List Entry) (more : ℕ) → entries others ≡ last_of es → (es ≡ [] → ⊥)
    → ((ps : List Entry) (p : Entry) → es ≡ ps ++ p ∷ [] → p.1 + more < 2 ^ 64) → (p : Entry) × (entries others ≡ p ∷ []) × (p.1 + more < 2 ^ 64)
counts_last others es more r h fits =
    let some = last-some es h in
    (some.0, r ∙ some.1, fits (but_last es) some.0 (last-one es [] some.0 some.1))

-- with another count it is still the last
pub record Recounts (at start : ℕ) (news : List ℕ) (es : List Entry) (more : ℕ) : Type 0 where
  pub within : start ≤ length news
  pub block : IsBlock (drop start news)
  pub counted : (ps : List Entry) (p : Entry) → es ≡ ps ++ p ∷ [] → entries (drop start news) ≡ ps ++ (p.0, p.1 + more) ∷ []
  pub begins : LastBegins at (entries (drop start news))
  pub some : entries (drop start news) ≡ [] → ⊥

pub recounts : (at start : ℕ) (bytes news : List ℕ) (es : List Entry) (more : ℕ) → start ≤ length bytes → IsBlock (drop start bytes) → entries (drop start bytes) ≡ es
    → LastBegins at es → ((ps : List Entry) (p : Entry) → es ≡ ps ++ p ∷ [] → p.1 + more < 2 ^ 64)
    → ((p : Entry) × (entries (drop (start + at) bytes) ≡ p ∷ []) × (news ≡ take (start + at) bytes ++ entry_bytes (p.0, p.1 + more))) → Recounts at start news es more
recounts at start bytes news es more w b e h fit (p, r, n) =
    let s = stands_behind at start bytes es w b e h in
    let front = but_last es in
    let is : es ≡ front ++ p ∷ [] = last-one es [] p (sym s.read ∙ r) in
    let fits = subst (AllByRecursion Fits) e b.fits in
    let one : AllByRecursion Fits (p ∷ []) = subst (AllByRecursion Fits) (sym s.read ∙ r) (fits_last es fits) in
    let taken : length (take (start + at) bytes) ≡ start + at = length-take-within (start + at) bytes s.within in
    let written : drop start news ≡ block_bytes front ++ entry_bytes (p.0, p.1 + more) =
    ap (λ (bs : List ℕ). drop start bs) n ∙ drop-append-le start (take (start + at) bytes) (entry_bytes (p.0, p.1 + more)) (omega (arith, taken))
    ∙ ap (λ (bs : List ℕ). bs ++ entry_bytes (p.0, p.1 + more)) s.front in
    let fronts : IsMore (block_bytes front ++ entry_bytes (p.0, p.1 + more)) (entries (block_bytes front) ++ (p.0, p.1 + more) ∷ []) =
    block-append (block_bytes front) (p.0, p.1 + more) (IsBlock-written (block_bytes front) front (fits_front es fits) refl) (one.0.0, fit front p is) in
    let now : entries (drop start news) ≡ front ++ (p.0, p.1 + more) ∷ [] =
    ap entries written ∙ fronts.entries ∙ ap (λ (ps : List Entry). ps ++ (p.0, p.1 + more) ∷ []) (entries-written (block_bytes front) front (fits_front es fits) refl) in
    record {
      within = omega (arith, ap length n, length-append (take (start + at) bytes) (entry_bytes (p.0, p.1 + more)), taken);
      block = subst IsBlock (sym written) fronts.block;
      counted = λ qs q f. let same = same_from_push front qs p q (sym is ∙ f) in now ∙ (λ i. same.0 i ++ ((same.1 i).0, (same.1 i).1 + more) ∷ []);
      begins = h ∙ sym (ap (λ (ps : List Entry). length (block_bytes ps)) (but_last-push (entries (drop start news)) front (p.0, p.1 + more) now));
      some = λ z. let l = ap length (sym now ∙ z) ∙ refl in omega (arith, l, length-append front ((p.0, p.1 + more) ∷ []));
    } where
      length-take-within : (n : ℕ) (xs : List ℕ) → n ≤ length xs → length (take n xs) ≡ n
      length-take-within n xs h = omega (arith, length-take n xs, h)

-- ---- its count where it stands

short_number : (n : ℕ) → n < 255 → number_bytes n ≡ n ∷ []
short_number n h = ap (λ b. cond b (n ∷ []) (255 ∷ to_le_bytes w64 n)) (lt-ltb n 255 h)

long_number : (n : ℕ) → 255 ≤ n → number_bytes n ≡ 255 ∷ to_le_bytes w64 n
long_number n h = ap (λ b. cond b (n ∷ []) (255 ∷ to_le_bytes w64 n)) (le-ltb n 255 h)

-- what is in front of the count, and what the entry is
pub record CountStands (at end : ℕ) (bytes key : List ℕ) (times : ℕ) (p : Entry) : Type 0 where
  pub is_key : p.0 ≡ key
  pub is_times : p.1 ≡ times
  pub ends : end ≡ length (number_bytes (length p.0)) + length (number_bytes p.1) + length p.0
  pub within : at + end ≤ length bytes
  pub whole : bytes ≡ (take at bytes ++ number_bytes (length p.0)) ++ (number_bytes p.1 ++ p.0)
  pub front : length (take at bytes ++ number_bytes (length p.0)) ≡ at + length (number_bytes (length p.0))

-- the parts of an entry behind others
behind : (xs : List ℕ) (key : List ℕ) (n : ℕ) → xs ++ entry_bytes (key, n) ≡ (xs ++ number_bytes (length key)) ++ (number_bytes n ++ key)
behind xs key n =
    ap (λ (bs : List ℕ). xs ++ bs) (append_assoc (number_bytes (length key)) (number_bytes n) key)
    ∙ sym (append_assoc xs (number_bytes (length key)) (number_bytes n ++ key))

pub count_stands : (at end times : ℕ) (bytes others key : List ℕ) (p : Entry) → at ≤ length bytes → IsBlock (drop at bytes) → others ≡ drop at bytes
    → end ≤ length others → entries others ≡ (key, times) ∷ entries (drop end others) → IsBlock (drop end others) → entries (drop at bytes) ≡ p ∷ []
    → CountStands at end bytes key times p
count_stands at end times bytes others key p w b a h r k e =
    let first : p ∷ [] ≡ (key, times) ∷ entries (drop end others) = sym e ∙ ap entries (sym a) ∙ r in
    let has : FirstHas end (p ∷ []) = first_has others key times end (p ∷ []) (subst IsBlock (sym a) b) h r k (ap entries a ∙ e) in
    let is : drop at bytes ≡ entry_bytes p = b.is ∙ ap block_bytes e ∙ append-nil (entry_bytes p) in
    record {
      is_key = ap (λ (ps : List Entry). (head_of p ps).0) first;
      is_times = ap (λ (ps : List Entry). (head_of p ps).1) first;
      ends = has ∙ length-append (number_bytes (length p.0) ++ number_bytes p.1) p.0
          ∙ ap (λ (n : ℕ). n + length p.0) (length-append (number_bytes (length p.0)) (number_bytes p.1));
      within = omega (arith, w, h, ap length a, length-drop at bytes);
      whole = sym (take-append-drop at bytes) ∙ ap (λ (bs : List ℕ). take at bytes ++ bs) is ∙ behind (take at bytes) p.0 p.1;
      front = length-append (take at bytes) (number_bytes (length p.0)) ∙ ap (λ (n : ℕ). n + length (number_bytes (length p.0))) (omega (arith, length-take at bytes, w));
    } where
      head_of : Entry → List Entry → Entry
      head_of d [] = d
      head_of d (y ∷ ys) = y

-- a count of a byte
pub recounted_short : (at end times more start : ℕ) (bytes key : List ℕ) (p : Entry) → CountStands at end bytes key times p → times + more < 255
    → start ≡ at + (end - length key) → set bytes (start - 1) (times + more) ≡ take at bytes ++ entry_bytes (p.0, p.1 + more)
recounted_short at end times more start bytes key p s l d =
    let front = take at bytes ++ number_bytes (length p.0) in
    let one : number_bytes p.1 ≡ p.1 ∷ [] = short_number p.1 (omega (arith, s.is_times, l)) in
    let counted : number_bytes (p.1 + more) ≡ (times + more) ∷ [] = ap (λ (n : ℕ). number_bytes (n + more)) s.is_times ∙ short_number (times + more) l in
    let place : start - 1 ≡ length front = omega (arith, d, s.ends, s.front, ap length s.is_key, ap length one) in
    (λ i. set ((s.whole ∙ ap (λ (bs : List ℕ). front ++ (bs ++ p.0)) one) i) (place i) (times + more))
    ∙ set-append_seam front p.1 p.0 (times + more)
    ∙ sym (behind (take at bytes) p.0 (p.1 + more) ∙ ap (λ (bs : List ℕ). front ++ (bs ++ p.0)) counted)

-- a count of nine
pub recounted_long : (at end times more start : ℕ) (bytes news key : List ℕ) (p : Entry) → CountStands at end bytes key times p → 255 ≤ times
    → start ≡ at + (end - length key) → news ≡ take (start - 8) bytes ++ (to_le_bytes w64 (times + more) ++ drop start bytes)
    → news ≡ take at bytes ++ entry_bytes (p.0, p.1 + more)
recounted_long at end times more start bytes news key p s l d n =
    let front = take at bytes ++ number_bytes (length p.0) in
    let fronts = front ++ 255 ∷ [] in
    let eight = to_le_bytes w64 p.1 in
    let long : number_bytes p.1 ≡ 255 ∷ eight = long_number p.1 (omega (arith, s.is_times, l)) in
    let counted : number_bytes (p.1 + more) ≡ 255 ∷ to_le_bytes w64 (times + more) =
    ap (λ (k : ℕ). number_bytes (k + more)) s.is_times ∙ long_number (times + more) (omega (arith, l)) in
    let whole : bytes ≡ fronts ++ (eight ++ p.0) = s.whole ∙ ap (λ (bs : List ℕ). front ++ (bs ++ p.0)) long ∙ sym (append_assoc front (255 ∷ []) (eight ++ p.0)) in
    let size : length fronts ≡ at + length (number_bytes (length p.0)) + 1 = length-append front (255 ∷ []) ∙ ap (λ (k : ℕ). k + 1) s.front in
    let before : start - 8 ≡ length fronts = omega (arith, d, s.ends, size, ap length s.is_key, ap length long) in
    let after : start ≡ length fronts + 8 = omega (arith, d, s.ends, size, ap length s.is_key, ap length long) in
    let taken : take (start - 8) bytes ≡ fronts = (λ i. take (before i) (whole i)) ∙ take-append_seam fronts (eight ++ p.0) in
    let left : drop start bytes ≡ p.0 = (λ i. drop (after i) (whole i)) ∙ drop-append-add fronts (eight ++ p.0) 8 in
    n ∙ (λ i. taken i ++ (to_le_bytes w64 (times + more) ++ left i))
    ∙ append_assoc front (255 ∷ []) (to_le_bytes w64 (times + more) ++ p.0)
    ∙ sym (behind (take at bytes) p.0 (p.1 + more) ∙ ap (λ (bs : List ℕ). front ++ (bs ++ p.0)) counted)

-- ---- the last entry of a run that grows

pub begins_next : (at : ℕ) (last news : List Entry) (p : Entry) → at ≡ length (block_bytes last) → news ≡ last ++ p ∷ [] → LastBegins at news
begins_next at last news p h e = h ∙ sym (ap (λ (ps : List Entry). length (block_bytes ps)) (but_last-push news last p e))

pub begins_first : (news : List Entry) (p : Entry) → news ≡ p ∷ [] → LastBegins 0 news
begins_first news p e = begins_next 0 [] news p refl e

-- none in the last block are none at all
pub none_whole : (full : List (List Entry)) (last whole : List Entry) → (last ≡ [] → full ≡ []) → joined full ++ last ≡ whole → last ≡ [] → whole ≡ []
none_whole full last whole h v e = sym v ∙ (λ i. joined (h e i) ++ e i)

pub some_whole : (full : List (List Entry)) (last whole : List Entry) (p : Entry) → joined full ++ last ≡ whole → (es : List Entry) × (last ≡ es ++ p ∷ [])
    → (es : List Entry) × (whole ≡ es ++ p ∷ [])
some_whole full last whole p v (es, e) = (joined full ++ es, sym v ∙ ap (λ (xs : List Entry). joined full ++ xs) e ∙ sym (append_assoc (joined full) es (p ∷ [])))

pub whole_fits : (full : List (List Entry)) (last whole : List Entry) (more : ℕ) → joined full ++ last ≡ whole
    → ((ps : List Entry) (p : Entry) → whole ≡ ps ++ p ∷ [] → p.1 + more < 2 ^ 64) → (ps : List Entry) (p : Entry) → last ≡ ps ++ p ∷ [] → p.1 + more < 2 ^ 64
whole_fits full last whole more v fits ps p e = let s = some_whole full last whole p v (ps, e) in fits s.0 p s.1

pub whole_counted : (full : List (List Entry)) (last news whole : List Entry) (more : ℕ) → joined full ++ last ≡ whole → (last ≡ [] → ⊥)
    → ((ps : List Entry) (p : Entry) → last ≡ ps ++ p ∷ [] → news ≡ ps ++ (p.0, p.1 + more) ∷ []) → (ps : List Entry) (p : Entry) → whole ≡ ps ++ p ∷ []
    → joined full ++ news ≡ ps ++ (p.0, p.1 + more) ∷ []
whole_counted full last news whole more v h c ps p e =
    let some = last-some last h in
    let front = but_last last in
    let is : last ≡ front ++ some.0 ∷ [] = last-one last [] some.0 some.1 in
    let s : whole ≡ (joined full ++ front) ++ some.0 ∷ [] = sym v ∙ ap (λ (xs : List Entry). joined full ++ xs) is ∙ sym (append_assoc (joined full) front (some.0 ∷ [])) in
    let same = same_from_push (joined full ++ front) ps some.0 p (sym s ∙ e) in
    ap (λ (xs : List Entry). joined full ++ xs) (c front some.0 is)
    ∙ sym (append_assoc (joined full) front ((some.0.0, some.0.1 + more) ∷ []))
    ∙ (λ i. same.0 i ++ ((same.1 i).0, (same.1 i).1 + more) ∷ [])
