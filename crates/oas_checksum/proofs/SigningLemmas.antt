-- The last four bytes, and the sums of those before them, after one more byte.
use Rattle.std.proofs.Common.{◌≡◌, ℕ, zero, suc, ◌+◌, ◌-◌, ◌*◌, ◌/◌, ◌%◌, ◌<◌, ◌≤◌, List, [], ◌∷◌, ◌++◌, length, take, drop, None, Some, sym, ap, subst, ◌∙◌, append_assoc, arith}
use Rattle.std.proofs.lemmas.List.{length-append, length-drop, length-take-le, take-append-drop}
use Rattle.std.proofs.Math.Seq.{take-append_seam, drop-append_seam}
use Rattle.oas_checksum.specs.Signed.{signed}
use Rattle.oas_checksum.specs.Sums.{AreSums}
use Rattle.oas_checksum.specs.Signing.{last_four, held, Shifts, AreSigned}

-- ---- a number's bytes

-- one more byte on top of a number
abbrev topped : ℕ → ℕ → ℕ
topped number byte = number / 256 + byte * 16777216

four_shifted : (number byte : ℕ) → number < 4294967296 → byte < 256 → held (topped number byte) 4 ≡ drop 1 (held number 4) ++ byte ∷ []
four_shifted number byte p q = λ i. (e0 i ∷ e1 i ∷ e2 i ∷ e3 i ∷ []) where
  e0 : topped number byte % 256 ≡ number / 256 % 256
  e0 = omega arith

  e1 : topped number byte / 256 % 256 ≡ number / 65536 % 256
  e1 = omega arith

  e2 : topped number byte / 65536 % 256 ≡ number / 16777216
  e2 = omega arith

  e3 : topped number byte / 16777216 ≡ byte
  e3 = omega arith

-- fewer than four, and one more
pub held_more : (number byte count : ℕ) → number < 4294967296 → byte < 256 → count < 4 → Shifts (held number count) byte None (held (topped number byte) (count + 1))
held_more number byte zero p q r = (ap (drop 3) (four_shifted number byte p q), omega arith)
held_more number byte (suc zero) p q r = (ap (drop 2) (four_shifted number byte p q), omega arith)
held_more number byte (suc (suc zero)) p q r = (ap (drop 1) (four_shifted number byte p q), omega arith)
held_more number byte (suc (suc (suc zero))) p q r = (four_shifted number byte p q, omega arith)
held_more number byte (suc (suc (suc (suc count)))) p q r = absurd (omega arith)

-- ---- the sums before the last four

pub signed_none : (sums : (ℕ × ℕ) × List ℕ) → AreSums sums.0 [] → sums.1 ≡ [] → AreSigned sums []
signed_none sums p q = record { before = p; last = q }

few : (bytes last : List ℕ) → last ≡ last_four bytes → length last + 1 ≤ 4 → length bytes - 4 ≡ 0
few bytes last e h = let n : length last ≡ length bytes - (length bytes - 4) = ap length e ∙ length-drop (length bytes - 4) bytes in omega (arith, n, h)

pub signed_more : (before : ℕ × ℕ) (old new : List ℕ) (byte : ℕ) (bytes : List ℕ) → AreSigned (before, old) bytes → Shifts old byte None new → AreSigned (before, new) (bytes ++ byte ∷ [])
signed_more before old new byte bytes f s =
    let l : length (bytes ++ byte ∷ []) ≡ length bytes + 1 = length-append bytes (byte ∷ []) in
    let n : length new ≡ length old + 1 = ap length s.0 ∙ length-append old (byte ∷ []) in
    let none : length bytes - 4 ≡ 0 = few bytes old f.last (omega (arith, n, s.1)) in
    let o : old ≡ bytes = f.last ∙ ap (λ (k : ℕ). drop k bytes) none in
    let still : length (bytes ++ byte ∷ []) - 4 ≡ 0 = omega (arith, l, ap length o, n, s.1) in
    record {
      before = subst (λ (x : List ℕ). AreSums before x) (ap (λ (k : ℕ). take k bytes) none ∙ sym (ap (λ (k : ℕ). take k (bytes ++ byte ∷ [])) still)) f.before;
      last = s.0 ∙ ap (λ (x : List ℕ). x ++ byte ∷ []) o ∙ sym (ap (λ (k : ℕ). drop k (bytes ++ byte ∷ [])) still);
    }

pub signed_shifted : (before after : ℕ × ℕ) (old new : List ℕ) (byte first : ℕ) (bytes : List ℕ) → AreSigned (before, old) bytes → Shifts old byte (Some first) new
    → ((xs : List ℕ) → AreSums before xs → AreSums after (xs ++ first ∷ [])) → AreSigned (after, new) (bytes ++ byte ∷ [])
signed_shifted before after old new byte first bytes f s h =
    let front = signed bytes ++ first ∷ [] in
    let l : length (bytes ++ byte ∷ []) ≡ length bytes + 1 = length-append bytes (byte ∷ []) in
    let five : length (first ∷ new) ≡ length new + 1 = omega arith in
    let n : length old + 1 ≡ length new + 1 = sym (length-append old (byte ∷ [])) ∙ ap length s.0 ∙ five in
    let o : length old ≡ length bytes - (length bytes - 4) = ap length f.last ∙ length-drop (length bytes - 4) bytes in
    let t : length (signed bytes) ≡ length bytes - 4 = length-take-le (length bytes - 4) bytes (omega arith) in
    let m : length (bytes ++ byte ∷ []) - 4 ≡ length front = omega (arith, l, n, o, s.1, t, length-append (signed bytes) (first ∷ [])) in
    let whole : bytes ++ byte ∷ [] ≡ front ++ new =
    ap (λ (x : List ℕ). x ++ byte ∷ []) (sym (take-append-drop (length bytes - 4) bytes) ∙ ap (λ (x : List ℕ). signed bytes ++ x) (sym f.last))
    ∙ append_assoc (signed bytes) old (byte ∷ []) ∙ ap (λ (x : List ℕ). signed bytes ++ x) s.0 ∙ sym (append_assoc (signed bytes) (first ∷ []) new) in
    record {
      before = subst (λ (x : List ℕ). AreSums after x) (sym (ap (λ (k : ℕ). take k (bytes ++ byte ∷ [])) m ∙ ap (λ (x : List ℕ). take (length front) x) whole ∙ take-append_seam front new)) (h (signed bytes) f.before);
      last = sym (ap (λ (k : ℕ). drop k (bytes ++ byte ∷ [])) m ∙ ap (λ (x : List ℕ). drop (length front) x) whole ∙ drop-append_seam front new);
    }
