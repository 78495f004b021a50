-- Bytes that are put many times in a row.
use Rattle.std.proofs.Common.{◌≡◌, ℕ, zero, suc, ◌+◌, ◌*◌, ◌-◌, ◌/◌, ◌%◌, ◌<◌, ◌≤◌, List, ◌++◌, length, take, Result, sym, ap, subst, ◌∙◌, append_assoc, length-append, arith}
use Rattle.std.proofs.Math.Nat.{mul_comm, suc-mul, mul-le-mul_left, mul-le-mul_right}
use Rattle.std.proofs.Math.Seq.{take-append_seam}
use Rattle.std.proofs.lemmas.List.{length-take-le}
use Rattle.std.specs.List.{repeat}
use Rattle.oas_num.specs.SinkFault.{SinkFault}
use Rattle.oas_num.specs.Writing.{Puts, PutsPrefix, Writes}
use Rattle.oas_num.proofs.WritingLemmas.{front_fails, Writes-then}
use Rattle.oas_num.proofs.PuttingLemmas.{PutSoFar, fails_at, ◌▸◌}

repeat-add : (m n : ℕ) (bytes : List ℕ) → repeat (m + n) bytes ≡ repeat m bytes ++ repeat n bytes
repeat-add zero n bytes =
    let e : 0 + n ≡ n = omega arith in
    ap (λ (k : ℕ). repeat k bytes) e
repeat-add (suc m) n bytes =
    let e : suc m + n ≡ suc (m + n) = omega arith in
    ap (λ (k : ℕ). repeat k bytes) e ∙ ap (λ (b : List ℕ). bytes ++ b) (repeat-add m n bytes) ∙ sym (append_assoc bytes (repeat m bytes) (repeat n bytes))

repeat-repeat : (m n : ℕ) (bytes : List ℕ) → repeat m (repeat n bytes) ≡ repeat (m * n) bytes
repeat-repeat zero n bytes =
    let e : 0 ≡ 0 * n = omega arith in
    ap (λ (k : ℕ). repeat k bytes) e
repeat-repeat (suc m) n bytes =
    let e : n + m * n ≡ suc m * n = omega (arith, suc-mul m n) in
    ap (λ (b : List ℕ). repeat n bytes ++ b) (repeat-repeat m n bytes) ∙ sym (repeat-add n (m * n) bytes) ∙ ap (λ (k : ℕ). repeat k bytes) e

pub length-repeat : (n : ℕ) (bytes : List ℕ) → length (repeat n bytes) ≡ n * length bytes
length-repeat zero bytes = omega arith
length-repeat (suc n) bytes =
    let e : length bytes + n * length bytes ≡ suc n * length bytes = omega (arith, suc-mul n (length bytes)) in
    omega (arith, length-append bytes (repeat n bytes), length-repeat n bytes)

-- the first of them
take-repeat : (m n : ℕ) (bytes : List ℕ) → m ≤ n → take (m * length bytes) (repeat n bytes) ≡ repeat m bytes
take-repeat m n bytes le =
    let e : n ≡ m + (n - m) = omega arith in
    let s : take (length (repeat m bytes)) (repeat m bytes ++ repeat (n - m) bytes) ≡ repeat m bytes = take-append_seam (repeat m bytes) (repeat (n - m) bytes) in
    ap (λ (k : ℕ). take k (repeat n bytes)) (sym (length-repeat m bytes)) ∙ ap (λ (b : List ℕ). take (length (repeat m bytes)) b) (ap (λ (k : ℕ). repeat k bytes) e ∙ repeat-add m (n - m) bytes) ∙ s

-- of what holds so many: whole ones, and a part of one
wholes_and_part : (times copies size : ℕ) (bytes all : List ℕ) → all ≡ repeat copies bytes → 0 < copies → size ≡ length bytes →
    repeat times bytes ≡ repeat (times / copies) all ++ take (times % copies * size) all
wholes_and_part times copies size bytes all is some same =
    let e : times ≡ times / copies * copies + times % copies = omega (arith, mul_comm (times / copies) copies) in
    let less : times % copies ≤ copies = omega arith in
    rw (is, same) (ap (λ (k : ℕ). repeat k bytes) e ∙ repeat-add (times / copies * copies) (times % copies) bytes ∙
    ap (λ (b : List ℕ). b ++ repeat (times % copies) bytes) (sym (repeat-repeat (times / copies) copies bytes)) ∙
    ap (λ (b : List ℕ). repeat (times / copies) (repeat copies bytes) ++ b) (sym (take-repeat (times % copies) copies bytes less)))

-- ---- a loop that puts them

-- this many times they were put
abbrev pub RepeatsLeft : {K : Type 0} → (K → List ℕ → K → Type 0) → (K → ℕ) → List ℕ → ℕ → ℕ → K → K → Type 0
RepeatsLeft given failures bytes times i old now = PutSoFar given failures (repeat times bytes) (repeat (times - i) bytes) old now

repeat_next : (times i : ℕ) (bytes : List ℕ) → i < times → repeat (times - i) bytes ≡ bytes ++ repeat (times - (i + 1)) bytes
repeat_next times i bytes lt =
    let one : times - i ≡ suc (times - (i + 1)) = omega (arith, lt) in
    ap (λ (n : ℕ). repeat n bytes) one

module _ {K : Type 0} {given : K → List ℕ → K → Type 0} {failures : K → ℕ} {old mid : K} (bytes : List ℕ) (times i : ℕ) (lt : i < times)
    (left : RepeatsLeft given failures bytes times i old mid) where
  once_left : PutSoFar given failures (repeat times bytes) (bytes ++ repeat (times - (i + 1)) bytes) old mid
  once_left = subst (λ (b : List ℕ). PutSoFar given failures (repeat times bytes) b old mid) (repeat_next times i bytes lt) left

  pub once_fails : {new : K} → PutsPrefix given failures mid bytes new → PutsPrefix given failures old (repeat times bytes) new
  once_fails q = fails_at _ once_left q

  pub once_put : {new : K} → Puts given failures mid bytes new → RepeatsLeft given failures bytes times (i + 1) old new
  once_put q = once_left ▸ q

-- ---- how many there are

-- what a batch holds is as long as it says
pub held_is : (held most : ℕ) (room bytes : List ℕ) → take held room ≡ bytes → held ≤ most → length room ≡ most → length bytes ≡ held
held_is held most room bytes is within full = sym (ap length is) ∙ length-take-le held room (omega arith)

-- no more than all their bytes
pub repeat_few : (n most : ℕ) (bytes all : List ℕ) → all ≡ repeat n bytes → 0 < length bytes → length all ≤ most → n ≤ most
repeat_few n most bytes all is some few =
    let least : n * 1 ≤ n * length bytes = mul-le-mul_left n (omega arith) in
    omega (arith, ap length is, length-repeat n bytes)

-- all of them behind themselves
pub repeat_double : (n : ℕ) (bytes all : List ℕ) → all ≡ repeat n bytes → all ++ all ≡ repeat (n * 2) bytes
repeat_double n bytes all is =
    let e : n + n ≡ n * 2 = omega arith in
    ap (λ (b : List ℕ). b ++ b) is ∙ sym (repeat-add n n bytes) ∙ ap (λ (k : ℕ). repeat k bytes) e

-- a part of one ends in it
pub part_within : (times copies size : ℕ) (bytes all : List ℕ) → all ≡ repeat copies bytes → 0 < copies → size ≡ length bytes → times % copies * size ≤ length all
part_within times copies size bytes all is some same =
    let less : times % copies ≤ copies = omega arith in
    let e : times % copies * length bytes ≤ copies * length bytes = mul-le-mul_right (length bytes) less in
    rw same (omega (arith, ap length is, length-repeat copies bytes))

module _ {K : Type 0} {given : K → List ℕ → K → Type 0} {failures : K → ℕ} {old : K} (times copies size : ℕ) (bytes all : List ℕ)
    (is : all ≡ repeat copies bytes) (some : 0 < copies) (same : size ≡ length bytes) where
  pub wholes_fail : {new : K} → PutsPrefix given failures old (repeat (times / copies) all) new → PutsPrefix given failures old (repeat times bytes) new
  wholes_fail {new} q = rw (wholes_and_part times copies size bytes all is some same) (front_fails given failures old new _ _ q)

  pub part_decides : {mid : K} (new : K) (r : Result Unit SinkFault) → Puts given failures old (repeat (times / copies) all) mid → Writes given failures mid (take (times % copies * size) all) r new
      → Writes given failures old (repeat times bytes) r new
  part_decides {mid} new r p q = rw (wholes_and_part times copies size bytes all is some same) (Writes-then given failures old mid new _ _ r p q)
