-- A list of bits begins with at most one deflated stream.
use Rattle.std.proofs.Common.{◌≡◌, ℕ, zero, suc, ◌+◌, ◌-◌, ◌*◌, ◌<◌, ◌≤◌, List, [], ◌∷◌, ◌++◌, get_or, take, drop, inl, inr, sym, ap, subst, ◌∙◌, arith}
use Rattle.std.specs.Prelude.{◌⊎◌}
use Rattle.oas_inflate.specs.Bits.{IsBit, IsNumber, IsWord, whole_bytes}
use Rattle.oas_inflate.specs.Codes.{IsSymbol, IsAt, symbols_of, first_code, IsComplete}
use Rattle.oas_inflate.specs.Grammar.{Then, When, Either, Only, Chain, Steps}
use Rattle.oas_inflate.specs.Deflate.{IsNumbers, IsStored, length_extra, length_base, distance_extra, distance_base, IsCopy, IsFar, IsMatch, IsToken, IsBlockEnd, IsCoded, in_order, IsAgain, last_of, IsRun, IsLengthStep, IsLengthEnd, IsLengths, IsWithCodes, IsDynamic, IsBody, IsBlock, IsDeflated, fixed_literals, fixed_distances}
use Rattle.oas_inflate.proofs.CodeLemmas.{only_here}
use Rattle.oas_standard.specs.declared.blocks.BlockHead.{BlockHead}
use Rattle.oas_block.specs.Blocks.{Represents}

-- at most one value is encoded there, and it ends in one place
pub record One {V : Type 0} (G : V → List ℕ → List ℕ → Type 0) : Type 0 where
  pub one : (v w : V) (old a b : List ℕ) → G v old a → G w old b → (v ≡ w) × (a ≡ b)

-- nothing is encoded there by both
pub record Apart {V : Type 0} (G H : V → List ℕ → List ℕ → Type 0) : Type 0 where
  pub apart : (v w : V) (old a b : List ℕ) → G v old a → H w old b → ⊥

-- ---- the combinators

then_one : {X V : Type 0} {A : X → List ℕ → List ℕ → Type 0} {B : X → V → List ℕ → List ℕ → Type 0} → One A → ((x : X) → One (B x)) → One (Then A B)
then_one {X} {V} {A} {B} p q = record {
  one = λ v w old a b h k.
      let same = p.one k.first h.first old k.mid h.mid k.has h.has in
      (q h.first).one v w h.mid a b h.rest (subst (λ (m : List ℕ). B h.first w m b) same.1 (subst (λ (x : X). B x w k.mid b) same.0 k.rest));
}

when_one : {V : Type 0} {P : Type 0} {A : V → List ℕ → List ℕ → Type 0} → One A → One (When P A)
when_one p = record { one = λ v w old a b h k. p.one v w old a b h.is k.is }

only_one : {V : Type 0} {value : V} → One (Only value)
only_one = record { one = λ v w old a b h k. (h.is ∙ sym k.is, h.none ∙ sym k.none) }

either_one : {V : Type 0} {A B : V → List ℕ → List ℕ → Type 0} → One A → One B → Apart A B → One (Either A B)
either_one {V} {A} {B} p q r = record {
  one = λ v w old a b h k. elim h [
    | inl x ↦ elim k [ inl y ↦ p.one v w old a b x y | inr y ↦ absurd (r.apart v w old a b x y) ]
    | inr x ↦ elim k [ inl y ↦ absurd (r.apart w v old b a y x) | inr y ↦ q.one v w old a b x y ]
  ];
}

when_apart : {V : Type 0} {P Q : Type 0} {A B : V → List ℕ → List ℕ → Type 0} → (P → Q → ⊥) → Apart (When P A) (When Q B)
when_apart e = record { apart = λ v w old a b h k. e h.holds k.holds }

one_chain : (Step End : List ℕ → List ℕ → List ℕ → List ℕ → Type 0) → ((b : List ℕ) → One (Step b)) → ((b : List ℕ) → One (End b)) → ((b : List ℕ) → Apart (Step b) (End b))
    → (via other : List (List ℕ)) (before v w old a b : List ℕ) → Chain Step End via before v old a → Chain Step End other before w old b → (v ≡ w) × (a ≡ b)
one_chain Step End s e r [] [] before v w old a b h k = (e before).one v w old a b h k
one_chain Step End s e r [] (y ∷ other) before v w old a b h k = absurd ((r before).apart y v old k.0 a k.1 h)
one_chain Step End s e r (x ∷ via) [] before v w old a b h k = absurd ((r before).apart x w old h.0 b h.1 k)
one_chain Step End s e r (x ∷ via) (y ∷ other) before v w old a b h k =
    let same = (s before).one y x old k.0 h.0 k.1 h.1 in
    one_chain Step End s e r via other x v w h.0 a b h.2
    (subst (λ (m : List ℕ). Chain Step End other x w m b) same.1 (subst (λ (z : List ℕ). Chain Step End other z w k.0 b) same.0 k.2))

steps_one : (Step End : List ℕ → List ℕ → List ℕ → List ℕ → Type 0) (before : List ℕ) → ((b : List ℕ) → One (Step b)) → ((b : List ℕ) → One (End b)) → ((b : List ℕ) → Apart (Step b) (End b))
    → One (Steps Step End before)
steps_one Step End before s e r = record { one = λ v w old a b h k. one_chain Step End s e r h.via k.via before v w old a b h.chain k.chain }

-- ---- numbers and symbols

head_same : (x y : ℕ) (a b : List ℕ) → x ∷ a ≡ y ∷ b → (x ≡ y) × (a ≡ b)
head_same x y a b e = (ap (λ (t : List ℕ). get_or t 0 0) e, ap tail_of e) where
  tail_of : List ℕ → List ℕ
  tail_of [] = []
  tail_of (x ∷ xs) = xs

bit_one : (x y : ℕ) (old a b : List ℕ) → IsBit x old a → IsBit y old b → (x ≡ y) × (a ≡ b)
bit_one x y old a b h k = head_same x y a b (sym h.first ∙ k.first)

numbers_one : (width v w : ℕ) (old a b : List ℕ) → IsNumber width v old a → IsNumber width w old b → (v ≡ w) × (a ≡ b)
numbers_one zero v w old a b h k = (h.0 ∙ sym k.0, h.1 ∙ sym k.1)
numbers_one (suc width) v w old a b h k =
    let same = bit_one k.0 h.0 old k.2 h.2 k.3 h.3 in
    let rest = numbers_one width h.1 k.1 h.2 a b h.4 (subst (λ (m : List ℕ). IsNumber width k.1 m b) same.1 k.4) in
    (h.5 ∙ (let e = same.0 in let f = rest.0 in omega arith) ∙ sym k.5, rest.1)

number_one : (width : ℕ) → One (IsNumber width)
number_one width = record { one = λ v w old a b h k. numbers_one width v w old a b h k }

-- a longer word goes on after a shorter one
word_goes_on : (short long more high v w : ℕ) (old a b : List ℕ) → long ≡ short + more → IsWord short high v old a → IsWord long high w old b → IsWord more v w a b
word_goes_on zero long more high v w old a b e h k =
    let l : long ≡ more = omega arith in
    subst (λ (m : List ℕ). IsWord more v w m b) (sym h.1) (subst (λ (x : ℕ). IsWord more x w old b) (sym h.0) (subst (λ (n : ℕ). IsWord n high w old b) l k))
word_goes_on (suc short) zero more high v w old a b e h k = absurd (omega arith)
word_goes_on (suc short) (suc long) more high v w old a b e h k =
    let same = bit_one k.0 h.0 old k.1 h.1 k.2 h.2 in
    word_goes_on short long more (2 * high + h.0) v w h.1 a b (omega arith) h.3
    (subst (λ (m : List ℕ). IsWord long (2 * high + h.0) w m b) same.1 (subst (λ (x : ℕ). IsWord long (2 * high + x) w k.1 b) same.0 k.3))

symbols_one : (lengths : List ℕ) (s t : ℕ) (old a b : List ℕ) (h : IsSymbol lengths s old a) (k : IsSymbol lengths t old b) → h.n ≤ k.n → (t ≡ s) × (b ≡ a)
symbols_one lengths s t old a b h k le =
    let c : h.k ≡ first_code lengths h.n + h.k - first_code lengths h.n = omega arith in
    only_here lengths h.n (first_code lengths h.n + h.k) s (k.n - h.n) k.n k.k a b t
    (subst (λ (x : ℕ). IsAt (symbols_of (suc h.n) lengths) x s) c h.ranked) (omega arith) (omega arith) k.ranked
    (word_goes_on (suc h.n) (suc k.n) (k.n - h.n) 0 (first_code lengths h.n + h.k) (first_code lengths k.n + k.k) old a b (omega arith) h.code k.code)

either_le : (n m : ℕ) → (n ≤ m) ⊎ (m ≤ n)
either_le zero m = inl (omega arith)
either_le (suc n) zero = inr (omega arith)
either_le (suc n) (suc m) = elim (either_le n m) [ inl x ↦ inl (omega arith) | inr y ↦ inr (omega arith) ]

symbol_one : (lengths : List ℕ) → One (IsSymbol lengths)
symbol_one lengths = record {
  one = λ v w old a b h k. elim (either_le h.n k.n) [
    | inl le ↦ let r = symbols_one lengths v w old a b h k le in (sym r.0, sym r.1)
    | inr le ↦ symbols_one lengths w v old b a k h le
  ];
}

-- ---- what a block has

numbers_put : (width count : ℕ) (before : List ℕ) → One (IsNumbers width count before)
numbers_put width zero before = only_one
numbers_put width (suc count) before = then_one {B = λ b. IsNumbers width count (before ++ b ∷ [])} (number_one width) (λ b. numbers_put width count (before ++ b ∷ []))

stored_one : (before : List ℕ) → One (IsStored before)
stored_one before = record {
  one = λ v w old a b h k. stored.one v w (whole_bytes old) a b h k;
} where
  stored : One (Then (IsNumber 16) (λ count. Then (IsNumber 16) (λ against. When (count + against ≡ 65535) (IsNumbers 8 count before))))
  stored = then_one {B = λ count. Then (IsNumber 16) (λ against. When (count + against ≡ 65535) (IsNumbers 8 count before))} (number_one 16) (λ count.
      then_one {B = λ against. When (count + against ≡ 65535) (IsNumbers 8 count before)} (number_one 16) (λ against. when_one (numbers_put 8 count before)))

far_one : (far count : ℕ) (before : List ℕ) → One (IsFar far count before)
far_one far count before = when_one (then_one {B = λ more. IsCopy (distance_base far + more) count before} (number_one (distance_extra far)) (λ more. when_one only_one))

match_one : (distances : List ℕ) (symbol : ℕ) (before : List ℕ) → One (IsMatch distances symbol before)
match_one distances symbol before = when_one (then_one {B = λ long. Then (IsSymbol distances) (λ far. IsFar far (length_base symbol + long) before)} (number_one (length_extra symbol)) (λ long.
    then_one {B = λ far. IsFar far (length_base symbol + long) before} (symbol_one distances) (λ far. far_one far (length_base symbol + long) before)))

token_one : (literals distances before : List ℕ) → One (IsToken literals distances before)
token_one literals distances before = then_one {B = λ symbol. Either (When (symbol < 256) (Only (before ++ symbol ∷ []))) (IsMatch distances symbol before)} (symbol_one literals)
    (λ symbol. either_one (when_one only_one) (match_one distances symbol before) (when_apart (λ p q. let r = q.0 in omega arith)))

end_one : (literals before : List ℕ) → One (IsBlockEnd literals before)
end_one literals before = then_one {B = λ symbol. When (symbol ≡ 256) (Only before)} (symbol_one literals) (λ symbol. when_one only_one)

no_end : (symbol other : ℕ) (distances before v old a : List ℕ) → symbol ≡ other → other ≡ 256
    → Either (When (symbol < 256) (Only (before ++ symbol ∷ []))) (IsMatch distances symbol before) v old a → ⊥
no_end symbol other distances before v old a e z (inl h) = let l = h.holds in omega arith
no_end symbol other distances before v old a e z (inr h) = let l = h.holds.0 in omega arith

token_apart : (literals distances before : List ℕ) → Apart (IsToken literals distances before) (IsBlockEnd literals before)
token_apart literals distances before = record {
  apart = λ v w old a b h k.
      let same = (symbol_one literals).one h.first k.first old h.mid k.mid h.has k.has in
      no_end h.first k.first distances before v h.mid a same.0 k.rest.holds h.rest;
}

coded_one : (literals distances before : List ℕ) → One (IsCoded literals distances before)
coded_one literals distances before = steps_one (IsToken literals distances) (IsBlockEnd literals) before (token_one literals distances) (end_one literals) (token_apart literals distances)

again_one : (value least width : ℕ) (before : List ℕ) → One (IsAgain value least width before)
again_one value least width before = then_one (number_one width) (λ more. only_one)

apart_three : {V : Type 0} {A B C D : V → List ℕ → List ℕ → Type 0} → Apart A B → Apart A C → Apart A D → Apart A (Either B (Either C D))
apart_three p q r = record {
  apart = λ v w old a b h k. elim k [
    | inl x ↦ p.apart v w old a b h x
    | inr y ↦ elim y [ inl x ↦ q.apart v w old a b h x | inr x ↦ r.apart v w old a b h x ]
  ];
}

apart_two : {V : Type 0} {A B C : V → List ℕ → List ℕ → Type 0} → Apart A B → Apart A C → Apart A (Either B C)
apart_two p q = record { apart = λ v w old a b h k. elim k [ inl x ↦ p.apart v w old a b h x | inr x ↦ q.apart v w old a b h x ] }

run_one : (symbol : ℕ) (before : List ℕ) → One (IsRun symbol before)
run_one symbol before =
    either_one (when_one only_one)
    (either_one (when_one (again_one (last_of before) 3 2 before))
    (either_one (when_one (again_one 0 3 3 before)) (when_one (again_one 0 11 7 before)) (when_apart (λ p q. omega arith)))
    (apart_two (when_apart (λ p q. let r = p.0 in omega arith)) (when_apart (λ p q. let r = p.0 in omega arith))))
    (apart_three (when_apart (λ p q. let r = q.0 in omega arith)) (when_apart (λ p q. omega arith)) (when_apart (λ p q. omega arith)))

length_step_one : (code : List ℕ) (total : ℕ) (before : List ℕ) → One (IsLengthStep code total before)
length_step_one code total before = when_one (then_one {B = λ symbol. IsRun symbol before} (symbol_one code) (λ symbol. run_one symbol before))

lengths_one : (code : List ℕ) (total : ℕ) → One (IsLengths code total)
lengths_one code total = steps_one (IsLengthStep code total) (IsLengthEnd total) [] (length_step_one code total) (λ before. when_one only_one) (λ before. when_apart (λ p q. omega arith))

with_codes_one : (count : ℕ) (lengths before : List ℕ) → One (IsWithCodes count lengths before)
with_codes_one count lengths before = when_one (coded_one (take count lengths) (drop count lengths) before)

abbrev By : List ℕ → ℕ → ℕ → List ℕ → List ℕ → List ℕ → List ℕ → Type 0
By before literals distances three = When (IsComplete (in_order 19 0 three)) (Then (IsLengths (in_order 19 0 three) (literals + 257 + (distances + 1))) (λ lengths. IsWithCodes (literals + 257) lengths before))

abbrev Threes : List ℕ → ℕ → ℕ → ℕ → List ℕ → List ℕ → List ℕ → Type 0
Threes before literals distances threes = When ((literals + 257 ≤ 286) × (distances + 1 ≤ 30)) (Then (IsNumbers 3 (threes + 4) []) (By before literals distances))

by_one : (before : List ℕ) (literals distances : ℕ) (three : List ℕ) → One (By before literals distances three)
by_one before literals distances three = when_one (then_one {B = λ lengths. IsWithCodes (literals + 257) lengths before} (lengths_one (in_order 19 0 three) (literals + 257 + (distances + 1)))
    (λ lengths. with_codes_one (literals + 257) lengths before))

dynamic_one : (before : List ℕ) → One (IsDynamic before)
dynamic_one before = then_one {B = λ literals. Then (IsNumber 5) (λ distances. Then (IsNumber 4) (Threes before literals distances))} (number_one 5) (λ literals.
    then_one {B = λ distances. Then (IsNumber 4) (Threes before literals distances)} (number_one 5) (λ distances.
    then_one {B = Threes before literals distances} (number_one 4) (λ threes.
    when_one (then_one {B = By before literals distances} (numbers_put 3 (threes + 4) []) (by_one before literals distances)))))

body_one : (kind : ℕ) (before : List ℕ) → One (IsBody kind before)
body_one kind before =
    either_one (when_one (stored_one before))
    (either_one (when_one (coded_one fixed_literals fixed_distances before)) (when_one (dynamic_one before)) (when_apart (λ p q. omega arith)))
    (apart_two (when_apart (λ p q. omega arith)) (when_apart (λ p q. omega arith)))

block_one : (last : ℕ) (before : List ℕ) → One (IsBlock last before)
block_one last before = then_one {B = λ n. When (n ≡ last) (Then (IsNumber 2) (λ kind. IsBody kind before))} (number_one 1)
    (λ n. when_one (then_one {B = λ kind. IsBody kind before} (number_one 2) (λ kind. body_one kind before)))

block_apart : (before : List ℕ) → Apart (IsBlock 0 before) (IsBlock 1 before)
block_apart before = record {
  apart = λ v w old a b h k.
      let same = (number_one 1).one h.first k.first old h.mid k.mid h.has k.has in
      let e = same.0 in let z = h.rest.holds in let o = k.rest.holds in
      omega arith;
}

pub deflated_one : One IsDeflated
deflated_one = steps_one (IsBlock 0) (IsBlock 1) [] (block_one 0) (block_one 1) block_apart

-- a head with its bytes has only one list of bytes
pub one_block : (head : BlockHead) (bytes plain other : List ℕ) → Represents head bytes plain → Represents head bytes other → plain ≡ other
one_block head bytes plain other h k = (deflated_one.one plain other _ _ _ h.packed.stands k.packed.stands).0
