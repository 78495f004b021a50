-- Putting one part of some bytes after another.
use Rattle.std.proofs.Common.{◌≡◌, ℕ, zero, suc, ◌+◌, ◌<◌, ◌≤◌, List, [], ◌∷◌, ◌++◌, length, drop, get_or, drop-cons, flat_map, Result, refl, sym, ap, subst, ◌∙◌, append_assoc}
use Rattle.std.proofs.Common.{append-nil, add-one, arith}
use Rattle.oas_num.specs.SinkFault.{SinkFault}
use Rattle.oas_num.specs.Writing.{Puts, PutsPrefix, Writes}
use Rattle.oas_num.proofs.WritingLemmas.{Puts-none, Puts-then, PutsPrefix-then, Writes-then}

drop_all : {A : Type 0} (xs : List A) (i : ℕ) → length xs ≤ i → drop i xs ≡ []
drop_all [] zero le = refl
drop_all [] (suc i) le = refl
drop_all (x ∷ xs) zero le = absurd (omega (arith, le))
drop_all (x ∷ xs) (suc i) le = drop_all xs i (omega (arith, le))

next_is : {A : Type 0} (f : A → List ℕ) (xs : List A) (i : ℕ) (d : A) → i < length xs → flat_map f (drop i xs) ≡ f (get_or xs i d) ++ flat_map f (drop (i + 1) xs)
next_is f xs i d lt = ap (flat_map f) (drop-cons xs i d lt ∙ ap (λ (k : ℕ). get_or xs i d ∷ drop k xs) (sym (add-one i)))

-- a prefix of the whole was put, and this is left
pub record PutSoFar {K : Type 0} (given : K → List ℕ → K → Type 0) (failures : K → ℕ) (whole left : List ℕ) (old now : K) : Type 0 where
  pub front : List ℕ
  pub joined : whole ≡ front ++ left
  pub puts : Puts given failures old front now

module _ {K : Type 0} {given : K → List ℕ → K → Type 0} {failures : K → ℕ} where
  infixl 20 ◌▸◌
  pub begins : (whole : List ℕ) (s : K) → PutSoFar given failures whole whole s s
  begins whole s = record { front = []; joined = refl; puts = Puts-none given failures s }

  pub first : {old new : K} {a : List ℕ} (left : List ℕ) → Puts given failures old a new → PutSoFar given failures (a ++ left) left old new
  first {a = a} left p = record { front = a; joined = refl; puts = p }

  pub ◌▸◌ : {whole a left : List ℕ} {old mid new : K} → PutSoFar given failures whole (a ++ left) old mid → Puts given failures mid a new → PutSoFar given failures whole left old new
  ◌▸◌ {a = a} {left = left} {old = old} {mid = mid} {new = new} p q = record {
    front = p.front ++ a;
    joined = p.joined ∙ sym (append_assoc p.front a left);
    puts = Puts-then _ _ old mid new p.front a p.puts q;
  }

  -- a part that fails, before others
  pub fails_at : {whole a : List ℕ} {old mid new : K} (left : List ℕ) → PutSoFar given failures whole (a ++ left) old mid → PutsPrefix given failures mid a new → PutsPrefix given failures old whole new
  fails_at {a = a} {old = old} {mid = mid} {new = new} left p q =
      rw p.joined (PutsPrefix-then _ _ old mid new p.front a left p.puts q)

  -- the last part
  pub ends : {whole a : List ℕ} {old mid : K} (new : K) (r : Result Unit SinkFault) → PutSoFar given failures whole a old mid
      → Writes given failures mid a r new → Writes given failures old whole r new
  ends {a = a} {old = old} {mid = mid} new r p q =
      rw p.joined (Writes-then _ _ old mid new p.front a r p.puts q)

  -- nothing is left
  pub all_put : {whole : List ℕ} {old now : K} → PutSoFar given failures whole [] old now → Puts given failures old whole now
  all_put {whole = whole} {old = old} {now = now} p =
      subst (λ (a : List ℕ). Puts given failures old a now) (sym (append-nil p.front) ∙ sym p.joined) p.puts

  -- what was put whole is a prefix of itself
  pub nothing_left : {whole : List ℕ} {old now : K} → Puts given failures old whole now → PutSoFar given failures whole [] old now
  nothing_left {whole = whole} p = record { front = whole; joined = sym (append-nil whole); puts = p }

  -- ---- what is put for each item of a list

  module _ {A : Type 0} (f : A → List ℕ) (xs : List A) (i : ℕ) where
    module _ {whole : List ℕ} {old mid : K} (d : A) (lt : i < length xs) (p : PutSoFar given failures whole (flat_map f (drop i xs)) old mid) where
      next_left : PutSoFar given failures whole (f (get_or xs i d) ++ flat_map f (drop (i + 1) xs)) old mid
      next_left = subst (λ (b : List ℕ). PutSoFar given failures whole b old mid) (next_is f xs i d lt) p

      pub item_put : {new : K} → Puts given failures mid (f (get_or xs i d)) new → PutSoFar given failures whole (flat_map f (drop (i + 1) xs)) old new
      item_put q = next_left ▸ q

      pub item_fails : {new : K} → PutsPrefix given failures mid (f (get_or xs i d)) new → PutsPrefix given failures old whole new
      item_fails q = fails_at _ next_left q

  pub items_put : {A : Type 0} (f : A → List ℕ) (xs : List A) (i : ℕ) {whole : List ℕ} {old now : K} → length xs ≤ i
      → PutSoFar given failures whole (flat_map f (drop i xs)) old now → Puts given failures old whole now
  items_put f xs i {whole} {old} {now} le p =
      all_put (subst (λ (b : List ℕ). PutSoFar given failures whole b old now) (ap (flat_map f) (drop_all xs i le)) p)
