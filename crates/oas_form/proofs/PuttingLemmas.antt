-- Putting one part of the bytes after another.
use Rattle.std.proofs.Common.{◌≡◌, ℕ, ◌+◌, ◌≤◌, List, [], ◌∷◌, ◌++◌, length, refl, sym, ap, subst, ◌∙◌, append_assoc, length-append, arith}
use Rattle.std.proofs.lemmas.List.{append-nil}
use Rattle.std.proofs.lemmas.Bool.{ne_eqb}
use Rattle.oas_num.specs.Writing.{Puts, PutsPrefix, shortest}
use Rattle.oas_form.specs.Bytes.{unit_bytes}
use Rattle.oas_form.specs.Putting.{PutsAll}

-- a prefix of the whole was put and counted, and this is left
pub record PutSoFar {K : Type 0} (given : K → List ℕ → K → Type 0) (failures : K → ℕ) (whole left : List ℕ) (old now : K) (count : ℕ) : Type 0 where
  pub front : List ℕ
  pub joined : whole ≡ front ++ left
  pub puts : Puts given failures old front now
  pub count_is : count ≡ length front

module _ {K : Type 0} {given : K → List ℕ → K → Type 0} {failures : K → ℕ} where
  infixl 20 ◌▸◌
  pub begins : (s : K) (whole : List ℕ) → PutSoFar given failures whole whole s s 0
  begins s whole = record { front = []; joined = refl; puts = record { after = λ start before h. rw append-nil h; no_fewer = omega arith }; count_is = refl }

  pub first : {old new : K} {a : List ℕ} {n : ℕ} (left : List ℕ) → PutsAll given failures old a n new → PutSoFar given failures (a ++ left) left old new n
  first {a = a} left p = record { front = a; joined = refl; puts = p.puts; count_is = p.count_is }

  pub ◌▸◌ : {whole a left : List ℕ} {old mid new : K} {n m : ℕ} → PutSoFar given failures whole (a ++ left) old mid n → PutsAll given failures mid a m new →
      PutSoFar given failures whole left old new (n + m)
  ◌▸◌ {a = a} {left = left} p q = record {
    front = p.front ++ a;
    joined = p.joined ∙ sym (append_assoc p.front a left);
    puts = record { after = λ start before h. rw (← append_assoc) (q.puts.after start (before ++ p.front) (p.puts.after start before h)); no_fewer = omega (arith, p.puts.no_fewer, q.puts.no_fewer) };
    count_is = omega (arith, p.count_is, q.count_is, length-append p.front a);
  }

  -- nothing is left
  pub all_put : {whole : List ℕ} {old new : K} {n : ℕ} → PutSoFar given failures whole [] old new n → PutsAll given failures old whole n new
  all_put {whole = whole} {old = old} {new = new} p =
      let e : p.front ≡ whole = sym (append-nil p.front) ∙ sym p.joined in
      record { puts = subst (λ (a : List ℕ). Puts given failures old a new) e p.puts; count_is = p.count_is ∙ ap length e }

  -- the last part
  pub ends : {whole a : List ℕ} {old mid new : K} {n m : ℕ} → PutSoFar given failures whole a old mid n → PutsAll given failures mid a m new → PutsAll given failures old whole (n + m) new
  ends {whole = whole} {a = a} {old = old} {mid = mid} {n = n} p q =
      let again : PutSoFar given failures whole (a ++ []) old mid n = record {
        front = p.front;
        joined = p.joined
            ∙ ap (λ (b : List ℕ). p.front ++ b) (sym (append-nil a));
        puts = p.puts;
        count_is = p.count_is;
      } in
      all_put (again ▸ q)

  -- ---- where the sink fails

  pub first_fails : {old new : K} {a : List ℕ} (left : List ℕ) → PutsPrefix given failures old a new → PutsPrefix given failures old (a ++ left) new
  first_fails left q = record {
    front = q.front;
    back = q.back ++ left;
    joined = ap (λ (b : List ℕ). b ++ left) q.joined ∙ append_assoc q.front q.back left;
    puts = q.puts;
    failed = q.failed;
  }

  pub last_fails : {whole a : List ℕ} {old mid new : K} {n : ℕ} → PutSoFar given failures whole a old mid n → PutsPrefix given failures mid a new → PutsPrefix given failures old whole new
  last_fails p q = record {
    front = p.front ++ q.front;
    back = q.back;
    joined = p.joined ∙ ap (λ (b : List ℕ). p.front ++ b) q.joined ∙ sym (append_assoc p.front q.front q.back);
    puts = record { after = λ start before h. rw (← append_assoc) (q.puts.after start (before ++ p.front) (p.puts.after start before h)); no_fewer = omega (arith, p.puts.no_fewer, q.puts.no_fewer) };
    failed = q.failed;
  }

  pub fails_at : {whole a : List ℕ} {old mid new : K} {n : ℕ} (left : List ℕ) → PutSoFar given failures whole (a ++ left) old mid n → PutsPrefix given failures mid a new →
      PutsPrefix given failures old whole new
  fails_at left p q = last_fails p (first_fails left q)

  -- what was put so far is no longer than the whole
  pub so_far_within : {whole left : List ℕ} {old mid : K} {n : ℕ} → PutSoFar given failures whole left old mid n → n ≤ length whole
  so_far_within {left = left} p = omega (arith, p.count_is, ap length p.joined, length-append p.front left)

  -- no part is longer than the whole
  pub part_fits : {whole : List ℕ} {old mid : K} {n m : ℕ} (a left : List ℕ) → PutSoFar given failures whole (a ++ left) old mid n → m ≡ length a → n + m ≤ length whole
  part_fits {whole = whole} a left p e = omega (arith, p.count_is, e, ap length p.joined, length-append p.front (a ++ left), length-append a left)

-- ---- the unit

pub unit_whole : (n d : ℕ) → d ≡ 1 → unit_bytes (record { num = n; den = d }) ≡ 0 ∷ shortest n
unfolding unit_bytes
unit_whole n d e = rw e refl

pub unit_part : (n d : ℕ) → (d ≡ 1 → ⊥) → n ≡ 1 → unit_bytes (record { num = n; den = d }) ≡ 2 ∷ shortest d
unfolding unit_bytes
unit_part n d f e = rw (ne_eqb d 1 f, e) refl

pub unit_parts : (n d : ℕ) → (d ≡ 1 → ⊥) → (n ≡ 1 → ⊥) → unit_bytes (record { num = n; den = d }) ≡ (4 ∷ shortest n) ++ shortest d
unfolding unit_bytes
unit_parts n d f e = rw (ne_eqb d 1 f, ne_eqb n 1 e) refl
