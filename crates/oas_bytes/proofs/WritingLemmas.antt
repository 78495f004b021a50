-- Putting one part after another.
use Rattle.std.proofs.Common.{◌≡◌, ℕ, suc, ◌<◌, List, [], ◌∷◌, ◌++◌, length, take, drop, get_or, drop-cons, sym, ap, ◌∙◌, append_assoc, arith, Result, Ok, Err}
use Rattle.std.proofs.lemmas.List.{append-nil, take-append-drop}
use Rattle.oas_bytes.specs.declared.sinks.SinkFault.{SinkFault}
use Rattle.oas_bytes.specs.Writing.{Puts, PutsPrefix, Writes}

-- what is before a byte, the byte, and what is after it
split_at : (bytes : List ℕ) (i : ℕ) → i < length bytes → bytes ≡ take i bytes ++ ((get_or bytes i 0 ∷ []) ++ drop (suc i) bytes)
split_at bytes i lt = sym (take-append-drop i bytes) ∙ ap (λ (t : List ℕ). take i bytes ++ t) (drop-cons bytes i 0 lt)

module _ {K : Type 0} (given : K → List ℕ → K → Type 0) (failures : K → ℕ) where
  pub Puts-none : (s : K) → Puts given failures s [] s
  Puts-none s = record { after = λ start before h. rw append-nil h; no_fewer = omega arith }

  pub Puts-then : (old mid new : K) (a b : List ℕ) → Puts given failures old a mid → Puts given failures mid b new → Puts given failures old (a ++ b) new
  Puts-then old mid new a b p q = record { after = λ start before h. rw (← append_assoc) (q.after start (before ++ a) (p.after start before h)); no_fewer = omega (arith, p.no_fewer, q.no_fewer) }

  pub PutsPrefix-then : (old mid new : K) (a b c : List ℕ) → Puts given failures old a mid → PutsPrefix given failures mid b new → PutsPrefix given failures old (a ++ (b ++ c)) new
  PutsPrefix-then old mid new a b c p q = record {
    front = a ++ q.front;
    back = q.back ++ c;
    joined = ap (λ (x : List ℕ). a ++ (x ++ c)) q.joined ∙ ap (λ (x : List ℕ). a ++ x) (append_assoc q.front q.back c) ∙ sym (append_assoc a q.front (q.back ++ c));
    puts = Puts-then old mid new a q.front p q.puts;
    failed = q.failed;
  }

  -- a first part that fails
  pub front_fails : (old new : K) (a b : List ℕ) → PutsPrefix given failures old a new → PutsPrefix given failures old (a ++ b) new
  front_fails old new a b p = PutsPrefix-then old old new [] a b (Puts-none old) p

  -- one part after another: the last one decides
  pub Writes-then : (old mid new : K) (a b : List ℕ) (r : Result Unit SinkFault) → Puts given failures old a mid → Writes given failures mid b r new → Writes given failures old (a ++ b) r new
  Writes-then old mid new a b (Ok done) p q = Puts-then old mid new a b p q
  Writes-then old mid new a b (Err fault) p q =
      let f : PutsPrefix given failures old (a ++ (b ++ [])) new = PutsPrefix-then old mid new a b [] p q in
      rw (append-nil) at f

  -- bytes one after another
  pub all_fails : (old mid new : K) (bytes : List ℕ) (i : ℕ) → i < length bytes → Puts given failures old (take i bytes) mid
      → PutsPrefix given failures mid (get_or bytes i 0 ∷ []) new → PutsPrefix given failures old bytes new
  all_fails old mid new bytes i lt p q =
      let e : bytes ≡ take i bytes ++ ((get_or bytes i 0 ∷ []) ++ drop (suc i) bytes) = split_at bytes i lt in
      rw e (PutsPrefix-then old mid new (take i bytes) (get_or bytes i 0 ∷ []) (drop (suc i) bytes) p q)

  -- a part of them, and then a fault before the next
  pub rest_fails : (old mid new : K) (bytes : List ℕ) (i : ℕ) → Puts given failures old (take i bytes) mid → PutsPrefix given failures mid [] new → PutsPrefix given failures old bytes new
  rest_fails old mid new bytes i p q =
      let f : PutsPrefix given failures old (take i bytes ++ ([] ++ drop i bytes)) new = PutsPrefix-then old mid new (take i bytes) [] (drop i bytes) p q in
      rw (take-append-drop) at f
