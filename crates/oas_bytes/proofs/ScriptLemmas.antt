-- Bytes that were given, one part after another.
use Rattle.std.proofs.Common.{◌≡◌, ℕ, zero, suc, ◌+◌, ◌≤◌, List, [], ◌∷◌, ◌++◌, length, take, drop, Option, Some, None, refl, sym, ap, subst, ◌∙◌, append_assoc, arith}
use Rattle.std.proofs.lemmas.List.{append-nil, length-append, length-take-le, take-append-drop, take_all, drop-drop}
use Rattle.std.proofs.Math.Seq.{drop-append_seam}
use Rattle.oas_bytes.specs.Script.{Script, Rest, Gave, since, Consumed, slice_script}

Gave-none : (r : Option Rest) → Gave r [] r
Gave-none None = tt
Gave-none (Some r) = (refl, refl)

pub Consumed-none : (s : Script) → Consumed s [] s
Consumed-none s = record { history = sym (append-nil s.history); given = omega arith; limit = refl; reliable = refl; failures = omega arith; rest = Gave-none s.rest }

Gave-then : (r s t : Option Rest) (a b : List ℕ) → Gave r a s → Gave s b t → Gave r (a ++ b) t
Gave-then None s t a b p q = tt
Gave-then (Some r) None t a b p q = absurd p
Gave-then (Some r) (Some s) None a b p q = absurd q
Gave-then (Some r) (Some s) (Some t) a b p q = (p.0 ∙ ap (λ (x : List ℕ). a ++ x) q.0 ∙ sym (append_assoc a b t.bytes), q.1 ∙ p.1)

pub Consumed-then : (old mid new : Script) (a b : List ℕ) → Consumed old a mid → Consumed mid b new → Consumed old (a ++ b) new
Consumed-then old mid new a b p q = record {
  history = q.history ∙ ap (λ (x : List ℕ). x ++ b) p.history ∙ append_assoc old.history a b;
  given = omega (arith, p.given, q.given, length-append a b);
  limit = q.limit ∙ p.limit;
  reliable = q.reliable ∙ p.reliable;
  failures = omega (arith, p.failures, q.failures);
  rest = Gave-then old.rest mid.rest new.rest a b p.rest q.rest;
}

-- the bytes that were given are those by which the history grew
pub since_is : {old new : Script} {bytes : List ℕ} → Consumed old bytes new → since old new ≡ bytes
since_is {old} {new} {bytes} c = ap (λ (x : List ℕ). drop (length old.history) x) c.history ∙ drop-append_seam old.history bytes

-- more bytes, behind those since a start
pub since_then : (start : Script) {old new : Script} {bytes : List ℕ} → Consumed start (since start old) old → Consumed old bytes new → since start new ≡ since start old ++ bytes
since_then start {old} {new} {bytes} p q = since_is (Consumed-then start old new (since start old) bytes p q)

pub consumed_since : (start : Script) {old new : Script} {bytes : List ℕ} → Consumed start (since start old) old → Consumed old bytes new → Consumed start (since start new) new
consumed_since start {old} {new} {bytes} p q =
    subst (λ (x : List ℕ). Consumed start x new) (sym (since_then start p q)) (Consumed-then start old new (since start old) bytes p q)

pub since_none : (s : Script) → since s s ≡ []
since_none s = since_is (Consumed-none s)

pub consumed_none : (s : Script) → Consumed s (since s s) s
consumed_none s = subst (λ (x : List ℕ). Consumed s x s) (sym (since_none s)) (Consumed-none s)

-- so they are one list
pub Consumed-one : {old new : Script} {a b : List ℕ} → Consumed old a new → Consumed old b new → a ≡ b
Consumed-one p q = sym (since_is p) ∙ since_is q

-- where no byte is at hand, none is taken
pub Consumed-nothing : (s : Script) (count : ℕ) → count ≤ 0 → Consumed s (take count []) s
Consumed-nothing s count le = let e : count ≡ 0 = omega arith in rw e (Consumed-none s)

-- so many, and then so many of those behind them
pub take_on : (i n : ℕ) (xs : List ℕ) → take (i + n) xs ≡ take i xs ++ take n (drop i xs)
take_on zero n xs = let e : 0 + n ≡ n = omega arith in ap (λ (m : ℕ). take m xs) e
take_on (suc i) n [] = take_all (suc i + n) [] (omega arith) ∙ sym (take_all n [] (omega arith))
take_on (suc i) n (x ∷ xs) = let e : suc i + n ≡ suc (i + n) = omega arith in ap (λ (m : ℕ). take m (x ∷ xs)) e ∙ ap (λ (ys : List ℕ). x ∷ ys) (take_on i n xs)

-- A slice's source takes some of the bytes that it may still give.
pub slice_skips : (bytes : List ℕ) (limit at count : ℕ) → count ≤ length (drop at (take limit bytes))
    → Consumed (slice_script bytes limit at) (take count (drop at (take limit bytes))) (slice_script bytes limit (at + count))
slice_skips bytes limit at count few =
    let left = drop at (take limit bytes) in
    record {
      history = take_on at count (take limit bytes);
      given = omega (arith, length-take-le count left few);
      limit = refl;
      reliable = refl;
      failures = omega arith;
      rest = (sym (take-append-drop count left) ∙ ap (λ (t : List ℕ). take count left ++ t) (drop-drop count at (take limit bytes)), refl);
    }
