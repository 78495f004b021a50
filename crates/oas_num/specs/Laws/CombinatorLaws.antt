-- Laws of spellings made of spellings: none is a prefix of another; each value has one; spellings in one style are spellings
-- in the other.
use Rattle.std.proofs.Common.{◌≡◌, ℕ, Bool, true, false, List, [], ◌∷◌, ◌++◌, Option, Some, None, refl, sym, ap, subst, ◌∙◌, append_assoc}
use Rattle.oas_num.specs.Grammar.{PrefixFree, IsPair, IsSuch, IsImage, IsThere, IsEach, IsCount, IsByte}
use Rattle.oas_num.specs.Laws.GrammarLaws.{PrefixFree-pair, after_same}
use Rattle.oas_num.specs.Combinators.{IsExactly, IsNever, IsEither, IsKeyed, IsApart, OneSpelling, IsWithin}

-- ---- none is a prefix of another

pub PrefixFree-exactly : (wanted : List ℕ) → PrefixFree (IsExactly wanted)
PrefixFree-exactly wanted = record { one = λ v w a b x y p q e. (p ∙ sym q, refl) }

pub PrefixFree-never : {V : Type 0} → PrefixFree {V = V} IsNever
PrefixFree-never = record { one = λ v w a b x y p q e. absurd p }

pub PrefixFree-either : {V : Type 0} (test : Bool) (A B : V → List ℕ → Type 0) → PrefixFree A → PrefixFree B → PrefixFree (IsEither test A B)
PrefixFree-either true A B f g = record { one = f.one }
PrefixFree-either false A B f g = record { one = g.one }

pub PrefixFree-keyed : {K V : Type 0} (key : V → K) (A : K → List ℕ → Type 0) (B : K → V → List ℕ → Type 0) → PrefixFree A → ((k : K) → PrefixFree (B k)) → PrefixFree (IsKeyed key A B)
PrefixFree-keyed key A B f g = record {
  one = λ v w a b x y p q e.
      let both = (PrefixFree-pair A B f g).one (key v, v) (key w, w) a b x y p q e in
      (both.0, ap (λ p. p.1) both.1);
}

until_one : {V W : Type 0} (A : V → List ℕ → Type 0) (E : W → List ℕ → Type 0) → PrefixFree A → PrefixFree E → IsApart A E
    → (vs ws : List V) (v w : W) (a b c d x y : List ℕ) → IsEach A vs a → IsEach A ws b → E v c → E w d → a ++ (c ++ x) ≡ b ++ (d ++ y)
    → (a ++ c ≡ b ++ d) × ◌≡◌ {A = List V × W} (vs, v) (ws, w)
until_one A E f g h [] [] v w a b c d x y p q r s e =
    let e1 : c ++ x ≡ d ++ y = after_same a b (c ++ x) (d ++ y) (p ∙ sym q) e in
    let one = g.one v w c d x y r s e1 in
    ((λ i. (p ∙ sym q) i ++ one.0 i), (λ i. ([], one.1 i)))
until_one A E f g h [] (t ∷ ts) v w a b c d x y p q r s e =
    let e1 : q.0 ++ (q.1 ++ (d ++ y)) ≡ c ++ x = sym (append_assoc q.0 q.1 (d ++ y)) ∙ ap (λ (m : List ℕ). m ++ (d ++ y)) (sym q.4) ∙ sym e ∙ ap (λ (m : List ℕ). m ++ (c ++ x)) p in
    absurd (h.apart t v q.0 c (q.1 ++ (d ++ y)) x q.2 r e1)
until_one A E f g h (t ∷ ts) [] v w a b c d x y p q r s e =
    let e1 : p.0 ++ (p.1 ++ (c ++ x)) ≡ d ++ y = sym (append_assoc p.0 p.1 (c ++ x)) ∙ ap (λ (m : List ℕ). m ++ (c ++ x)) (sym p.4) ∙ e ∙ ap (λ (m : List ℕ). m ++ (d ++ y)) q in
    absurd (h.apart t w p.0 d (p.1 ++ (c ++ x)) y p.2 s e1)
until_one A E f g h (t ∷ ts) (u ∷ us) v w a b c d x y p q r s e =
    let e1 : p.0 ++ (p.1 ++ (c ++ x)) ≡ q.0 ++ (q.1 ++ (d ++ y)) =
    sym (append_assoc p.0 p.1 (c ++ x)) ∙ ap (λ (m : List ℕ). m ++ (c ++ x)) (sym p.4) ∙ e ∙ ap (λ (m : List ℕ). m ++ (d ++ y)) q.4 ∙ append_assoc q.0 q.1 (d ++ y) in
    let one = f.one t u p.0 q.0 (p.1 ++ (c ++ x)) (q.1 ++ (d ++ y)) p.2 q.2 e1 in
    let rest = after_same p.0 q.0 (p.1 ++ (c ++ x)) (q.1 ++ (d ++ y)) one.0 e1 in
    let more = until_one A E f g h ts us v w p.1 q.1 c d x y p.3 q.3 r s rest in
    let left : a ++ c ≡ p.0 ++ (p.1 ++ c) = ap (λ (m : List ℕ). m ++ c) p.4 ∙ append_assoc p.0 p.1 c in
    let right : b ++ d ≡ q.0 ++ (q.1 ++ d) = ap (λ (m : List ℕ). m ++ d) q.4 ∙ append_assoc q.0 q.1 d in
    (left ∙ (λ i. one.0 i ++ more.0 i) ∙ sym right, (λ i. (one.1 i ∷ (more.1 i).0, (more.1 i).1)))

-- this many of the one, and then the other
pub PrefixFree-until : {V W : Type 0} (A : V → List ℕ → Type 0) (E : W → List ℕ → Type 0) → PrefixFree A → PrefixFree E → IsApart A E → PrefixFree (IsPair (IsEach A) (λ _. E))
PrefixFree-until A E f g h = record {
  one = λ v w a b x y p q e.
      let e1 : p.front ++ (p.back ++ x) ≡ q.front ++ (q.back ++ y) =
      sym (append_assoc p.front p.back x) ∙ ap (λ (c : List ℕ). c ++ x) (sym p.joined) ∙ e ∙ ap (λ (c : List ℕ). c ++ y) q.joined ∙ append_assoc q.front q.back y in
      let one = until_one A E f g h v.0 w.0 v.1 w.1 p.front q.front p.back q.back x y p.first q.first p.second q.second e1 in
      (p.joined ∙ one.0 ∙ sym q.joined, one.1);
}

-- ---- each value has one

pub OneSpelling-exactly : (wanted : List ℕ) → OneSpelling (IsExactly wanted)
OneSpelling-exactly wanted = record { same = λ v a b p q. p ∙ sym q }

pub OneSpelling-never : {V : Type 0} → OneSpelling {V = V} IsNever
OneSpelling-never = record { same = λ v a b p q. absurd p }

pub OneSpelling-byte : OneSpelling IsByte
OneSpelling-byte = record { same = λ v a b p q. p.only ∙ sym q.only }

pub OneSpelling-either : {V : Type 0} (test : Bool) (A B : V → List ℕ → Type 0) → OneSpelling A → OneSpelling B → OneSpelling (IsEither test A B)
OneSpelling-either true A B f g = record { same = f.same }
OneSpelling-either false A B f g = record { same = g.same }

pub OneSpelling-pair : {V W : Type 0} (A : V → List ℕ → Type 0) (B : V → W → List ℕ → Type 0) → OneSpelling A → ((v : V) → OneSpelling (B v)) → OneSpelling (IsPair A B)
OneSpelling-pair A B f g = record {
  same = λ v a b p q.
      let one = f.same v.0 p.front q.front p.first q.first in
      let two = (g v.0).same v.1 p.back q.back p.second q.second in
      p.joined ∙ (λ i. one i ++ two i) ∙ sym q.joined;
}

pub OneSpelling-keyed : {K V : Type 0} (key : V → K) (A : K → List ℕ → Type 0) (B : K → V → List ℕ → Type 0) → OneSpelling A → ((k : K) → OneSpelling (B k)) → OneSpelling (IsKeyed key A B)
OneSpelling-keyed key A B f g = record { same = λ v a b p q. (OneSpelling-pair A B f g).same (key v, v) a b p q }

pub OneSpelling-such : {V : Type 0} (P : V → Type 0) (A : V → List ℕ → Type 0) → OneSpelling A → OneSpelling (IsSuch P A)
OneSpelling-such P A f = record { same = λ v a b p q. f.same v a b p.spelled q.spelled }

-- what denotes one value only
pub OneSpelling-image : {U V : Type 0} (f : U → V) (back : V → U) (A : U → List ℕ → Type 0) → ((u : U) → back (f u) ≡ u) → OneSpelling A → OneSpelling (IsImage f A)
OneSpelling-image f back A inverse law = record {
  same = λ v a b p q.
      let e = sym (inverse p.from) ∙ ap back (p.is ∙ sym q.is) ∙ inverse q.from in
      law.same q.from a b (subst (λ u. A u a) e p.spelled) q.spelled;
}

each_same : {V : Type 0} (A : V → List ℕ → Type 0) → OneSpelling A → (vs : List V) (a b : List ℕ) → IsEach A vs a → IsEach A vs b → a ≡ b
each_same A f [] a b p q = p ∙ sym q
each_same A f (v ∷ vs) a b p q =
    let one = f.same v p.0 q.0 p.2 q.2 in
    let two = each_same A f vs p.1 q.1 p.3 q.3 in
    p.4 ∙ (λ i. one i ++ two i) ∙ sym q.4

pub OneSpelling-each : {V : Type 0} (A : V → List ℕ → Type 0) → OneSpelling A → OneSpelling (IsEach A)
OneSpelling-each A f = record { same = each_same A f }

pub OneSpelling-count : {V : Type 0} (A : V → List ℕ → Type 0) (count : ℕ) → OneSpelling A → OneSpelling (IsCount A count)
OneSpelling-count A count f = record { same = λ vs a b p q. each_same A f vs a b p.each q.each }

there_same : {V : Type 0} (here : Bool) (A : V → List ℕ → Type 0) → OneSpelling A → (v : Option V) (a b : List ℕ) → IsThere here A v a → IsThere here A v b → a ≡ b
there_same true A f (Some v) a b p q = f.same v a b p q
there_same true A f None a b p q = absurd p
there_same false A f (Some v) a b p q = absurd p
there_same false A f None a b p q = p ∙ sym q

pub OneSpelling-there : {V : Type 0} (here : Bool) (A : V → List ℕ → Type 0) → OneSpelling A → OneSpelling (IsThere here A)
OneSpelling-there here A f = record { same = there_same here A f }

-- ---- spellings in one style are spellings in the other

pub IsWithin-itself : {V : Type 0} (A : V → List ℕ → Type 0) → IsWithin A A
IsWithin-itself A = record { within = λ v a p. p }

pub IsWithin-either : {V : Type 0} (test : Bool) (A B C D : V → List ℕ → Type 0) → IsWithin A C → IsWithin B D → IsWithin (IsEither test A B) (IsEither test C D)
IsWithin-either true A B C D f g = record { within = f.within }
IsWithin-either false A B C D f g = record { within = g.within }

pub IsWithin-pair : {V W : Type 0} (A C : V → List ℕ → Type 0) (B D : V → W → List ℕ → Type 0) → IsWithin A C → ((v : V) → IsWithin (B v) (D v)) → IsWithin (IsPair A B) (IsPair C D)
IsWithin-pair A C B D f g = record {
  within = λ v a p. record { front = p.front; back = p.back; first = f.within v.0 p.front p.first; second = (g v.0).within v.1 p.back p.second; joined = p.joined };
}

pub IsWithin-keyed : {K V : Type 0} (key : V → K) (A C : K → List ℕ → Type 0) (B D : K → V → List ℕ → Type 0) → IsWithin A C
    → ((k : K) → IsWithin (B k) (D k)) → IsWithin (IsKeyed key A B) (IsKeyed key C D)
IsWithin-keyed key A C B D f g = record { within = λ v a p. (IsWithin-pair A C B D f g).within (key v, v) a p }

pub IsWithin-such : {V : Type 0} (P : V → Type 0) (A B : V → List ℕ → Type 0) → IsWithin A B → IsWithin (IsSuch P A) (IsSuch P B)
IsWithin-such P A B f = record { within = λ v a p. record { holds = p.holds; spelled = f.within v a p.spelled } }

pub IsWithin-image : {U V : Type 0} (f : U → V) (A B : U → List ℕ → Type 0) → IsWithin A B → IsWithin (IsImage f A) (IsImage f B)
IsWithin-image f A B g = record { within = λ v a p. record { from = p.from; is = p.is; spelled = g.within p.from a p.spelled } }

each_within : {V : Type 0} (A B : V → List ℕ → Type 0) → IsWithin A B → (vs : List V) (a : List ℕ) → IsEach A vs a → IsEach B vs a
each_within A B f [] a p = p
each_within A B f (v ∷ vs) a p = (p.0, p.1, f.within v p.0 p.2, each_within A B f vs p.1 p.3, p.4)

pub IsWithin-each : {V : Type 0} (A B : V → List ℕ → Type 0) → IsWithin A B → IsWithin (IsEach A) (IsEach B)
IsWithin-each A B f = record { within = each_within A B f }

pub IsWithin-count : {V : Type 0} (A B : V → List ℕ → Type 0) (count : ℕ) → IsWithin A B → IsWithin (IsCount A count) (IsCount B count)
IsWithin-count A B count f = record { within = λ vs a p. record { len = p.len; each = each_within A B f vs a p.each } }

there_within : {V : Type 0} (here : Bool) (A B : V → List ℕ → Type 0) → IsWithin A B → (v : Option V) (a : List ℕ) → IsThere here A v a → IsThere here B v a
there_within true A B f (Some v) a p = f.within v a p
there_within true A B f None a p = absurd p
there_within false A B f (Some v) a p = absurd p
there_within false A B f None a p = p

pub IsWithin-there : {V : Type 0} (here : Bool) (A B : V → List ℕ → Type 0) → IsWithin A B → IsWithin (IsThere here A) (IsThere here B)
IsWithin-there here A B f = record { within = there_within here A B f }

-- spellings among prefix-free spellings are prefix-free
pub PrefixFree-within : {V : Type 0} (A B : V → List ℕ → Type 0) → IsWithin A B → PrefixFree B → PrefixFree A
PrefixFree-within A B f law = record { one = λ v w a b x y p q e. law.one v w a b x y (f.within v a p) (f.within w b q) e }
