-- Whether some bytes begin with a spelling: this is decidable for what is made of spellings for which it is decidable.
use Rattle.std.proofs.Common.{◌≡◌, ◌≢◌, ℕ, zero, suc, Bool, true, false, List, [], ◌∷◌, ◌++◌, Option, Some, None, ◌⊎◌, inl, inr, refl, sym, ap, subst, ◌∙◌, append_assoc, arith}
use Rattle.std.proofs.lemmas.Bool.Decides.{eqb_tells}
use Rattle.oas_num.specs.Grammar.{PrefixFree, IsPair, IsSuch, IsImage, IsThere, IsEach, IsCount}
use Rattle.oas_num.specs.Laws.GrammarLaws.{PrefixFree-pair, PrefixFree-such, PrefixFree-image, PrefixFree-there, PrefixFree-count, after_same}
use Rattle.oas_num.specs.Combinators.{IsExactly, IsNever, IsEither, IsKeyed}
use Rattle.oas_num.specs.Laws.CombinatorLaws.{PrefixFree-exactly, PrefixFree-within, PrefixFree-keyed}

-- ---- what holds, or doesn't

abbrev pub Settled : Type 0 → Type 0
Settled P = P ⊎ (P → ⊥)

pub settled_number : (a b : ℕ) → Settled (a ≡ b)
settled_number a b = elim (eqb_tells a b) [ inl p ↦ inl p.1 | inr p ↦ inr p.1 ]

pub settled_not : {P : Type 0} → Settled P → Settled (P → ⊥)
settled_not (inl p) = inr (λ lacks. lacks p)
settled_not (inr lacks) = inl lacks

pub settled_both : {P Q : Type 0} → Settled P → Settled Q → Settled (P × Q)
settled_both (inl p) (inl q) = inl (p, q)
settled_both (inl p) (inr lacks) = inr (λ both. lacks both.1)
settled_both (inr lacks) q = inr (λ both. lacks both.0)

pub settled_either : {P Q : Type 0} → Settled P → Settled Q → Settled (P ⊎ Q)
settled_either (inl p) q = inl (inl p)
settled_either (inr lacks) (inl q) = inl (inr q)
settled_either (inr lacks) (inr nor) = inr (λ one. elim one [ inl p ↦ lacks p | inr q ↦ nor q ])

-- ---- a spelling that is there

-- no spelling is a prefix of what is left
pub record NoneIsSpelled {V : Type 0} (spells : V → List ℕ → Type 0) (left : List ℕ) : Type 0 where
  pub none : (v : V) (front rest : List ℕ) → spells v front → left ≢ front ++ rest

pub record Stands {V : Type 0} (spells : V → List ℕ → Type 0) (left : List ℕ) : Type 0 where
  pub value : V
  pub front : List ℕ
  pub rest : List ℕ
  pub spelled : spells value front
  pub joined : left ≡ front ++ rest

-- none of these spellings is a prefix of another, and at each place there is one or none
pub record IsFound {V : Type 0} (spells : V → List ℕ → Type 0) : Type 0 where
  pub one : PrefixFree spells
  pub find : (left : List ℕ) → Stands spells left ⊎ NoneIsSpelled spells left

-- the one that is there is the only one
pub record IsThat {V : Type 0} (v w : V) (a b x y : List ℕ) : Type 0 where
  pub value : v ≡ w
  pub front : a ≡ b
  pub rest : x ≡ y

pub only : {V : Type 0} {A : V → List ℕ → Type 0} {left : List ℕ} → PrefixFree A → (s : Stands A left) (w : V) (front rest : List ℕ) → A w front
    → left ≡ front ++ rest → IsThat s.value w s.front front s.rest rest
only law s w front rest p e =
    let both = law.one s.value w s.front front s.rest rest s.spelled p (sym s.joined ∙ e) in
    record { value = both.1; front = both.0; rest = after_same s.front front s.rest rest both.0 (sym s.joined ∙ e) }

-- ---- what is made of spellings

-- what is spelled in the same way
pub found_as : {V : Type 0} (A B : V → List ℕ → Type 0) → ((v : V) (a : List ℕ) → A v a → B v a) → ((v : V) (a : List ℕ) → B v a → A v a) → IsFound A → IsFound B
found_as A B to back f = record {
  one = PrefixFree-within B A (record { within = back }) f.one;
  find = λ left. elim (f.find left) [
    | inl s ↦ inl (record { value = s.value; front = s.front; rest = s.rest; spelled = to s.value s.front s.spelled; joined = s.joined })
    | inr lacks ↦ inr (record { none = λ v front rest p e. lacks.none v front rest (back v front p) e })
  ];
}

pub found_such : {V : Type 0} {A : V → List ℕ → Type 0} (P : V → Type 0) → ((v : V) → Settled (P v)) → IsFound A → IsFound (IsSuch P A)
found_such {V = V} {A = A} P settle f = record {
  one = PrefixFree-such P A f.one;
  find = λ left. elim (f.find left) [
    | inl s ↦ here left s (settle s.value)
    | inr lacks ↦ inr (record { none = λ v front rest p e. lacks.none v front rest p.spelled e })
  ];
} where
  here : (left : List ℕ) (s : Stands A left) → Settled (P s.value) → Stands (IsSuch P A) left ⊎ NoneIsSpelled (IsSuch P A) left
  here left s (inl p) = inl (record { value = s.value; front = s.front; rest = s.rest; spelled = record { holds = p; spelled = s.spelled }; joined = s.joined })
  here left s (inr not) = inr (record { none = λ v front rest p e. not (subst P (sym (only f.one s v front rest p.spelled e).value) p.holds) })

pub found_image : {U V : Type 0} {A : U → List ℕ → Type 0} (f : U → V) → IsFound A → IsFound (IsImage f A)
found_image {A = A} f g = record {
  one = PrefixFree-image f A g.one;
  find = λ left. elim (g.find left) [
    | inl s ↦ inl (record { value = f s.value; front = s.front; rest = s.rest; spelled = record { from = s.value; is = refl; spelled = s.spelled }; joined = s.joined })
    | inr lacks ↦ inr (record { none = λ v front rest p e. lacks.none p.from front rest p.spelled e })
  ];
}

pub found_pair : {V W : Type 0} {A : V → List ℕ → Type 0} {B : V → W → List ℕ → Type 0} → IsFound A → ((v : V) → IsFound (B v)) → IsFound (IsPair A B)
found_pair {V = V} {W = W} {A = A} {B = B} f g = record {
  one = PrefixFree-pair A B f.one (λ v. (g v).one);
  find = λ left. elim (f.find left) [
    | inl s ↦ then left s ((g s.value).find s.rest)
    | inr lacks ↦ inr (record { none = λ v front rest p e. lacks.none v.0 p.front (p.back ++ rest) p.first (split left v front rest p e) })
  ];
} where
  split : (left : List ℕ) (v : V × W) (front rest : List ℕ) (p : IsPair A B v front) → left ≡ front ++ rest → left ≡ p.front ++ (p.back ++ rest)
  split left v front rest p e = e ∙ ap (λ (c : List ℕ). c ++ rest) p.joined ∙ append_assoc p.front p.back rest

  then : (left : List ℕ) (s : Stands A left) → Stands (B s.value) s.rest ⊎ NoneIsSpelled (B s.value) s.rest → Stands (IsPair A B) left ⊎ NoneIsSpelled (IsPair A B) left
  then left s (inl t) = inl (record {
    value = (s.value, t.value);
    front = s.front ++ t.front;
    rest = t.rest;
    spelled = record { front = s.front; back = t.front; first = s.spelled; second = t.spelled; joined = refl };
    joined = s.joined ∙ ap (λ (c : List ℕ). s.front ++ c) t.joined ∙ sym (append_assoc s.front t.front t.rest);
  })
  then left s (inr lacks) = inr (record {
    none = λ v front rest p e.
        let same = only f.one s v.0 p.front (p.back ++ rest) p.first (split left v front rest p e) in
        lacks.none v.1 p.back rest (subst (λ (u : V). B u v.1 p.back) (sym same.value) p.second) same.rest;
  })

pub found_keyed : {V : Type 0} {A : ℕ → List ℕ → Type 0} {B : ℕ → V → List ℕ → Type 0} (key : V → ℕ) → IsFound A → ((k : ℕ) → IsFound (B k)) → IsFound (IsKeyed key A B)
found_keyed {V = V} {A = A} {B = B} key f g = record {
  one = PrefixFree-keyed key A B f.one (λ k. (g k).one);
  find = λ left. elim (both.find left) [
    | inl s ↦ here left s (settled_number (key s.value.1) s.value.0)
    | inr lacks ↦ inr (record { none = λ v front rest p e. lacks.none (key v, v) front rest p e })
  ];
} where
  both : IsFound (IsPair A B)
  both = found_pair f g

  here : (left : List ℕ) (s : Stands (IsPair A B) left) → Settled (key s.value.1 ≡ s.value.0) → Stands (IsKeyed key A B) left ⊎ NoneIsSpelled (IsKeyed key A B) left
  here left s (inl same) = inl (record { value = s.value.1; front = s.front; rest = s.rest; spelled = subst (λ (k : ℕ). IsPair A B (k, s.value.1) s.front) (sym same) s.spelled; joined = s.joined })
  here left s (inr not) = inr (record {
    none = λ v front rest p e.
        let same = (only both.one s (key v, v) front rest p e).value in
        not (ap (λ (q : ℕ × V). key q.1) same ∙ sym (ap (λ (q : ℕ × V). q.0) same));
  })

pub found_exactly : (wanted : List ℕ) → IsFound (IsExactly wanted)
found_exactly wanted = record { one = PrefixFree-exactly wanted; find = λ left. by left (begins wanted left) } where
  begins : (wanted left : List ℕ) → ((rest : List ℕ) × (left ≡ wanted ++ rest)) ⊎ ((rest : List ℕ) → left ≡ wanted ++ rest → ⊥)
  begins [] left = inl (left, refl)
  begins (w ∷ ws) [] = inr (λ rest e. cc)
  begins (w ∷ ws) (b ∷ bs) = elim (settled_number b w) [
    | inl same ↦ elim (begins ws bs) [ inl h ↦ inl (h.0, (λ i. same i ∷ h.1 i)) | inr lacks ↦ inr (λ rest e. let tail : bs ≡ ws ++ rest = cc in lacks rest tail) ]
    | inr not ↦ inr (λ rest e. let head : b ≡ w = cc in not head)
  ]

  by : (left : List ℕ) → ((rest : List ℕ) × (left ≡ wanted ++ rest)) ⊎ ((rest : List ℕ) → left ≡ wanted ++ rest → ⊥) → Stands (IsExactly wanted) left ⊎ NoneIsSpelled (IsExactly wanted) left
  by left (inl h) = inl (record { value = tt; front = wanted; rest = h.0; spelled = refl; joined = h.1 })
  by left (inr lacks) = inr (record { none = λ v front rest p e. lacks rest (e ∙ ap (λ (c : List ℕ). c ++ rest) p) })

pub found_never : {V : Type 0} → IsFound {V = V} IsNever
found_never = record { one = record { one = λ v w a b x y p q e. absurd p }; find = λ left. inr (record { none = λ v front rest p e. p }) }

pub found_either : {V : Type 0} (test : Bool) (A B : V → List ℕ → Type 0) → IsFound A → IsFound B → IsFound (IsEither test A B)
found_either true A B f g = found_as A (IsEither true A B) (λ v a p. p) (λ v a p. p) f
found_either false A B f g = found_as B (IsEither false A B) (λ v a p. p) (λ v a p. p) g

pub found_there : {V : Type 0} {A : V → List ℕ → Type 0} (here : Bool) → IsFound A → IsFound (IsThere here A)
found_there {V = V} {A = A} here f = record { one = PrefixFree-there here A f.one; find = by here } where
  absent : (left : List ℕ) → NoneIsSpelled A left → (v : Option V) (front rest : List ℕ) → IsThere true A v front → left ≡ front ++ rest → ⊥
  absent left lacks (Some v) front rest p e = lacks.none v front rest p e
  absent left lacks None front rest p e = p

  by : (here : Bool) (left : List ℕ) → Stands (IsThere here A) left ⊎ NoneIsSpelled (IsThere here A) left
  by true left = elim (f.find left) [
    | inl s ↦ inl (record { value = Some s.value; front = s.front; rest = s.rest; spelled = s.spelled; joined = s.joined })
    | inr lacks ↦ inr (record { none = absent left lacks })
  ]
  by false left = inl (record { value = None; front = []; rest = left; spelled = refl; joined = refl })

pub found_count : {V : Type 0} {A : V → List ℕ → Type 0} (count : ℕ) → IsFound A → IsFound (IsCount A count)
found_count {V = V} {A = A} count f = record { one = PrefixFree-count A count f.one; find = by count } where
  split : (left : List ℕ) (v : V) (vs : List V) (front rest : List ℕ) (p : IsEach A (v ∷ vs) front) → left ≡ front ++ rest → left ≡ p.0 ++ (p.1 ++ rest)
  split left v vs front rest p e = e ∙ ap (λ (c : List ℕ). c ++ rest) p.4 ∙ append_assoc p.0 p.1 rest

  lacks_first : (n : ℕ) (left : List ℕ) → NoneIsSpelled A left → (vs : List V) (front rest : List ℕ) → IsCount A (suc n) vs front → left ≡ front ++ rest → ⊥
  lacks_first n left lacks [] front rest p e = omega (arith, p.len)
  lacks_first n left lacks (v ∷ vs) front rest p e = lacks.none v p.each.0 (p.each.1 ++ rest) p.each.2 (split left v vs front rest p.each e)

  lacks_other : (n : ℕ) (left : List ℕ) (s : Stands A left) → NoneIsSpelled (IsCount A n) s.rest → (vs : List V) (front rest : List ℕ) → IsCount A (suc n) vs front → left ≡ front ++ rest → ⊥
  lacks_other n left s lacks [] front rest p e = omega (arith, p.len)
  lacks_other n left s lacks (v ∷ vs) front rest p e =
      lacks.none vs p.each.1 rest (record { len = omega (arith, p.len); each = p.each.3 }) (only f.one s v p.each.0 (p.each.1 ++ rest) p.each.2 (split left v vs front rest p.each e)).rest

  then : (n : ℕ) (left : List ℕ) (s : Stands A left) → Stands (IsCount A n) s.rest ⊎ NoneIsSpelled (IsCount A n) s.rest → Stands (IsCount A (suc n)) left ⊎ NoneIsSpelled (IsCount A (suc n)) left
  then n left s (inl t) = inl (record {
    value = s.value ∷ t.value;
    front = s.front ++ t.front;
    rest = t.rest;
    spelled = record { len = omega (arith, t.spelled.len); each = (s.front, t.front, s.spelled, t.spelled.each, refl) };
    joined = s.joined ∙ ap (λ (c : List ℕ). s.front ++ c) t.joined ∙ sym (append_assoc s.front t.front t.rest);
  })
  then n left s (inr lacks) = inr (record { none = lacks_other n left s lacks })

  by : (n : ℕ) (left : List ℕ) → Stands (IsCount A n) left ⊎ NoneIsSpelled (IsCount A n) left
  by zero left = inl (record { value = []; front = []; rest = left; spelled = record { len = refl; each = refl }; joined = refl })
  by (suc n) left = elim (f.find left) [ inl s ↦ then n left s (by n s.rest) | inr lacks ↦ inr (record { none = lacks_first n left lacks }) ]
