-- No spelling of an integer is a prefix of another, and each kind of integer has some.
use Rattle.std.proofs.Common.{◌≡◌, ℕ, List, [], ◌∷◌, ◌++◌, inl, inr, refl, sym, ap, ◌∙◌, arith}
use Rattle.oas_num.specs.declared.integers.Unsigned.{Unsigned}
use Rattle.oas_num.specs.declared.integers.Signed.{Signed}
use Rattle.oas_num.specs.Begun.{HasSome}
use Rattle.oas_num.specs.Grammar.{PrefixFree}
use Rattle.oas_num.specs.Laws.GrammarLaws.{PrefixFree-image}
use Rattle.oas_num.specs.Laws.BegunLaws.{HasSome-image}
use Rattle.oas_num.specs.Integers.{IsOpen, IsClosed, IsUnsigned, IsSigned, SpellsUnsigned, SpellsSigned, signed_of, value_of}

-- two numbers spelled at one place have the same bytes
pub closed_same : (a b x y : List ℕ) → IsClosed a → IsClosed b → a ++ x ≡ b ++ y → a ≡ b
closed_same [] b x y p q e = absurd p
closed_same (c ∷ a) [] x y p q e = absurd q
closed_same (c ∷ a) (d ∷ b) x y p q e =
    let head : c ≡ d = cc in
    let tail : a ++ x ≡ b ++ y = cc in
    elim p [
      | inl s ↦ elim q [ inl t ↦ cc | inr t ↦ absurd (omega arith) ]
      | inr s ↦ elim q [ inl t ↦ absurd (omega arith) | inr t ↦ let same = closed_same a b x y s.2 t.2 tail in cc ]
    ]

-- and are the same number
pub IsUnsigned-one_front : (m n : ℕ) (a b x y : List ℕ) → IsUnsigned m a → IsUnsigned n b → a ++ x ≡ b ++ y → (a ≡ b) × (m ≡ n)
IsUnsigned-one_front m n a b x y p q e =
    let same = closed_same a b x y p.closed q.closed e in
    (same, p.value ∙ ap value_of same ∙ sym q.value)

-- after bytes with more to follow
pub open_prefix : (front p r rest : List ℕ) → IsOpen front → IsClosed p → p ++ r ≡ front ++ rest → (q : List ℕ) × (p ≡ front ++ q) × IsClosed q × (q ++ r ≡ rest)
open_prefix [] p r rest o h e = (p, refl, h, e)
open_prefix (c ∷ front) [] r rest o h e = absurd h
open_prefix (c ∷ front) (d ∷ p) r rest o h e =
    let head : d ≡ c = cc in
    let tail : p ++ r ≡ front ++ rest = cc in
    elim h [
      | inl s ↦ absurd (omega arith)
      | inr s ↦ let more = open_prefix front p r rest o.2 s.2 tail in (more.0, let e : p ≡ front ++ more.0 = more.1 in cc, more.2, more.3)
    ]

pub PrefixFree-IsUnsigned : PrefixFree IsUnsigned
PrefixFree-IsUnsigned = record { one = IsUnsigned-one_front }

pub PrefixFree-IsSigned : PrefixFree IsSigned
PrefixFree-IsSigned = PrefixFree-image signed_of IsUnsigned PrefixFree-IsUnsigned

pub Unsigned-one_front : PrefixFree SpellsUnsigned
Unsigned-one_front = record {
  one = λ v w a b x y p q e.
      let same = IsUnsigned-one_front v.0 w.0 a b x y p q e in
      (same.0, ap (λ n. let u : Unsigned = record { 0 = n } in u) same.1);
}

pub Signed-one_front : PrefixFree SpellsSigned
Signed-one_front = record {
  one = λ v w a b x y p q e.
      let same = PrefixFree-IsSigned.one v.0 w.0 a b x y p q e in
      (same.0, ap (λ n. let u : Signed = record { 0 = n } in u) same.1);
}

-- ---- zero is spelled

pub zero_spelled : IsUnsigned 0 (0 ∷ [])
zero_spelled = record { closed = inl (omega arith, refl); short = omega arith; value = refl; fits = omega arith }

pub HasSome-IsUnsigned : HasSome IsUnsigned
HasSome-IsUnsigned = record { value = 0; bytes = 0 ∷ []; spelled = zero_spelled }

pub HasSome-IsSigned : HasSome IsSigned
HasSome-IsSigned = HasSome-image signed_of IsUnsigned HasSome-IsUnsigned

pub Unsigned-some : HasSome SpellsUnsigned
Unsigned-some = record { value = record { 0 = 0 }; bytes = 0 ∷ []; spelled = zero_spelled }

pub Signed-some : HasSome SpellsSigned
Signed-some = record { value = record { 0 = signed_of 0 }; bytes = 0 ∷ []; spelled = record { from = 0; is = refl; spelled = zero_spelled } }
