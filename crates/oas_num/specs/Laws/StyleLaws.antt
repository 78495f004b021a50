-- The laws of numbers in any style.
use Rattle.std.proofs.Common.{◌≡◌, ℕ, ℤ, pos, negsuc, zero, suc, ◌+◌, ◌*◌, ◌/◌, ◌%◌, ◌<◌, ◌^◌, List, inl, inr, [], ◌∷◌, ◌++◌, refl, sym, ap, ◌∙◌, arith}
use Rattle.std.specs.Prelude.{neg_ℤ}
use Rattle.std.proofs.lemmas.Bool.{cases_lt}
use Rattle.oas_num.specs.Begun.{HasSome}
use Rattle.oas_num.specs.Grammar.{PrefixFree}
use Rattle.oas_num.specs.Integers.{IsUnsigned, signed_of, value_of}
use Rattle.oas_num.specs.Laws.IntegerLaws.{PrefixFree-IsUnsigned, PrefixFree-IsSigned}
use Rattle.oas_num.specs.Writing.{shortest}
use Rattle.oas_num.specs.Laws.WritingLaws.{shortest_spells, shortest_least, shortest_only}
use Rattle.oas_num.specs.Combinators.{OneSpelling, IsWithin}
use Rattle.oas_num.specs.Laws.CombinatorLaws.{PrefixFree-within}
use Rattle.oas_num.specs.Style.{Style, Any, Shortest, IsShortest, IsShortestSigned, unsigned_in, signed_in, code}

pub IsShortest-is : (n : ℕ) (a : List ℕ) → IsShortest n a → a ≡ shortest n
IsShortest-is n a h = shortest_only n a h.spelled (h.least (shortest n) (shortest_spells n h.spelled.fits))

pub shortest-IsShortest : (n : ℕ) → n < 2 ^ 64 → IsShortest n (shortest n)
shortest-IsShortest n lt = record { spelled = shortest_spells n lt; least = λ others h. shortest_least n others h }

-- in the shortest style a number has one spelling
pub OneSpelling-unsigned : OneSpelling (unsigned_in Shortest)
OneSpelling-unsigned = record { same = λ n a b p q. IsShortest-is n a p ∙ sym (IsShortest-is n b q) }

-- and it is one that the standard allows
pub IsWithin-unsigned : IsWithin (unsigned_in Shortest) (unsigned_in Any)
IsWithin-unsigned = record { within = λ n a p. p.spelled }

pub IsWithin-signed : IsWithin (signed_in Shortest) (signed_in Any)
IsWithin-signed = record { within = λ z a p. record { from = p.from; is = p.is; spelled = p.shortest.spelled } }

pub code-signed_of : (z : ℤ) → signed_of (code z) ≡ z
code-signed_of (pos n) = let e : (2 * n) % 2 ≡ 0 = omega arith in let h : (2 * n) / 2 ≡ n = omega arith in rw (e, h) refl
code-signed_of (negsuc n) = let e : (2 * n + 3) % 2 ≡ 1 = omega arith in let h : (2 * n + 3) / 2 ≡ suc n = omega arith in rw (e, h) refl

code_even : (n h : ℕ) → n ≡ 2 * h → code (pos h) ≡ n
code_even n h e = omega (arith, e)

code_odd : (n h : ℕ) → n ≡ 2 * h + 1 → (n ≡ 1 → ⊥) → code (neg_ℤ (pos h)) ≡ n
code_odd n zero e plain = absurd (plain (omega (arith, e)))
code_odd n (suc h) e plain = omega (arith, e)

pub signed_of-code : (n : ℕ) → (n ≡ 1 → ⊥) → code (signed_of n) ≡ n
signed_of-code n plain =
    elim (cases_lt (n % 2) 1) [
      | inl small ↦ let e : n % 2 ≡ 0 = omega (arith, small) in rw e (code_even n (n / 2) (omega (arith, e)))
      | inr large ↦ let e : n % 2 ≡ 1 = omega (arith, large) in rw e (code_odd n (n / 2) (omega (arith, e)) plain)
    ]

pub IsShortestSigned-is : (z : ℤ) (a : List ℕ) → IsShortestSigned z a → a ≡ shortest (code z)
IsShortestSigned-is z a h = IsShortest-is h.from a h.shortest ∙ ap shortest (sym (signed_of-code h.from h.plain) ∙ ap code h.is)

code_plain : (z : ℤ) → code z ≡ 1 → ⊥
code_plain (pos n) e = absurd (omega (arith, e))
code_plain (negsuc n) e = absurd (omega (arith, e))

pub shortest-IsShortestSigned : (z : ℤ) → code z < 2 ^ 64 → IsShortestSigned z (shortest (code z))
shortest-IsShortestSigned z lt = record { from = code z; is = code-signed_of z; plain = code_plain z; shortest = shortest-IsShortest (code z) lt }

pub OneSpelling-signed : OneSpelling (signed_in Shortest)
OneSpelling-signed = record { same = λ z a b p q. IsShortestSigned-is z a p ∙ sym (IsShortestSigned-is z b q) }

-- an id of one byte
pub one_byte : (n m : ℕ) (a x y : List ℕ) → m < 128 → IsUnsigned n a → a ++ x ≡ (m ∷ []) ++ y → n ≡ m
one_byte n m [] x y lt h e = absurd h.closed
one_byte n m (c ∷ a) x y lt h e =
    let head : c ≡ m = cc in
    elim h.closed [
      | inl s ↦ let v : n ≡ value_of (c ∷ []) = h.value ∙ ap (λ (t : List ℕ). value_of (c ∷ t)) s.1 in omega (arith, v, head)
      | inr s ↦ absurd (omega (arith, head, s.0))
    ]

-- no number's spelling is a prefix of another, in any style
pub PrefixFree-unsigned : (style : Style) → PrefixFree (unsigned_in style)
PrefixFree-unsigned Any = PrefixFree-IsUnsigned
PrefixFree-unsigned Shortest = PrefixFree-within _ _ IsWithin-unsigned PrefixFree-IsUnsigned

pub PrefixFree-signed : (style : Style) → PrefixFree (signed_in style)
PrefixFree-signed Any = PrefixFree-IsSigned
PrefixFree-signed Shortest = PrefixFree-within _ _ IsWithin-signed PrefixFree-IsSigned

-- each number has a spelling, in any style
pub unsigned_spelled : (style : Style) (n : ℕ) → n < 2 ^ 64 → unsigned_in style n (shortest n)
unsigned_spelled Any n lt = shortest_spells n lt
unsigned_spelled Shortest n lt = shortest-IsShortest n lt

pub HasSome-unsigned : (style : Style) → HasSome (unsigned_in style)
HasSome-unsigned style = record { value = 0; bytes = shortest 0; spelled = unsigned_spelled style 0 (omega arith) }

pub HasSome-signed : (style : Style) → HasSome (signed_in style)
HasSome-signed Any = record { value = pos 0; bytes = shortest 0; spelled = IsWithin-signed.within (pos 0) (shortest 0) (shortest-IsShortestSigned (pos 0) (omega arith)) }
HasSome-signed Shortest = record { value = pos 0; bytes = shortest 0; spelled = shortest-IsShortestSigned (pos 0) (omega arith) }
