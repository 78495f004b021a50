-- The laws of reals in any style.
use Rattle.std.proofs.Common.{◌≡◌, ℕ, ◌+◌, ◌<◌, ◌≤◌, List, [], ◌∷◌, ◌++◌, Bool, true, false, Option, Some, None, refl, sym, ◌∙◌, arith}
use Rattle.std.specs.Prelude.{◌==◌, ◌%◌, if◌then◌else◌}
use Rattle.oas_num.specs.declared.reals.Real.{Real}
use Rattle.oas_num.specs.Begun.{HasSome}
use Rattle.oas_num.specs.Grammar.{PrefixFree, IsPair, IsSuch, IsThere}
use Rattle.oas_num.specs.Laws.GrammarLaws.{PrefixFree-pair, PrefixFree-such, PrefixFree-image, PrefixFree-there}
use Rattle.oas_num.specs.Combinators.{OneSpelling, IsWithin}
use Rattle.oas_num.specs.Laws.CombinatorLaws.{OneSpelling-keyed, OneSpelling-pair, PrefixFree-within}
use Rattle.oas_num.specs.Integers.{IsUnsigned}
use Rattle.oas_num.specs.Laws.IntegerLaws.{PrefixFree-IsUnsigned, HasSome-IsUnsigned, zero_spelled}
use Rattle.oas_num.specs.Style.{Style, Any, Shortest, IsShortest}
use Rattle.oas_num.specs.Laws.StyleLaws.{OneSpelling-unsigned, shortest-IsShortest}
use Rattle.oas_num.specs.Writing.{shortest}
use Rattle.oas_num.specs.Laws.BegunLaws.{HasSome-such, HasSome-pair, HasSome-there, HasSome-within}
use Rattle.oas_num.specs.Reals.{has_num, has_den, IsFraction, SpellsParts, SpellsReal, real_of, real_in, kind_of, IsPart, ShortestParts, part_of}

pub PrefixFree-kind : PrefixFree (IsSuch IsFraction IsUnsigned)
PrefixFree-kind = PrefixFree-such IsFraction IsUnsigned PrefixFree-IsUnsigned

pub PrefixFree-part : (here : Bool) → PrefixFree (IsThere here IsUnsigned)
PrefixFree-part here = PrefixFree-there here IsUnsigned PrefixFree-IsUnsigned

pub PrefixFree-parts : (kind : ℕ) → PrefixFree (SpellsParts kind)
PrefixFree-parts kind = PrefixFree-pair (IsThere (has_num kind) IsUnsigned) (λ _. IsThere (has_den kind) IsUnsigned) (PrefixFree-part (has_num kind)) (λ _. PrefixFree-part (has_den kind))

pub PrefixFree-SpellsReal : PrefixFree SpellsReal
PrefixFree-SpellsReal = PrefixFree-image real_of (IsPair (IsSuch IsFraction IsUnsigned) SpellsParts) (PrefixFree-pair (IsSuch IsFraction IsUnsigned) SpellsParts PrefixFree-kind PrefixFree-parts)

-- ---- the shortest

part_same : (here : Bool) (n : ℕ) (a b : List ℕ) → IsPart here n a → IsPart here n b → a ≡ b
part_same true n a b p q = OneSpelling-unsigned.same n a b p q
part_same false n a b p q = p.0 ∙ sym q.0

pub OneSpelling-real : OneSpelling (real_in Shortest)
OneSpelling-real = OneSpelling-keyed kind_of IsShortest ShortestParts OneSpelling-unsigned (λ kind. record {
  same = λ r a b p q. (OneSpelling-pair (IsPart (has_num kind)) (λ _. IsPart (has_den kind)) (record { same = part_same (has_num kind) })
      (λ _. record { same = part_same (has_den kind) })).same (r.num, r.den) a b p q;
})

-- a part where there is one
abbrev given : Bool → ℕ → Option ℕ
given true n = Some n
given false n = None

part_there : (here : Bool) (n : ℕ) (a : List ℕ) → IsPart here n a → IsThere here IsUnsigned (given here n) a
part_there true n a p = p.spelled
part_there false n a p = p.0

part_is : (here : Bool) (n : ℕ) (a : List ℕ) → IsPart here n a → part_of (given here n) ≡ n
part_is true n a p = refl
part_is false n a p = sym p.1

signs : (negative : Bool) (kind : ℕ) → kind % 2 ≡ 0 → ((kind + (if negative then 1 else 0)) % 2 == 1) ≡ negative
signs true kind e = let f : (kind + 1) % 2 ≡ 1 = omega (arith, e) in rw f refl
signs false kind e = let f : (kind + 0) % 2 ≡ 0 = omega (arith, e) in rw f refl

below_six : (negative : Bool) (kind : ℕ) → kind ≤ 4 → kind + (if negative then 1 else 0) < 6
below_six true kind le = omega arith
below_six false kind le = omega arith

base : (n d : Bool) → ((if d then 0 else if n then 2 else 4) % 2 ≡ 0) × ((if d then 0 else if n then 2 else 4) ≤ 4)
base n true = (refl, omega arith)
base true false = (refl, omega arith)
base false false = (refl, omega arith)

real_is : (r s : Real) → r.negative ≡ s.negative → r.num ≡ s.num → r.den ≡ s.den → r ≡ s
real_is r s e f g i = record { negative = e i; num = f i; den = g i }

real_within : (r : Real) (a : List ℕ) → real_in Shortest r a → SpellsReal r a
real_within r a p =
    let parts = p.second in
    let even = base (r.num == 1) (r.den == 1) in
    record {
      from = (kind_of r, (given (has_num (kind_of r)) r.num, given (has_den (kind_of r)) r.den));
      is = real_is _ _ (signs r.negative (if r.den == 1 then 0 else if r.num == 1 then 2 else 4) even.0) (part_is _ _ _ parts.first) (part_is _ _ _ parts.second);
      spelled = record {
        front = p.front;
        back = p.back;
        joined = p.joined;
        first = record { holds = below_six r.negative (if r.den == 1 then 0 else if r.num == 1 then 2 else 4) even.1; spelled = p.first.spelled };
        second = record { front = parts.front; back = parts.back; joined = parts.joined; first = part_there _ _ _ parts.first; second = part_there _ _ _ parts.second };
      };
    }

pub IsWithin-real : IsWithin (real_in Shortest) (real_in Any)
IsWithin-real = record { within = real_within }

pub PrefixFree-real : (style : Style) → PrefixFree (real_in style)
PrefixFree-real Any = PrefixFree-SpellsReal
PrefixFree-real Shortest = PrefixFree-within _ _ IsWithin-real PrefixFree-SpellsReal

-- ---- some are spelled

pub HasSome-kind : HasSome (IsSuch IsFraction IsUnsigned)
HasSome-kind = HasSome-such IsFraction IsUnsigned 0 (0 ∷ []) zero_spelled (omega arith)

pub HasSome-part : (here : Bool) → HasSome (IsThere here IsUnsigned)
HasSome-part here = HasSome-there here IsUnsigned HasSome-IsUnsigned

pub HasSome-parts : (kind : ℕ) → HasSome (SpellsParts kind)
HasSome-parts kind = HasSome-pair (IsThere (has_num kind) IsUnsigned) (λ _. IsThere (has_den kind) IsUnsigned) (HasSome-part (has_num kind)) (HasSome-part (has_den kind))

-- one, by type 0
one : Real
one = record { negative = false; num = 1; den = 1 }

one_real : real_in Shortest one (shortest 0 ++ (shortest 1 ++ []))
unfolding one
one_real = record {
  front = shortest 0;
  back = shortest 1 ++ [];
  first = shortest-IsShortest 0 (omega arith);
  second = record { front = shortest 1; back = []; first = shortest-IsShortest 1 (omega arith); second = (refl, refl); joined = refl };
  joined = refl;
}

one_is_spelled : HasSome (real_in Shortest)
one_is_spelled = record { value = one; bytes = shortest 0 ++ (shortest 1 ++ []); spelled = one_real }

pub HasSome-real : (style : Style) → HasSome (real_in style)
HasSome-real Any = HasSome-within (real_in Shortest) (real_in Any) IsWithin-real one_is_spelled
HasSome-real Shortest = one_is_spelled

pub HasSome-SpellsReal : HasSome SpellsReal
HasSome-SpellsReal = HasSome-real Any
