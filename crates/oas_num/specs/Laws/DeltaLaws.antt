-- The laws of deltas: no spelling is a prefix of another; a g-delta has one spelling in the shortest style, which is one of
-- its spellings.
use Rattle.std.proofs.Common.{refl, ℤ, pos, negsuc, nat_abs, ◌<◌, ◌^◌, ◌≡◌, ℕ, ◌+◌, ◌*◌, ◌/◌, ◌%◌, List, Some, sym, ap, ◌∙◌, arith}
use Rattle.oas_num.specs.declared.deltas.Delta1.{Delta1}
use Rattle.oas_num.specs.declared.deltas.GDelta.{GDelta}
use Rattle.oas_num.specs.Begun.{HasSome}
use Rattle.oas_num.specs.Grammar.{PrefixFree, IsPair, IsThere}
use Rattle.oas_num.specs.Laws.GrammarLaws.{PrefixFree-pair, PrefixFree-image, PrefixFree-there}
use Rattle.oas_num.specs.Combinators.{OneSpelling, IsWithin}
use Rattle.oas_num.specs.Laws.CombinatorLaws.{OneSpelling-pair}
use Rattle.oas_num.specs.Integers.{IsUnsigned, signed_of}
use Rattle.oas_num.specs.Laws.IntegerLaws.{PrefixFree-IsUnsigned, PrefixFree-IsSigned, HasSome-IsUnsigned, HasSome-IsSigned}
use Rattle.oas_num.specs.Laws.BegunLaws.{HasSome-image, HasSome-there, HasSome-within}
use Rattle.oas_num.specs.Style.{Style, Any, Shortest, unsigned_in, code}
use Rattle.oas_num.specs.Laws.StyleLaws.{PrefixFree-unsigned, OneSpelling-unsigned, code-signed_of, shortest-IsShortest}
use Rattle.oas_num.specs.Writing.{shortest, shortest_gdelta}
use Rattle.oas_num.specs.Deltas.{SpellsDelta1, SpellsDelta2, SpellsDelta3, SpellsGDelta, delta2_of, delta3_of, has_second, gdelta_of, gdelta_from, IsNumbers, long_numbers, gdelta_in, step}

-- no spelling of a 1-delta is a prefix of another
pub Delta1-one_front : PrefixFree SpellsDelta1
Delta1-one_front = record {
  one = λ v w a b x y p q e.
      let same = PrefixFree-IsSigned.one v.0 w.0 a b x y p q e in
      (same.0, ap (λ n. let d : Delta1 = record { 0 = n } in d) same.1);
}

-- nor of a 2-delta
pub Delta2-one_front : PrefixFree SpellsDelta2
Delta2-one_front = PrefixFree-image delta2_of IsUnsigned PrefixFree-IsUnsigned

-- nor of a 3-delta
pub Delta3-one_front : PrefixFree SpellsDelta3
Delta3-one_front = PrefixFree-image delta3_of IsUnsigned PrefixFree-IsUnsigned

-- the second number, if there is one
pub PrefixFree-second : (first : ℕ) → PrefixFree (IsThere (has_second first) IsUnsigned)
PrefixFree-second first = PrefixFree-there (has_second first) IsUnsigned PrefixFree-IsUnsigned

PrefixFree-numbers : PrefixFree IsNumbers
PrefixFree-numbers = PrefixFree-pair IsUnsigned (λ first. IsThere (has_second first) IsUnsigned) PrefixFree-IsUnsigned PrefixFree-second

-- nor of a g-delta
pub GDelta-one_front : PrefixFree SpellsGDelta
GDelta-one_front = PrefixFree-image gdelta_of IsNumbers PrefixFree-numbers

-- the step of the numbers of form 2
pub long_numbers-step : (d : GDelta) → step (signed_of (code d.dx)) (signed_of (code d.dy)) ≡ d
long_numbers-step d = (λ i. step (code-signed_of d.dx i) (code-signed_of d.dy i))

PrefixFree-long : PrefixFree (IsPair (unsigned_in Shortest) (λ _. unsigned_in Shortest))
PrefixFree-long = PrefixFree-pair (unsigned_in Shortest) (λ _. unsigned_in Shortest) (PrefixFree-unsigned Shortest) (λ _. PrefixFree-unsigned Shortest)

same_codes : (d e : GDelta) → 2 * code d.dx + 1 ≡ 2 * code e.dx + 1 → code d.dy ≡ code e.dy → d ≡ e
same_codes d e p q =
    let x : code d.dx ≡ code e.dx = omega (arith, p) in
    sym (long_numbers-step d) ∙ (λ i. step (signed_of (x i)) (signed_of (q i))) ∙ long_numbers-step e

-- in any style
pub PrefixFree-gdelta : (style : Style) → PrefixFree (gdelta_in style)
PrefixFree-gdelta Any = record { one = GDelta-one_front.one }
PrefixFree-gdelta Shortest = record {
  one = λ d e a b x y p q same.
      let both = PrefixFree-long.one (long_numbers d) (long_numbers e) a b x y p q same in
      (both.0, same_codes d e (ap (λ n. n.0) both.1) (ap (λ n. n.1) both.1));
}

-- in the shortest style a g-delta has one spelling
pub OneSpelling-gdelta : OneSpelling (gdelta_in Shortest)
OneSpelling-gdelta = record {
  same = λ d a b p q. (OneSpelling-pair (unsigned_in Shortest) (λ _. unsigned_in Shortest) OneSpelling-unsigned (λ _. OneSpelling-unsigned)).same (long_numbers d) a b p q;
}

long_first : (c : ℕ) → ((2 * c + 1) / 2 ≡ c) × ((2 * c + 1) % 2 ≡ 1)
long_first c = (omega arith, omega arith)

long_is : (d : GDelta) → gdelta_from (2 * code d.dx + 1) (Some (code d.dy)) ≡ d
long_is d = rw (long_first (code d.dx)).0 (long_numbers-step d)

there : (c n : ℕ) (bytes : List ℕ) → IsUnsigned n bytes → IsThere (has_second (2 * c + 1)) IsUnsigned (Some n) bytes
there c n bytes h = rw (long_first c).1 h

-- and it is one that the standard allows
pub IsWithin-gdelta : IsWithin (gdelta_in Shortest) (gdelta_in Any)
IsWithin-gdelta = record {
  within = λ d a p. record {
    from = (2 * code d.dx + 1, Some (code d.dy));
    is = long_is d;
    spelled = record {
      front = p.front;
      back = p.back;
      first = p.first.spelled;
      second = there (code d.dx) (code d.dy) p.back p.second.spelled;
      joined = p.joined;
    };
  };
}

code_small : (z : ℤ) (m : ℕ) → nat_abs z < m → code z < 2 * m
code_small (pos n) m lt = omega (arith, lt)
code_small (negsuc n) m lt = omega (arith, lt)

-- what the writer of g-deltas puts is that spelling
pub shortest_gdelta-spells : (d : GDelta) → nat_abs d.dx < 2 ^ 62 → nat_abs d.dy < 2 ^ 63 → gdelta_in Shortest d (shortest_gdelta d.dx d.dy)
unfolding shortest_gdelta
shortest_gdelta-spells d x y = record {
  front = shortest (2 * code d.dx + 1);
  back = shortest (code d.dy);
  first = shortest-IsShortest (2 * code d.dx + 1) (omega (arith, code_small d.dx (2 ^ 62) x));
  second = shortest-IsShortest (code d.dy) (omega (arith, code_small d.dy (2 ^ 63) y));
  joined = refl;
}

-- ---- some are spelled

pub Delta1-some : HasSome SpellsDelta1
Delta1-some = record { value = record { 0 = HasSome-IsSigned.value }; bytes = HasSome-IsSigned.bytes; spelled = HasSome-IsSigned.spelled }

pub Delta2-some : HasSome SpellsDelta2
Delta2-some = HasSome-image delta2_of IsUnsigned HasSome-IsUnsigned

pub Delta3-some : HasSome SpellsDelta3
Delta3-some = HasSome-image delta3_of IsUnsigned HasSome-IsUnsigned

pub HasSome-second : (first : ℕ) → HasSome (IsThere (has_second first) IsUnsigned)
HasSome-second first = HasSome-there (has_second first) IsUnsigned HasSome-IsUnsigned

no_step : HasSome (gdelta_in Shortest)
no_step = record { value = step (pos 0) (pos 0); bytes = shortest_gdelta (pos 0) (pos 0); spelled = shortest_gdelta-spells (step (pos 0) (pos 0)) (omega arith) (omega arith) }

pub HasSome-gdelta : (style : Style) → HasSome (gdelta_in style)
HasSome-gdelta Any = HasSome-within (gdelta_in Shortest) (gdelta_in Any) IsWithin-gdelta no_step
HasSome-gdelta Shortest = no_step

pub GDelta-some : HasSome SpellsGDelta
GDelta-some = HasSome-gdelta Any
