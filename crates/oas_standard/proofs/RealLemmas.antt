-- Reals of the profile among those of all types.
use Rattle.std.proofs.Common.{◌≡◌, ℕ, Bool, true, false, List, Option, None, Some, refl, ap, arith}
use Rattle.std.specs.Option.{option_map}
use Rattle.std.specs.Prelude.{◌==◌}
use Rattle.oas_num.specs.declared.reals.Real.{Real}
use Rattle.oas_num.specs.Combinators.{IsEither}
use Rattle.oas_num.specs.Grammar.{IsPair, IsThere}
use Rattle.oas_num.specs.Integers.{IsUnsigned}
use Rattle.oas_num.specs.Reals.{Parts, has_num, has_den, SpellsReal}
use Rattle.oas_standard.specs.declared.reals.WideReal.{WideReal}
use Rattle.oas_standard.specs.Long.{IsLong, long_unsigned}
use Rattle.oas_standard.specs.Reals.{SpellsWideReal, single, double, fraction, fraction_of, wide_of}
use Rattle.oas_standard.proofs.ReadingLemmas.{unequal}

otherwise : {V : Type 0} (A B : V → List ℕ → Type 0) (test : Bool) (v : V) (bytes : List ℕ) → test ≡ false → B v bytes → IsEither test A B v bytes
otherwise A B true v bytes e p = absurd cc
otherwise A B false v bytes e p = p

part_widened : (given : Bool) (part : Option ℕ) (bytes : List ℕ) → IsThere given IsUnsigned part bytes → IsThere given IsLong part bytes
part_widened true None bytes p = p
part_widened true (Some n) bytes p = long_unsigned n bytes p
part_widened false None bytes p = p
part_widened false (Some n) bytes p = p

parts_widened : (type : ℕ) (parts : Parts) (bytes : List ℕ) → IsPair (IsThere (has_num type) IsUnsigned) (λ _. IsThere (has_den type) IsUnsigned) parts bytes
    → IsPair (IsThere (has_num type) IsLong) (λ _. IsThere (has_den type) IsLong) parts bytes
parts_widened type parts bytes p = record {
  front = p.front;
  back = p.back;
  first = part_widened (has_num type) parts.0 p.front p.first;
  second = part_widened (has_den type) parts.1 p.back p.second;
  joined = p.joined;
}

pub real_widened : (r : Real) (bytes : List ℕ) → SpellsReal r bytes → SpellsWideReal (wide_of r) bytes
real_widened r bytes p =
    let s = p.spelled in
    let type = p.from.0 in
    let of : WideReal = fraction_of type p.from.1 in
    record {
      from = (type, of);
      is = ap wide_of p.is;
      spelled = record {
        front = s.front;
        back = s.back;
        first = record { holds = omega (arith, s.first.holds); spelled = long_unsigned type s.front s.first.spelled };
        second = otherwise single.any (IsEither (type == 7) double.any (fraction type).any) (type == 6) of s.back (unequal (λ e. omega (arith, e, s.first.holds)))
            (otherwise double.any (fraction type).any (type == 7) of s.back (unequal (λ e. omega (arith, e, s.first.holds))) (record { from = p.from.1; is = refl; spelled = parts_widened type p.from.1 s.back s.second }));
        joined = s.joined;
      };
    }

pub real_if_widened : (given : Bool) (r : Option Real) (bytes : List ℕ) → IsThere given SpellsReal r bytes → IsThere given SpellsWideReal (option_map wide_of r) bytes
real_if_widened true None bytes p = p
real_if_widened true (Some r) bytes p = real_widened r bytes p
real_if_widened false None bytes p = p
real_if_widened false (Some r) bytes p = p
