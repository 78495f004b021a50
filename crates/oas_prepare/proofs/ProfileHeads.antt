-- START of the profile is START of the standard.
use Rattle.std.proofs.Common.{◌≡◌, ℕ, zero, suc, ◌+◌, ◌*◌, ◌^◌, ◌<◌, Bool, true, false, List, Option, None, Some, refl, ap, subst, ◌∙◌, arith}
use Rattle.std.specs.Prelude.{◌==◌}
use Rattle.oas_num.specs.declared.reals.Real.{Real}
use Rattle.oas_num.specs.Grammar.{IsThere}
use Rattle.oas_num.specs.Integers.{IsUnsigned}
use Rattle.oas_num.specs.Ratio.{Ratio, Reduces}
use Rattle.oas_num.specs.Reals.{has_num, has_den, part_of, SpellsReal}
use Rattle.oas_num.specs.Style.{Any}
use Rattle.oas_record.specs.declared.heads.Head.{Head}
use Rattle.oas_record.specs.Heads.{head_in, IsUnit}
use Rattle.oas_narrow.specs.WideStart.{WideStart}
use Rattle.oas_narrow.specs.Heads.{IsPositive}
use Rattle.oas_narrow.specs.Long.{long_unsigned}
use Rattle.oas_narrow.specs.Reals.{wide_of}
use Rattle.oas_narrow.proofs.HeadLemmas.{version_widened, offsets_widened}
use Rattle.oas_narrow.proofs.RealLemmas.{real_widened}
use Rattle.oas_narrow.specs.Preparable.{IsUnitOf}
use Rattle.oas_narrow.specs.WideFiles.{wide_head}
use Rattle.oas_prepare.proofs.Doubling.{times_some}

-- ---- reals

-- the parts fit
part_fits : (there : Bool) (part : Option ℕ) (bytes : List ℕ) → IsThere there IsUnsigned part bytes → part_of part < 2 ^ 64
part_fits true (Some n) bytes p = p.fits
part_fits true None bytes p = absurd p
part_fits false (Some n) bytes p = absurd p
part_fits false None bytes p = omega arith

real_fits : (r : Real) (bytes : List ℕ) → SpellsReal r bytes → (r.num < 2 ^ 64) × (r.den < 2 ^ 64)
real_fits r bytes p =
    let s = p.spelled.second in
    subst (λ (x : Real). (x.num < 2 ^ 64) × (x.den < 2 ^ 64)) p.is (part_fits (has_num p.from.0) p.from.1.0 s.front s.first, part_fits (has_den p.from.0) p.from.1.1 s.back s.second)

-- ---- the unit

divided_fits : (q g n : ℕ) → 0 < g → q * g ≡ n → n < 2 ^ 64 → q < 2 ^ 64
divided_fits q zero n some e less = absurd (omega (arith, some))
divided_fits q (suc g) n some e less = let f : q * suc g ≡ q * g + q = grind arith in omega (arith, e, less, f)

unit_widened : (r : Real) (bytes : List ℕ) (unit : Ratio) → SpellsReal r bytes → IsUnit r unit → IsUnitOf (wide_of r) unit
unit_widened r bytes unit p is =
    let fits = real_fits r bytes p in
    let same_num : r.num ≡ r.num * 2 ^ 0 = omega arith in
    let same_den : r.den ≡ r.den * 2 ^ 0 = omega arith in
    record {
      reduces = subst (λ n. Reduces n (r.den * 2 ^ 0) unit) same_num (subst (λ d. Reduces r.num d unit) same_den is.reduces);
      num_fits = divided_fits unit.num is.reduces.divisor r.num is.reduces.some is.reduces.num_is fits.0;
      den_fits = divided_fits unit.den is.reduces.divisor r.den is.reduces.some is.reduces.den_is fits.1;
    }

positive : (r : Real) (unit : Ratio) → IsUnit r unit → IsPositive (wide_of r)
positive r unit is =
    let d = is.reduces in (
      is.positive,
      (
        subst (λ n. 0 < n) d.num_is (times_some unit.num d.divisor d.lowest.num_some d.some),
        subst (λ n. 0 < n) d.den_is (times_some unit.den d.divisor d.lowest.den_some d.some),
      ),
    )

-- ---- START

pub record Widened (head : Head) (bytes : List ℕ) : Type 0 where
  pub start : WideStart
  pub begun : wide_head start bytes
  pub flag : start.flag_in_end ≡ head.flag_in_end
  pub is_unit : IsUnitOf start.unit head.unit

pub head_widened : (head : Head) (bytes : List ℕ) → head_in Any head bytes → Widened head bytes
head_widened head bytes h =
    let start = h.spelled.second in
    let s = start.spelled in
    let version = s.second in
    let unit = version.second in
    let flag = unit.second in
    let r : Real = unit.first.real in
    let w : WideStart = record { unit = wide_of r; flag_in_end = start.from.1.1.1.0 == 1 } in
    record {
      start = w;
      begun = record {
        from = (tt, w);
        is = refl;
        spelled = record {
          front = h.spelled.front;
          back = h.spelled.back;
          first = h.spelled.first;
          second = record {
            from = (start.from.0, (tt, (wide_of r, (start.from.1.1.1.0, tt))));
            is = refl;
            spelled = record {
              front = s.front;
              back = s.back;
              first = record { holds = s.first.holds; spelled = long_unsigned start.from.0 s.front s.first.spelled };
              second = record {
                front = version.front;
                back = version.back;
                first = version_widened tt version.front version.first;
                second = record {
                  front = unit.front;
                  back = unit.back;
                  first = record { holds = positive r start.from.1.1.0 unit.first.is_unit; spelled = real_widened r unit.front unit.first.spelled };
                  second = record {
                    front = flag.front;
                    back = flag.back;
                    first = record { holds = flag.first.holds; spelled = long_unsigned start.from.1.1.1.0 flag.front flag.first.spelled };
                    second = offsets_widened (start.from.1.1.1.0 == 0) tt flag.back flag.second;
                    joined = flag.joined;
                  };
                  joined = unit.joined;
                };
                joined = version.joined;
              };
              joined = s.joined;
            };
          };
          joined = h.spelled.joined;
        };
      };
      flag = ap (λ (x : Head). x.flag_in_end) (start.is ∙ h.is);
      is_unit = subst (IsUnitOf (wide_of r)) (ap (λ (x : Head). x.unit) (start.is ∙ h.is)) (unit_widened r unit.front start.from.1.1.0 unit.first.spelled unit.first.is_unit);
    }
