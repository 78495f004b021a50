-- What the records of a file give, in any style, are names, strings and numbers of 64 bits.
use Rattle.std.proofs.Common.{◌≡◌, ℕ, ◌*◌, ◌<◌, ◌≤◌, ◌^◌, Bool, true, false, List, ◌∷◌, Option, None, Some, subst, arith, []}
use Rattle.std.proofs.lemmas.Nat.{mul-le}
use Rattle.std.specs.List.{AllByRecursion}
use Rattle.oas_num.specs.declared.reals.Real.{Real}
use Rattle.oas_num.specs.Grammar.{IsSuch, IsThere, IsEach}
use Rattle.oas_num.specs.Integers.{IsUnsigned}
use Rattle.oas_num.specs.Style.{Any}
use Rattle.oas_num.specs.Reals.{part_of}
use Rattle.oas_num.specs.Ratio.{Ratio}
use Rattle.oas_record.specs.declared.records.Record.{Record}
use Rattle.oas_record.specs.Heads.{SpellsUnit}
use Rattle.oas_record.specs.Records.{id_of, after_id, record_in, IsInner}
use Rattle.oas_elements.specs.Sound.{IsUnit}
use Rattle.oas_form.proofs.FieldsGiven.{GivenFieldsFit, name_after}
use Rattle.oas_form.proofs.AllKinds.{fields_after}

-- ---- records

pub after_fits : (in_end : Bool) (r : Record) (bytes : List ℕ) → after_id Any in_end (id_of r) r bytes → GivenFieldsFit r
after_fits in_end r bytes h = record { name = name_after in_end r bytes h; fields = fields_after in_end r bytes h }

pub all_given : (in_end : Bool) (rs : List Record) (bytes : List ℕ) → IsEach (IsSuch IsInner (record_in Any in_end)) rs bytes → AllByRecursion GivenFieldsFit rs
all_given in_end [] bytes h = tt
all_given in_end (r ∷ rs) bytes h = (after_fits in_end r _ h.2.spelled.parts.second, all_given in_end rs h.1 h.3)

-- ---- the unit

part_fits : (here : Bool) (o : Option ℕ) (bytes : List ℕ) → IsThere here IsUnsigned o bytes → part_of o < 2 ^ 64
part_fits true (Some n) bytes h = h.fits
part_fits true None bytes h = omega arith
part_fits false (Some n) bytes h = absurd h
part_fits false None bytes h = omega arith

-- what divides a positive number is no larger
divided : (n d m : ℕ) → 0 < d → n * d ≡ m → n ≤ m
divided n d m some is = let more : n * 1 ≤ n * d = mul-le n 1 n d (omega arith) (omega (arith, some)) in omega (arith, more, is)

pub unit_given : (u : Ratio) (bytes : List ℕ) → SpellsUnit u bytes → IsUnit u
unit_given u bytes h =
    let s = h.spelled in
    let num : h.real.num < 2 ^ 64 = subst (λ (r : Real). r.num < 2 ^ 64) s.is (part_fits _ s.from.1.0 _ s.spelled.second.first) in
    let den : h.real.den < 2 ^ 64 = subst (λ (r : Real). r.den < 2 ^ 64) s.is (part_fits _ s.from.1.1 _ s.spelled.second.second) in
    let r = h.is_unit.reduces in
    record {
      lowest = r.lowest;
      num = omega (arith, num, divided u.num r.divisor h.real.num r.some r.num_is);
      den = omega (arith, den, divided u.den r.divisor h.real.den r.some r.den_is);
    }
