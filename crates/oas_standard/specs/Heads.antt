-- How START is spelled, with a unit of any type (SEMI P39, START record).
use Rattle.std.proofs.Common.{◌≡◌, ℕ, ◌<◌, Bool, true, false, Some, None, List, [], ◌∷◌, inl, inr, refl, arith}
use Rattle.std.specs.Prelude.{◌==◌}
use Rattle.oas_num.specs.declared.refusals.Why.{Why}
use Rattle.oas_num.specs.declared.refusals.Why.TheVariants.{Unit as UnitIsRefused, Write, OffsetFlag, OutOfPlace}
use Rattle.oas_num.specs.Laws.BegunLaws.{HasSome-such}
use Rattle.oas_num.specs.Pieces.{Unless}
use Rattle.oas_record.specs.Ends.{IsNumber}
use Rattle.oas_record.specs.Found.{Settled, settled_number, settled_both}
use Rattle.oas_record.specs.FoundParts.{settled_below}
use Rattle.oas_record.specs.Heads.{IsFlag, IsOtherId}
use Rattle.oas_record.specs.Kinds.{Kind}
use Rattle.oas_record.specs.Trees.{IsTest, pair, such, image_any}
use Rattle.oas_standard.specs.declared.heads.WideStart.{WideStart}
use Rattle.oas_standard.specs.declared.reals.WideReal.{WideReal}
use Rattle.oas_standard.specs.Long.{IsLong, long_number, long_test, zero_long}
use Rattle.oas_standard.specs.Offsets.{long_offsets_part}
use Rattle.oas_standard.specs.Reals.{wide_real}
use Rattle.oas_standard.specs.Versions.{long_version}

-- ---- the id

one_spelled : IsLong 1 (1 ∷ [])
one_spelled = record { closed = inl (omega arith, refl); value = omega arith; fits = omega arith }

pub id_test : IsTest IsLong (IsNumber 1) IsOtherId
id_test = record {
  settled = λ id. settled_number id 1;
  some = HasSome-such (IsNumber 1) IsLong 1 (1 ∷ []) one_spelled refl;
  never = λ id h. let e : Write ≡ OutOfPlace id = h.0 in cc;
}

abbrev pub start_id : Kind ℕ
start_id = such long_number (IsNumber 1) IsOtherId id_test

-- ---- the unit

-- a real that is positive
abbrev pub IsPositive : WideReal → Type 0
IsPositive r = (r.negative ≡ false) × ((0 < r.num) × (0 < r.den))

settled_false : (b : Bool) → Settled (b ≡ false)
settled_false true = inr (λ e. cc)
settled_false false = inl refl

abbrev one_real : WideReal
one_real = record { negative = false; num = 1; den = 1; doubled = 0; halved = 0 }

-- type 0, and 1
one_real_spelled : wide_real.any one_real (0 ∷ 1 ∷ [])
one_real_spelled = record {
  from = (0, one_real);
  is = refl;
  spelled = record {
    front = 0 ∷ [];
    back = 1 ∷ [];
    first = record { holds = omega arith; spelled = zero_long };
    second = record { from = (Some 1, None); is = refl; spelled = record { front = 1 ∷ []; back = []; first = one_spelled; second = refl; joined = refl } };
    joined = refl;
  };
}

pub unit_test : IsTest wide_real.any IsPositive (Unless IsPositive UnitIsRefused)
unit_test = record {
  settled = λ r. settled_both (settled_false r.negative) (settled_both (settled_below 0 r.num) (settled_below 0 r.den));
  some = HasSome-such IsPositive wide_real.any one_real (0 ∷ 1 ∷ []) one_real_spelled (refl, (omega arith, omega arith));
  never = λ r h. let e : Write ≡ UnitIsRefused = h.0 in cc;
}

abbrev pub unit_kind : Kind WideReal
unit_kind = such wide_real IsPositive (Unless IsPositive UnitIsRefused) unit_test

abbrev pub SpellsUnit : WideReal → List ℕ → Type 0
SpellsUnit = unit_kind.any

abbrev pub UnitTook : Why → List ℕ → Type 0
UnitTook = unit_kind.took

-- ---- START

pub flag_test : IsTest IsLong IsFlag (Unless IsFlag OffsetFlag)
flag_test = long_test IsFlag OffsetFlag (λ flag. settled_below flag 2) (omega arith) (λ e. cc)

-- the offset-flag: 0 or 1
abbrev pub flag_kind : Kind ℕ
flag_kind = such long_number IsFlag (Unless IsFlag OffsetFlag) flag_test

abbrev pub WideStartParts : Type 0
WideStartParts = ℕ × (Unit {0} × (WideReal × (ℕ × Unit {0})))

abbrev pub wide_start_of : WideStartParts → WideStart
wide_start_of p = record { unit = p.1.1.0; flag_in_end = p.1.1.1.0 == 1 }

-- id, version, unit, flag, and table-offsets where the flag is 0, with integers of any number of bytes
abbrev pub wide_start : Kind WideStart
wide_start =
    image_any wide_start_of
    (pair start_id (λ _.
    pair long_version (λ _.
    pair unit_kind (λ _.
    pair flag_kind (λ flag.
    long_offsets_part (flag == 0))))))

abbrev pub SpellsWideStart : WideStart → List ℕ → Type 0
SpellsWideStart = wide_start.any

-- where a read of START may fail
abbrev pub WideStartTook : Why → List ℕ → Type 0
WideStartTook = wide_start.took
