-- Which placement of the profile a placement by reals is translated to (SEMI P39, PLACEMENT records). Its magnification has
-- to be 1 and its angle a whole multiple of 90 degrees, exactly (own rule): the profile's reader decides that.
use Rattle.std.specs.Option.{option_map}
use Rattle.std.specs.Prelude.{◌≡◌, ℕ, ◌*◌, ◌/◌, ◌%◌, ◌^◌, ◌<◌, ◌==◌, ◌&&◌, nat_lt, not, if◌then◌else◌, Bool, false, Option, None, Some}
use Rattle.oas_num.specs.declared.reals.Real.{Real}
use Rattle.oas_record.specs.declared.placements.Placement.{Placement}
use Rattle.oas_record.specs.declared.placements.Turn.TheVariants.{Degrees}
use Rattle.oas_record.specs.declared.records.Record.TheVariants as record_of
use Rattle.oas_block.specs.WidePlacement.{WidePlacement}
use Rattle.oas_block.specs.WideReal.{WideReal}
use Rattle.oas_block.specs.WideRecord.{WideRecord}
use Rattle.oas_block.specs.WideRecord.TheVariants as wide

-- ---- what reals are

-- the fraction of a real, whatever its parts
abbrev pub num_of : WideReal → ℕ
num_of r = r.num * 2 ^ r.doubled

abbrev pub den_of : WideReal → ℕ
den_of r = r.den * 2 ^ r.halved

-- it is 1
pub record IsOne (r : WideReal) : Type 0 where
  pub positive : r.negative ≡ false
  pub some : 0 < r.den
  pub equal : num_of r ≡ den_of r

-- in degrees it is this many quarter turns
pub record IsQuarters (r : WideReal) (quarters : ℕ) : Type 0 where
  pub some : 0 < r.den
  pub equal : num_of r ≡ quarters * (90 * den_of r)

-- ---- the same, as tests

abbrev pub is_one : WideReal → Bool
is_one r = not r.negative && (nat_lt 0 r.den && (num_of r == den_of r))

-- its quarter turns, modulo whole turns, if it is a whole multiple of 90
abbrev pub quarters_of : WideReal → Option ℕ
quarters_of r = if nat_lt 0 r.den && (num_of r % (90 * den_of r) == 0) then Some (num_of r / (90 * den_of r) % 4) else None

-- ---- reals of the profile

-- neither doubled nor halved, as those of types 0 to 5
abbrev pub is_plain : WideReal → Bool
is_plain r = (r.doubled == 0) && (r.halved == 0)

abbrev pub plain_of : WideReal → Real
plain_of r = record { negative = r.negative; num = r.num; den = r.den }

-- 1 for a float that is 1, or else 0, which the profile refuses
abbrev pub magnification_of : WideReal → Real
magnification_of r = if is_plain r then plain_of r else record { negative = false; num = if is_one r then 1 else 0; den = 1 }

-- this many degrees; where it is no multiple of 90 one degree, which the profile refuses
abbrev pub degrees_by : Option ℕ → ℕ
degrees_by None = 1
degrees_by (Some quarters) = 90 * quarters

-- for a float less than four quarter turns
abbrev pub angle_of : WideReal → Real
angle_of r = if is_plain r then plain_of r else record { negative = r.negative; num = degrees_by (quarters_of r); den = 1 }

-- ---- placements

abbrev pub placement_of : WidePlacement → Placement
placement_of p = record { cell = p.cell; turn = Degrees (option_map magnification_of p.magnification) (option_map angle_of p.angle); flip = p.flip; spot = p.spot }

-- a record; if it is a placement by reals, the placement of the profile that it is translated to
abbrev pub with_turns : WideRecord → WideRecord
with_turns (wide.Placement p) = wide.Profile (record_of.Placement (placement_of p))
with_turns w = w
