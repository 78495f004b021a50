-- How placed cells are turned (SEMI P39, PLACEMENT records).
use Rattle.std.specs.Prelude.{ℕ, ◌*◌, ◌/◌, ◌%◌, ◌==◌, ◌&&◌, nat_lt, not, if◌then◌else◌, Bool, true, false, Option, None, Some}
use Rattle.oas_num.specs.declared.reals.Real.{Real}
use Rattle.oas_record.specs.declared.placements.Turn.{Turn}
use Rattle.oas_record.specs.declared.placements.Turn.TheVariants.{Quarters, Degrees}
use Rattle.oas_elements.specs.declared.element.Turns.{Turns}
use Rattle.oas_elements.specs.declared.element.Turns.TheVariants.{T0, T1, T2, T3}

-- whether a magnification is 1, as it is where it isn't given
abbrev pub is_one : Option Real → Bool
is_one None = true
is_one (Some m) = not m.negative && ((m.num == m.den) && nat_lt 0 m.den)

-- whether an angle in degrees is a whole multiple of 90, as it is where it isn't given
abbrev pub is_quarters : Option Real → Bool
is_quarters None = true
is_quarters (Some a) = nat_lt 0 a.den && (a.num % (90 * a.den) == 0)

-- this many quarter turns, counterclockwise or clockwise
abbrev pub turns_by : Bool → ℕ → Turns
turns_by clockwise n =
    if n % 4 == 0 then T0
    else if n % 4 == 1 then (if clockwise then T3 else T1)
    else if n % 4 == 2 then T2
    else if clockwise then T1 else T3

-- the quarter turns of a placement whose angle is a whole multiple of 90 degrees
abbrev pub turned : Turn → Turns
turned (Quarters n) = turns_by false n
turned (Degrees m None) = T0
turned (Degrees m (Some a)) = turns_by a.negative (a.num / (90 * a.den))
