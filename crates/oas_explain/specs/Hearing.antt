-- How a number is recognized in a line that is read byte by byte. The contract of `number_recognized` says which number that is in
-- the lines of runs.
use Rattle.std.specs.Prelude.{ℕ, ◌+◌, ◌-◌, ◌*◌, min, nat_le, ◌&&◌, ◌==◌, Bool, Option, Some, None, if◌then◌else◌}
use Rattle.oas_explain.specs.declared.hearing.Place.{Place}
use Rattle.oas_explain.specs.declared.hearing.Place.TheVariants as place

-- where no place goes on with this byte
abbrev pub anew : ℕ → Place
anew byte = if byte == 32 then place.Blank else place.Elsewhere

abbrev pub is_digit : ℕ → Bool
is_digit byte = nat_le 48 byte && nat_le byte 57

-- the place after one more byte
abbrev pub hears : Place → ℕ → Place
hears place.Elsewhere byte = anew byte
hears place.Blank byte = if is_digit byte then place.Number (byte - 48) else anew byte
hears (place.Number n) byte =
    if is_digit byte then place.Number (min (min (n * 10) 255 + (byte - 48)) 255) else (if byte == 32 then place.Behind n else anew byte)
hears (place.Behind n) byte = if byte == 97 then place.BehindA n else (if is_digit byte then place.Number (byte - 48) else anew byte)
hears (place.BehindA n) byte = if byte == 116 then place.BehindAt n else anew byte
hears (place.BehindAt n) byte = if byte == 32 then place.Offset n else anew byte
hears (place.Offset n) byte = if is_digit byte then place.Offset n else (if byte == 43 then place.Offset n else (if byte == 10 then place.Ended n else anew byte))
hears (place.Ended n) byte = anew byte

-- the number of a line that ended like this
abbrev pub heard : Place → Option ℕ
heard place.Elsewhere = None
heard place.Blank = None
heard (place.Number n) = None
heard (place.Behind n) = None
heard (place.BehindA n) = None
heard (place.BehindAt n) = None
heard (place.Offset n) = None
heard (place.Ended n) = Some n
