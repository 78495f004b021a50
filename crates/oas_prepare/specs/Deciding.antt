-- Which reasons the bytes decide, by the reasons of the profile in their place.
use Rattle.std.specs.Prelude.{Bool}
use Rattle.oas_num.specs.Reading as num
use Rattle.oas_num.specs.Refusing as file
use Rattle.oas_narrow.specs.WideWhy.{WideWhy}
use Rattle.oas_narrow.specs.Reasons.{plain_of}

-- the bytes decided, and not the source's end, a device or the memory
abbrev pub decides : WideWhy → Bool
decides why = file.decides (plain_of why)

-- the reason is about the file, and not about a device, a limit of the source, or the memory
abbrev pub is_of_file : WideWhy → Bool
is_of_file why = file.is_of_file (plain_of why)

-- the input ended, or stopped, before the bytes decided
abbrev pub is_cut : WideWhy → Bool
is_cut why = num.is_cut (plain_of why)
