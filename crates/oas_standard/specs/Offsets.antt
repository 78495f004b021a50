-- How table-offsets are spelled (SEMI P39, START and END records).
use Rattle.std.specs.Prelude.{ℕ, Bool, List, []}
use Rattle.oas_num.specs.declared.refusals.Why.{Why}
use Rattle.oas_record.specs.Ends.{nothing}
use Rattle.oas_record.specs.Kinds.{Kind}
use Rattle.oas_record.specs.Trees.{items, either, exactly, image_any}
use Rattle.oas_standard.specs.Long.{long_number}

-- six pairs of a flag and an offset, of any values, in any number of bytes
abbrev pub long_offsets : Kind (Unit {0})
long_offsets = image_any nothing (items 12 long_number)

abbrev pub IsLongOffsets : Unit {0} → List ℕ → Type 0
IsLongOffsets = long_offsets.any

-- where a read of them may fail
abbrev pub LongOffsetsTook : Why → List ℕ → Type 0
LongOffsetsTook = long_offsets.took

-- the same, where there are any
abbrev pub long_offsets_part : Bool → Kind (Unit {0})
long_offsets_part there = either there long_offsets (exactly [])
