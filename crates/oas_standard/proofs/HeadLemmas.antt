-- The version and table-offsets of the profile, with integers of at most ten bytes, among those of the standard.
use Rattle.std.proofs.Common.{ℕ, Bool, true, false, List, [], ◌∷◌, refl}
use Rattle.oas_num.specs.Grammar.{IsEach}
use Rattle.oas_num.specs.Integers.{IsUnsigned}
use Rattle.oas_num.specs.Style.{Any}
use Rattle.oas_record.specs.Ends.{offsets_if}
use Rattle.oas_record.specs.Heads.{version, version_in}
use Rattle.oas_standard.specs.Long.{IsLong, long_unsigned}
use Rattle.oas_standard.specs.Offsets.{long_offsets_part}
use Rattle.oas_standard.specs.Versions.{SpellsVersion, label_long}

pub version_widened : (v : Unit {0}) (bytes : List ℕ) → version_in Any v bytes → SpellsVersion v bytes
version_widened v bytes p = record { from = version; is = refl; spelled = record { holds = refl; spelled = label_long version bytes p } }

each_long : (ns bytes : List ℕ) → IsEach IsUnsigned ns bytes → IsEach IsLong ns bytes
each_long [] bytes p = p
each_long (n ∷ ns) bytes p = (p.0, p.1, long_unsigned n p.0 p.2, each_long ns p.1 p.3, p.4)

pub offsets_widened : (there : Bool) (v : Unit {0}) (bytes : List ℕ) → offsets_if there v bytes → (long_offsets_part there).any v bytes
offsets_widened true v bytes p = record { from = p.from; is = refl; spelled = record { len = p.spelled.len; each = each_long p.from bytes p.spelled.each } }
offsets_widened false v bytes p = p
