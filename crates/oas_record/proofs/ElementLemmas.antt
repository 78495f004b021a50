-- What a test says, and an optional number.
use Rattle.std.proofs.Common.{◌≡◌, Bool, true, false, IsTrue}
use Rattle.std.specs.Prelude.{◌↔◌}
use Rattle.oas_num.specs.Grammar.{PrefixFree, IsThere}
use Rattle.oas_num.specs.Laws.GrammarLaws.{PrefixFree-there}
use Rattle.oas_num.specs.Integers.{IsUnsigned}
use Rattle.oas_num.specs.Laws.IntegerLaws.{PrefixFree-IsUnsigned}

-- an optional number
pub PrefixFree-number_if : (there : Bool) → PrefixFree (IsThere there IsUnsigned)
PrefixFree-number_if there = PrefixFree-there there IsUnsigned PrefixFree-IsUnsigned

-- what a test says
pub allowed_by : {P : Type 0} {test : Bool} → (IsTrue test ↔ P) → test ≡ true → P
allowed_by says is = says.0 is

pub refused_by : {P : Type 0} {test : Bool} → (IsTrue test ↔ P) → test ≡ false → ¬ P
refused_by says isnt p = let is = says.1 p in absurd cc
