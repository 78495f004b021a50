use Rattle.std.specs.Prelude.{IsTrue, ◌↔◌}
use Rattle.std.proofs.Common.{take}
use Rattle.oas_num.specs.Texts.{IsIn, IsOf}
use Rattle.oas_num.proofs.texts.is_of.Given as goal

-- whether all bytes so far are in the class
abbrev pub invariant-loop-byte : goal.invariant-loop-byte
invariant-loop-byte l = IsTrue l.all ↔ IsOf (IsIn l.class) (take l.byte-index l.bytes)
