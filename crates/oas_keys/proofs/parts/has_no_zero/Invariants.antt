use Rattle.std.specs.Prelude.{IsTrue}
use Rattle.std.proofs.Common.{take}
use Rattle.oas_keys.specs.Laws.FieldLaws.{NoZero}
use Rattle.oas_keys.proofs.parts.has_no_zero.Given as goal

abbrev pub invariant-loop-byte : goal.invariant-loop-byte
invariant-loop-byte l = IsTrue l.none → NoZero (take l.byte-index l.bytes)
